use Rattle.std.proofs.Common.{◌≡◌, ◌+◌, refl, ◌∙◌, [], drop, length, Err, sym, subst}
use Rattle.std.proofs.Math.ListN.{drop_of_length-le}
use Rattle.ge_model_program.specs.StandsFor.{cluster_in_snapshot, cluster_after_record}
use Rattle.ge_spool.specs.Opening.{raw_state}
use Rattle.ge_keeping.specs.Reading.{ReadsBack}
use Rattle.ge_keeping.proofs.Walking.{HasWalked, HasWalked-none, HasWalked-more, HasWalked-fault, HasWalked-all, bad-snapshot, next-below, part-good, part-bad, at_item}
use Rattle.ge_master.proofs.ReadBack.{held-walked}
use Rattle.ge_master.proofs.reading.read_back.Goals as goal

pub returns-in-None : goal.returns-in-None
returns-in-None c =
    let state = raw_state c.args.raw.now in
    let start = cluster_in_snapshot state.format in
    let step = cluster_after_record state.format in
    let bad = part-bad c.in_ok-read.read (start c.bytes.result.now) 18 c.in_ok-read.ensures c.in-None.is in
    (refl, sym (held-walked state) ∙ bad-snapshot start step state (rw c.bytes.ensures at bad))

pub loop-record-init : goal.loop-record-init
loop-record-init c =
    let state = raw_state c.args.raw.now in
    let start = cluster_in_snapshot state.format in
    let step = cluster_after_record state.format in
    let good = part-good c.in_ok-read.read c.in-Some.cluster (start c.bytes.result.now) 18 c.in_ok-read.ensures c.in-Some.is in
    let first = HasWalked-none start step state c.in-Some.cluster (rw c.bytes.ensures at good) c.requires in
    subst (λ size. HasWalked start step state c.items-records.result.now (18 + size) c.in-Some.cluster) (sym c.len.ensures)
    (subst (λ xs. HasWalked start step state xs (18 + length c.args.raw.now.snapshot) c.in-Some.cluster) (sym c.items-records.ensures) first)

pub apply_behind-requires : goal.apply_behind-requires
apply_behind-requires c =
    let state = raw_state c.args.raw.now in
    let start = cluster_in_snapshot state.format in
    let step = cluster_after_record state.format in
    let xs = c.items-records.result.now in
    let here = at_item xs c.loop-record.record-index c.record-item.result c.loop-record-test.true c.record-item.is in
    let at = subst (λ rest. HasWalked start step state rest c.loop-record.gate c.loop-record.cluster) here c.loop-record.invariant in
    next-below start step state c.record-item.result (drop (c.loop-record.record-index + 1) xs) c.loop-record.gate c.loop-record.cluster at

pub returns-in-Err : goal.returns-in-Err
returns-in-Err c =
    let state = raw_state c.args.raw.now in
    let start = cluster_in_snapshot state.format in
    let step = cluster_after_record state.format in
    let xs = c.items-records.result.now in
    let here = at_item xs c.loop-record.record-index c.record-item.result c.loop-record-test.true c.record-item.is in
    let at = subst (λ rest. HasWalked start step state rest c.loop-record.gate c.loop-record.cluster) here c.loop-record.invariant in
    subst (λ want. ReadsBack (Err c.in-Err.fault) c.args.raw.now.area want) (held-walked state)
    (HasWalked-fault start step state c.record-item.result (drop (c.loop-record.record-index + 1) xs) c.loop-record.gate c.loop-record.cluster at
    c.in-Err.fault c.args.raw.now.area c.apply_behind.new.cluster c.in-Err.ensures)

pub loop-record-preserved : goal.loop-record-preserved
loop-record-preserved c =
    let state = raw_state c.args.raw.now in
    let start = cluster_in_snapshot state.format in
    let step = cluster_after_record state.format in
    let xs = c.items-records.result.now in
    let here = at_item xs c.loop-record.record-index c.record-item.result c.loop-record-test.true c.record-item.is in
    let at = subst (λ rest. HasWalked start step state rest c.loop-record.gate c.loop-record.cluster) here c.loop-record.invariant in
    subst (λ gate. HasWalked start step state (drop (c.loop-record.record-index + 1) xs) gate c.apply_behind.new.cluster) (sym c.in-Ok.ensures.0)
    (HasWalked-more start step state c.record-item.result (drop (c.loop-record.record-index + 1) xs) c.loop-record.gate c.loop-record.cluster
    c.apply_behind.new.cluster at c.in-Ok.ensures.1)

pub returns : goal.returns
returns c =
    let state = raw_state c.args.raw.now in
    let start = cluster_in_snapshot state.format in
    let step = cluster_after_record state.format in
    let xs = c.items-records.result.now in
    let none : drop c.loop-record.record-index xs ≡ [] = drop_of_length-le xs c.loop-record-test.false in
    sym (held-walked state) ∙ HasWalked-all start step state c.loop-record.gate c.loop-record.cluster
    (subst (λ rest. HasWalked start step state rest c.loop-record.gate c.loop-record.cluster) none c.loop-record.invariant)
