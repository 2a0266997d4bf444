use Rattle.std.proofs.Common.{◌≡◌, ◌+◌, refl, [], drop, length, sym, subst}
use Rattle.std.proofs.Math.ListN.{drop_of_length-le}
use Rattle.ge_execd.specs.Daemons.{new_daemon}
use Rattle.ge_model_keeping.specs.Wholes.{in_snapshot, in_record}
use Rattle.ge_spool.specs.Opening.{raw_state}
use Rattle.ge_keeping.proofs.Walking.{HasWalked, HasWalked-none, HasWalked-more, HasWalked-fault, HasWalked-all, bad-snapshot, next-below, part-good, part-bad, at_item}
use Rattle.ge_host.specs.Standing.{daemon_in}
use Rattle.ge_host.proofs.reading.read_back.Goals as goal

pub returns-in-None : goal.returns-in-None
returns-in-None c =
    let state = raw_state c.args.raw.now in
    let start = in_snapshot (daemon_in c.args.host.now) (new_daemon c.args.host.now) in
    let step = in_record (daemon_in c.args.host.now) (new_daemon c.args.host.now) in
    let bad = part-bad c.in_ok-read.read (start c.bytes.result.now) 18 c.in_ok-read.ensures c.in-None.is in
    (refl, bad-snapshot start step state (rw c.bytes.ensures at bad))

pub loop-record-init : goal.loop-record-init
loop-record-init c =
    let state = raw_state c.args.raw.now in
    let start = in_snapshot (daemon_in c.args.host.now) (new_daemon c.args.host.now) in
    let step = in_record (daemon_in c.args.host.now) (new_daemon c.args.host.now) in
    let good = part-good c.in_ok-read.read c.in-Some.daemon (start c.bytes.result.now) 18 c.in_ok-read.ensures c.in-Some.is in
    let first = HasWalked-none start step state c.in-Some.daemon (rw c.bytes.ensures at good) c.requires in
    subst (λ size. HasWalked start step state c.items-records.result.now (18 + size) c.in-Some.daemon) (sym c.len.ensures)
    (subst (λ xs. HasWalked start step state xs (18 + length c.args.raw.now.snapshot) c.in-Some.daemon) (sym c.items-records.ensures) first)

pub read_behind-requires : goal.read_behind-requires
read_behind-requires c =
    let state = raw_state c.args.raw.now in
    let start = in_snapshot (daemon_in c.args.host.now) (new_daemon c.args.host.now) in
    let step = in_record (daemon_in c.args.host.now) (new_daemon c.args.host.now) in
    let xs = c.items-records.result.now in
    let here = at_item xs c.loop-record.record-index c.record-item.result c.loop-record-test.true c.record-item.is in
    let at = subst (λ rest. HasWalked start step state rest c.loop-record.gate c.loop-record.daemon) here c.loop-record.invariant in
    next-below start step state c.record-item.result (drop (c.loop-record.record-index + 1) xs) c.loop-record.gate c.loop-record.daemon at

pub returns-in-Err : goal.returns-in-Err
returns-in-Err c =
    let state = raw_state c.args.raw.now in
    let start = in_snapshot (daemon_in c.args.host.now) (new_daemon c.args.host.now) in
    let step = in_record (daemon_in c.args.host.now) (new_daemon c.args.host.now) in
    let xs = c.items-records.result.now in
    let here = at_item xs c.loop-record.record-index c.record-item.result c.loop-record-test.true c.record-item.is in
    let at = subst (λ rest. HasWalked start step state rest c.loop-record.gate c.loop-record.daemon) here c.loop-record.invariant in
    HasWalked-fault start step state c.record-item.result (drop (c.loop-record.record-index + 1) xs) c.loop-record.gate c.loop-record.daemon at
    c.in-Err.fault c.args.raw.now.area c.read_behind.new.daemon c.in-Err.ensures

pub loop-record-preserved : goal.loop-record-preserved
loop-record-preserved c =
    let state = raw_state c.args.raw.now in
    let start = in_snapshot (daemon_in c.args.host.now) (new_daemon c.args.host.now) in
    let step = in_record (daemon_in c.args.host.now) (new_daemon c.args.host.now) in
    let xs = c.items-records.result.now in
    let here = at_item xs c.loop-record.record-index c.record-item.result c.loop-record-test.true c.record-item.is in
    let at = subst (λ rest. HasWalked start step state rest c.loop-record.gate c.loop-record.daemon) here c.loop-record.invariant in
    subst (λ gate. HasWalked start step state (drop (c.loop-record.record-index + 1) xs) gate c.read_behind.new.daemon) (sym c.in-Ok.ensures.0)
    (HasWalked-more start step state c.record-item.result (drop (c.loop-record.record-index + 1) xs) c.loop-record.gate c.loop-record.daemon
    c.read_behind.new.daemon at c.in-Ok.ensures.1)

pub returns : goal.returns
returns c =
    let state = raw_state c.args.raw.now in
    let start = in_snapshot (daemon_in c.args.host.now) (new_daemon c.args.host.now) in
    let step = in_record (daemon_in c.args.host.now) (new_daemon c.args.host.now) in
    let xs = c.items-records.result.now in
    let none : drop c.loop-record.record-index xs ≡ [] = drop_of_length-le xs c.loop-record-test.false in
    HasWalked-all start step state c.loop-record.gate c.loop-record.daemon
    (subst (λ rest. HasWalked start step state rest c.loop-record.gate c.loop-record.daemon) none c.loop-record.invariant)
