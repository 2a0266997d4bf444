use Rattle.std.proofs.Common.{◌≡◌, ◌+◌, ◌≤◌, ◌∙◌, sym, ap, subst, refl, arith, length, [], ◌∷◌, ◌++◌, suc, take, drop, length-append}
use Rattle.std.proofs.lemmas.Bool.{eqb-true}
use Rattle.ge_model_journal.specs.Area.{records_from}
use Rattle.ge_spool.specs.Reads.{and_records}
use Rattle.ge_spool.proofs.Looking.{records-more, records-end, records-bad, records-missing, no-items}
use Rattle.ge_spool.proofs.Places.{end-found}
use Rattle.ge_spool.proofs.surveying.read_records.Goals as goal

pub returns-then-not-is_open_gate-clause-read : goal.returns-then-not-is_open_gate-clause-read
returns-then-not-is_open_gate-clause-read c =
    let parts = c.in-Some.ensures.cases in
    let all = records_from (length c.args.bytes.now) c.args.start c.args.bytes.now in
    let fuel = c.loop-gate.invariant.0.0 in
    let enough : suc (length c.in-Some.after.now) ≤ fuel = omega (arith, parts.1, c.loop-gate.invariant.0.1) in
    let so_far = subst (λ rest. and_records c.loop-gate.records (records_from fuel c.loop-gate.place rest) ≡ all) parts.0 c.loop-gate.invariant.0.2 in
    records-end fuel c.loop-gate.place c.in-Some.gate.now c.in-Some.after.now c.loop-gate.records all enough (sym c.is_open_gate.ensures ∙ c.if-not-is_open_gate.true) so_far

pub returns-in_default-body_length-clause-read : goal.returns-in_default-body_length-clause-read
returns-in_default-body_length-clause-read c =
    let parts = c.in-Some.ensures.cases in
    let all = records_from (length c.args.bytes.now) c.args.start c.args.bytes.now in
    let fuel = c.loop-gate.invariant.0.0 in
    let enough : suc (length c.in-Some.after.now) ≤ fuel = omega (arith, parts.1, c.loop-gate.invariant.0.1) in
    let so_far = subst (λ rest. and_records c.loop-gate.records (records_from fuel c.loop-gate.place rest) ≡ all) parts.0 c.loop-gate.invariant.0.2 in
    let opened = eqb-true c.in-Some.gate.now 1 (sym c.is_open_gate.ensures ∙ c.if-not-is_open_gate.false) in
    (refl, records-bad fuel c.loop-gate.place c.in-Some.gate.now c.in-Some.after.now c.loop-gate.records all enough opened c.in_default-body_length.ensures so_far)

-- the list ends behind its records
pub returns-then-not-is_open_gate-clause-places : goal.returns-then-not-is_open_gate-clause-places
returns-then-not-is_open_gate-clause-places c =
    end-found (length c.args.bytes.now) c.args.start c.args.bytes.now c.loop-gate.records c.loop-gate.place (returns-then-not-is_open_gate-clause-read c)

pub loop-gate-preserved : goal.loop-gate-preserved
loop-gate-preserved c =
    let parts = c.in-Some.ensures.cases in
    let all = records_from (length c.args.bytes.now) c.args.start c.args.bytes.now in
    let fuel = c.loop-gate.invariant.0.0 in
    let enough : suc (length c.in-Some.after.now) ≤ fuel = omega (arith, parts.1, c.loop-gate.invariant.0.1) in
    let so_far = subst (λ rest. and_records c.loop-gate.records (records_from fuel c.loop-gate.place rest) ≡ all) parts.0 c.loop-gate.invariant.0.2 in
    let size = c.in-Some-body_length.size in
    let length_is = c.in-Some-body_length.ensures in
    let body = c.split_at-in-Some.result.0.now in
    let others = c.split_at-in-Some.result.1.now in
    let pushed : c.push.new.self ≡ c.loop-gate.records ++ body ∷ [] = c.in_ok-push.ensures.ok ∙ ap (λ r. c.loop-gate.records ++ r ∷ []) c.in_ok-record.ensures in
    let sizes : length others + size + 4 ≡ length c.in-Some.after.now = omega (arith, c.split_at.ensures.back_len, c.split_at-in-Some.ensures.back_len) in
    let opened = eqb-true c.in-Some.gate.now 1 (sym c.is_open_gate.ensures ∙ c.if-not-is_open_gate.false) in
    let more = records-more fuel c.loop-gate.place c.in-Some.gate.now size c.in-Some.after.now body others c.loop-gate.records all enough opened
    length_is.0 length_is.1
    (c.split_at-in-Some.ensures.front ∙ ap (λ xs. take size xs) c.split_at.ensures.back)
    (c.split_at-in-Some.ensures.back ∙ ap (λ xs. drop size xs) c.split_at.ensures.back) sizes so_far in (
      (more.0, more.1, rw pushed more.2),
      omega (arith, c.loop-gate.invariant.1, parts.1, sizes),
      omega (arith, ap length pushed, length-append c.loop-gate.records (body ∷ []), c.loop-gate.invariant.2),
    )

pub returns-clause-read : goal.returns-clause-read
returns-clause-read c =
    (refl, records-missing c.loop-gate.invariant.0.0 c.loop-gate.place c.loop-gate.rest.now c.loop-gate.records _ (no-items c.loop-gate.rest.now c.in_default.ensures.cases) c.loop-gate.invariant.0.2)
