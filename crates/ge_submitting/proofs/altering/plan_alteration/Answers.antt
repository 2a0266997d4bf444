use Rattle.std.proofs.Common.{rules, ◌≡◌, subst}
use Rattle.std.specs.Prelude.{IfOk}
use Rattle.ge_model_rows.specs.EventRows.{Planned}
use Rattle.ge_submitting.proofs.Altered.{settled_plan, behind_plan}
use Rattle.ge_submitting.proofs.altering.plan_alteration.Goals as goal

pub returns-in-Some : goal.returns-in-Some
returns-in-Some c =
    subst (λ (p : Planned). IfOk c.refuse.result (λ planned. planned ≡ p))
    (settled_plan c.args.cluster.now c.args.e.now c.args.options.now.items c.args.numbers.now c.note_numbers.new.faults (search rules) c.in-Some.refusal c.in-Some.ensures)
    c.refuse.ensures

pub returns-in-None : goal.returns-in-None
returns-in-None c =
    subst (λ (p : Planned). IfOk c.alter_unsettled.result (λ planned. planned ≡ p))
    (behind_plan c.args.cluster.now c.args.e.now c.args.options.now.items c.args.numbers.now c.note_numbers.new.faults (search rules))
    c.alter_unsettled.ensures
