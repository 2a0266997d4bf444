use Rattle.std.proofs.Common.{rules, ◌≡◌, subst}
use Rattle.std.specs.Prelude.{IfOk}
use Rattle.ge_model_rows.specs.EventRows.{Planned}
use Rattle.ge_submitting.proofs.Altered.{behind_of}
use Rattle.ge_submitting.proofs.altering.alter_unsettled.Goals as goal

pub returns : goal.returns
returns c =
    subst (λ (p : Planned). IfOk c.refuse_or_accept.result (λ planned. planned ≡ p))
    (behind_of c.args.c.now c.args.e.now c.args.options.now.items c.args.numbers.now c.in_ok-once.once c.in_ok-patches.patches c.args.noted c.note_cycle.new.faults
    (search rules) (search rules) (search rules))
    c.refuse_or_accept.ensures
