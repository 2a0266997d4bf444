use Rattle.std.proofs.Common.{◌≡◌, subst}
use Rattle.std.specs.Prelude.{IfOk}
use Rattle.ge_model_rows.specs.EventRows.{Planned}
use Rattle.ge_job_options.proofs.Noted.{refused_plan, accepted_plan}
use Rattle.ge_submitting.proofs.submitting.plan_submission.Goals as goal

pub returns-in-Some : goal.returns-in-Some
returns-in-Some c =
    subst (λ (p : Planned). IfOk c.refuse.result (λ planned. planned ≡ p))
    (refused_plan c.args.cluster.now c.args.e.now c.args.options.now.items c.args.words.now c.args.script.now _ c.read_submission.new.faults c.note_join.new.faults c.note_sizes.new.faults
    c.tasks_submitted-tasks.ensures.range c.in_ok-looked.ensures.1 c.note_join.ensures c.note_sizes.ensures c.in-Some.refusal c.in-Some.is)
    c.refuse.ensures

pub returns-in-None : goal.returns-in-None
returns-in-None c =
    subst (λ (p : Planned). IfOk c.accept_submission.result (λ planned. planned ≡ p))
    (accepted_plan c.args.cluster.now c.args.e.now c.args.options.now.items c.args.words.now c.args.script.now _ c.read_submission.new.faults c.note_join.new.faults c.note_sizes.new.faults
    c.tasks_submitted-tasks.ensures.range c.in_ok-looked.ensures.1 c.note_join.ensures c.note_sizes.ensures c.in-None.is)
    c.accept_submission.ensures
