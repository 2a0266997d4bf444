use Rattle.std.proofs.Common.{◌≡◌, [], ◌∷◌, ap, ◌∙◌, subst}
use Rattle.std.specs.Prelude.{IfOk}
use Rattle.ge_model_rows.specs.EntryRows.{Submit}
use Rattle.ge_model_rows.specs.EventRows.{Planned}
use Rattle.ge_model_core.specs.Answers.{changed}
use Rattle.ge_submitting.proofs.Accepted.{accepted}
use Rattle.ge_submitting.proofs.submitting.accept_submission.Goals as goal

pub returns : goal.returns
returns c =
    subst (λ (p : Planned). IfOk c.accept.result (λ planned. planned ≡ p))
    (ap (λ job. changed c.args.e.now (Submit job) (c.in_ok-line.line ∷ [])) c.in_ok-row.ensures
    ∙ accepted c.args.c.now c.args.e.now c.args.options.now.items c.args.words.now c.args.script.now _ c.args.looked c.in_ok-after.after c.in_ok-after.after_each c.in_ok-job.job c.in_ok-line.line
    c.requires.range c.requires.looked c.in_ok-after.ensures.first c.in_ok-after.ensures.second c.in_ok-job.ensures c.in_ok-line.ensures)
    c.accept.ensures
