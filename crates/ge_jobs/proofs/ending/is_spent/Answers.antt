use Rattle.std.proofs.Common.{◌∙◌, sym}
use Rattle.ge_jobs.proofs.Kept.{spent, left}
use Rattle.ge_jobs.proofs.ending.is_spent.Goals as goal

pub returns-then-is_gone : goal.returns-then-is_gone
returns-then-is_gone c = c.has_one.ensures ∙ spent c.args.after c.args.task c.args.job.now (sym c.is_gone.ensures ∙ c.if-is_gone.true) c.requires

pub returns-else-is_gone : goal.returns-else-is_gone
returns-else-is_gone c = left c.args.after c.args.task c.args.job.now (sym c.is_gone.ensures ∙ c.if-is_gone.false) c.spans-queued.ensures.form c.spans-broken.ensures.form
