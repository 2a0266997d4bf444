use Rattle.std.proofs.Common.{◌∙◌, sym, ap}
use Rattle.std.specs.Option.{option_copied}
use Rattle.ge_order.proofs.Told.{only_found}
use Rattle.ge_order.proofs.tasks.only_task_at.Goals as goal

pub returns-in-Some-clause-task : goal.returns-in-Some-clause-task
returns-in-Some-clause-task c =
    λ found. only_found c.args.c.now c.args.now c.args.number c.in-Some.job.now c.only_task.result (sym (c.job_at.ensures.job found) ∙ ap option_copied c.in-Some.is) c.only_task.ensures
