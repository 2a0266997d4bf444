use Rattle.ge_jobs.proofs.NarrowedRows.{delete_narrowed}
use Rattle.ge_jobs.proofs.deleting.delete_named.Goals as goal

pub returns-clause-ok : goal.returns-clause-ok
returns-clause-ok c =
    delete_narrowed c.args.force c.in-Some.job.now c.in_ok-part.part c.args.named.now c.args.jobs.now c.delete.new.jobs c.args.number
    c.in-Some.ensures c.in_ok-part.ensures.deleted c.in_ok-delete.ensures.ok
