use Rattle.std.specs.BTreeMap.{is_at}
use Rattle.ge_rows.specs.contracts.marks.JobMarkOrd.TheImpl as order
use Rattle.ge_jobs.proofs.NamedRows.{delete_moves}
use Rattle.ge_jobs.proofs.deleting.DeletedTryEditJob.try_edit.Goals as goal

pub returns-clause-moves : goal.returns-clause-moves
returns-clause-moves c = λ mark.
    delete_moves c.args.self.now.tasks.now (is_at (order.ghosts.cmp mark)) c.args.self.now.force c.args.job.now _ c.in_ok-delete_in.ensures.ok
