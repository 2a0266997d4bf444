use Rattle.std.specs.BTreeMap.{is_at}
use Rattle.ge_rows.specs.contracts.marks.JobMarkOrd.TheImpl as order
use Rattle.ge_jobs.proofs.MovedMarks.{end_moves}
use Rattle.ge_jobs.proofs.ending.EndedTryEditJob.try_edit.Goals as goal

pub returns-clause-moves : goal.returns-clause-moves
returns-clause-moves c = λ mark.
    end_moves (is_at (order.ghosts.cmp mark)) c.args.self.now.after c.args.self.now.task c.args.job.now _ c.in_ok-end_in.ensures.ok
