use Rattle.std.proofs.Common.{sym, ◌∙◌}
use Rattle.std.specs.BTreeMap.{is_at}
use Rattle.ge_rows.specs.Marks.{own_marks}
use Rattle.ge_rows.specs.contracts.marks.JobMarkOrd.TheImpl as order
use Rattle.ge_jobs.proofs.MovedMarks.{start_moves}
use Rattle.ge_jobs.proofs.starting.StartedTryEditJob.try_edit.Goals as goal

pub returns-in_ok-_before-clause-moves : goal.returns-in_ok-_before-clause-moves
returns-in_ok-_before-clause-moves c = λ mark.
    start_moves (is_at (order.ghosts.cmp mark)) _ (own_marks c.args.job.now) c.args.job.now.running c.insert.new.self _ c.in_ok-running.running _
    (sym c.contains.ensures ∙ c.if-contains.true) c.orderly.ensures.rising c.in_ok-_before.ensures.ok c.in_ok-running.ensures
