use Rattle.ge_model_jobs.specs.Holds.{with_holding}
use Rattle.ge_jobs.proofs.Folded.{one_further}
use Rattle.ge_jobs.proofs.holding.predecessor_tasks.Goals as goal

pub loop-number-preserved : goal.loop-number-preserved
loop-number-preserved c =
    one_further (with_holding c.args.jobs.now) c.items-number-items.result.now c.loop-number.number-index _ c.loop-number.tasks c.in_ok-tasks.tasks _
    c.loop-number-test.true c.in_ok-tasks.ensures c.loop-number.invariant
