use Rattle.ge_collections.specs.Keyed.{drop_number}
use Rattle.ge_jobs.proofs.Folded.{one_further}
use Rattle.ge_jobs.proofs.deleting.remove_all.Goals as goal

pub loop-number-preserved : goal.loop-number-preserved
loop-number-preserved c =
    one_further drop_number c.args.numbers.now c.loop-number.number-index _ c.loop-number.running c.remove-task.new.self _
    c.loop-number-test.true c.remove-task.ensures.rest c.loop-number.invariant
