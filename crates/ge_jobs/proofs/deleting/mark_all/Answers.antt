use Rattle.ge_jobs.specs.Deletions.{mark_number}
use Rattle.ge_jobs.proofs.Folded.{one_further}
use Rattle.ge_jobs.proofs.deleting.mark_all.Goals as goal

pub loop-number-preserved : goal.loop-number-preserved
loop-number-preserved c =
    one_further mark_number c.args.numbers.now c.loop-number.number-index _ c.loop-number.running c.change-found.new.self _
    c.loop-number-test.true c.change-found.ensures.changed c.loop-number.invariant
