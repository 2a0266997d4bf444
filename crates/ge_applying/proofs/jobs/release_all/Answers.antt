use Rattle.ge_model_jobs.specs.Altering.{change_job, freed}
use Rattle.ge_applying.proofs.Folded.{one_further}
use Rattle.ge_applying.proofs.jobs.release_all.Goals as goal

pub loop-number-preserved : goal.loop-number-preserved
loop-number-preserved c =
    one_further (change_job (freed c.args.bits)) c.args.numbers.now c.loop-number.number-index _ c.loop-number.jobs c.release.new.jobs _
    c.loop-number-test.true c.release.ensures c.loop-number.invariant
