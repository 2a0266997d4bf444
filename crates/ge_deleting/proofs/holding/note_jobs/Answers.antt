use Rattle.ge_collections.specs.Keyed.{at_number}
use Rattle.ge_model_core.specs.Holding.{job_hold_faults}
use Rattle.ge_deleting.proofs.Noted.{noted_further}
use Rattle.ge_deleting.proofs.holding.note_jobs.Goals as goal

pub loop-number-preserved : goal.loop-number-preserved
loop-number-preserved c =
    noted_further (λ number. job_hold_faults c.args.asker.now.0 c.args.asker.now.1 c.args.bits (at_number c.args.asker.now.0.jobs number)) c.args.numbers.now
    c.loop-number.number-index _ c.loop-number.faults c.note_job.new.faults _ c.loop-number-test.true c.note_job.ensures c.loop-number.invariant
