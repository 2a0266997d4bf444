use Rattle.std.proofs.Common.{◌≡◌, drop}
use Rattle.std.specs.Prelude.{flat_map}
use Rattle.ge_collections.specs.Keyed.{at_number}
use Rattle.ge_model_rows.specs.Faults.{after_faults}
use Rattle.ge_model_core.specs.Holding.{job_hold_faults}
use Rattle.ge_deleting.proofs.holding.note_jobs.Given as goal

abbrev pub invariant-loop-number : goal.invariant-loop-number
invariant-loop-number l =
    after_faults l.faults (flat_map (λ number. job_hold_faults l.asker.0 l.asker.1 l.bits (at_number l.asker.0.jobs number)) (drop l.number-index l.numbers))
    ≡ after_faults l.fn.faults (flat_map (λ number. job_hold_faults l.asker.0 l.asker.1 l.bits (at_number l.asker.0.jobs number)) l.numbers)
