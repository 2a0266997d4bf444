use Rattle.ge_outside.specs.MemoryDisks.{disk_told}
use Rattle.ge_spool.specs.Settled.{KeepsRoom}
use Rattle.ge_trials_devices.proofs.journal_steps.make_steps.Given as goal

abbrev pub invariant-loop-step : goal.invariant-loop-step
invariant-loop-step l = KeepsRoom l.spool (disk_told l.a) (disk_told l.b)
