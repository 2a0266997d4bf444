use Rattle.std.proofs.Common.{◌≡◌, ◌++◌}
use Rattle.ge_model_jobs.specs.Soundness.{serials_of}
use Rattle.ge_world.proofs.entering.running_serials.Given as goal

-- those so far, and those of the jobs that are left
abbrev pub invariant-loop-number : goal.invariant-loop-number
invariant-loop-number l = l.serials ++ serials_of l._number-iterator ≡ serials_of l.jobs
