use Rattle.std.proofs.Common.{◌≡◌}
use Rattle.ge_model_jobs.specs.Starting.{is_joined}
use Rattle.ge_applying.proofs.runs.some_without.Given as goal

abbrev pub invariant-loop-row : goal.invariant-loop-row
invariant-loop-row l = is_joined l.row-iterator 0 ≡ is_joined l.jobs 0
