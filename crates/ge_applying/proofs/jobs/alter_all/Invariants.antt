use Rattle.std.proofs.Common.{◌≡◌, fold, drop}
use Rattle.ge_model_jobs.specs.Altering.{alter_job}
use Rattle.ge_applying.proofs.jobs.alter_all.Given as goal

abbrev pub invariant-loop-patched : goal.invariant-loop-patched
invariant-loop-patched l = fold alter_job l.jobs (drop l.patched-index l.altered) ≡ fold alter_job l.fn.jobs l.altered
