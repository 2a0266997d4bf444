use Rattle.std.proofs.Common.{◌≡◌, fold, drop}
use Rattle.ge_model_jobs.specs.Altering.{change_job, freed}
use Rattle.ge_applying.proofs.jobs.release_all.Given as goal

abbrev pub invariant-loop-number : goal.invariant-loop-number
invariant-loop-number l = fold (change_job (freed l.bits)) l.jobs (drop l.number-index l.numbers) ≡ fold (change_job (freed l.bits)) l.fn.jobs l.numbers
