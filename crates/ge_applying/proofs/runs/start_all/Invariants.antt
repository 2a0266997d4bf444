use Rattle.std.proofs.Common.{◌≡◌, fold, drop}
use Rattle.ge_model_jobs.specs.Starting.{start_task}
use Rattle.ge_applying.proofs.runs.start_all.Given as goal

abbrev pub invariant-loop-one : goal.invariant-loop-one
invariant-loop-one l = fold (start_task l.moment) l.jobs (drop l.one-index l.starts) ≡ fold (start_task l.moment) l.fn.jobs l.starts
