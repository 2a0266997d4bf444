use Rattle.std.proofs.Common.{◌≡◌, fold, drop}
use Rattle.ge_model_rows.specs.Sets.{difference}
use Rattle.ge_jobs.proofs.gathered.without_each.Given as goal

abbrev pub invariant-loop-tasks : goal.invariant-loop-tasks
invariant-loop-tasks l = fold difference l.left (drop l.tasks-index l.further) ≡ fold difference l.fn.set l.further
