use Rattle.std.proofs.Common.{◌≡◌, ◌++◌, map, take, drop}
use Rattle.ge_timeline.specs.StepFunctions.{raised}
use Rattle.ge_timeline.proofs.counted.raise_all.Given as goal

abbrev pub invariant-loop-point : goal.invariant-loop-point
invariant-loop-point l = l.points ≡ map (raised l.amount) (take l.point-index l.fn.points) ++ drop l.point-index l.fn.points
