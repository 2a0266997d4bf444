use Rattle.std.proofs.Common.{take}
use Rattle.ge_place.specs.Spots.{rooms_as}
use Rattle.ge_place.specs.Sums.{AsksMore}
use Rattle.ge_place.proofs.asking.ask_all.Given as goal

abbrev pub invariant-loop-bound : goal.invariant-loop-bound
invariant-loop-bound l = AsksMore (rooms_as (take l.bound-index l.bounds)) l.fn.sums l.sums
