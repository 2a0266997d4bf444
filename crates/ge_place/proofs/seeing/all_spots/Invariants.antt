use Rattle.std.proofs.Common.{◌≡◌, map, take}
use Rattle.ge_place.specs.Spots.{cell_in}
use Rattle.ge_place.proofs.seeing.all_spots.Given as goal

abbrev pub invariant-loop-at : goal.invariant-loop-at
invariant-loop-at l = l.spots.items ≡ map (cell_in l.search) (take l.at-index l.order)
