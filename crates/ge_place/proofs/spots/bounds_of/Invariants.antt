use Rattle.std.proofs.Common.{◌≡◌, ◌++◌, map}
use Rattle.std.specs.Vec.Iter.{into_iter_items}
use Rattle.ge_model_place.specs.Placement.{room_of}
use Rattle.ge_capacities.specs.Counts.{all_counted}
use Rattle.ge_place.specs.Spots.{rooms_as}
use Rattle.ge_place.proofs.spots.bounds_of.Given as goal

abbrev pub invariant-loop-counts : goal.invariant-loop-counts
invariant-loop-counts l =
    rooms_as l.bounds.items ++ map (room_of l.search.booked.now l.search.from l.search.until) (all_counted (into_iter_items l.counts-iterator))
    ≡ map (room_of l.search.booked.now l.search.from l.search.until) (all_counted l.fn.limits.items)
