use Rattle.std.proofs.Common.{◌≡◌, fold}
use Rattle.std.specs.Vec.Iter.{into_iter_items}
use Rattle.ge_model_place.specs.Limits.{with_demand}
use Rattle.ge_capacities.specs.Counts.{all_counted}
use Rattle.ge_capacities.specs.Found.{AreKept}
use Rattle.ge_demands.proofs.indexing.add_all_kept.Given as goal

abbrev pub invariant-loop-counted : goal.invariant-loop-counted
invariant-loop-counted l =
    (fold (with_demand l.slots) l.demands.items (all_counted (into_iter_items l.counted-iterator)) ≡ fold (with_demand l.slots) l.fn.demands.items (all_counted l.fn.limits.items))
    × AreKept l.places.entries l.demands.items
