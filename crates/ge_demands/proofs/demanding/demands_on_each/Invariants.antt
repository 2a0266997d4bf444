use Rattle.std.proofs.Common.{◌≡◌, ◌++◌, map}
use Rattle.std.specs.Vec.Iter.{into_iter_items}
use Rattle.ge_model_place.specs.Limits.{demand_for}
use Rattle.ge_capacities.specs.Counts.{all_counted}
use Rattle.ge_demands.proofs.demanding.demands_on_each.Given as goal

abbrev pub invariant-loop-counted : goal.invariant-loop-counted
invariant-loop-counted l =
    l.demands.items ++ map (demand_for l.slots) (all_counted (into_iter_items l.counted-iterator)) ≡ map (demand_for l.slots) (all_counted l.fn.limits.items)
