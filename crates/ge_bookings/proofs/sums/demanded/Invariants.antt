use Rattle.std.proofs.Common.{◌≡◌, min, take}
use Rattle.ge_model_place.specs.Bookings.{greatest_sum, demand_on}
use Rattle.ge_bookings.proofs.sums.demanded.Given as goal

abbrev pub invariant-loop-demand : goal.invariant-loop-demand
invariant-loop-demand l = l.total ≡ min (demand_on (take l.demand-index l.demands) l.limit) greatest_sum
