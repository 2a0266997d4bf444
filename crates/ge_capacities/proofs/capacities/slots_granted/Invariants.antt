use Rattle.std.proofs.Common.{◌≡◌, ◌*◌, ◌≤◌, ◌^◌, take}
use Rattle.std.specs.Prelude.{filter, sum_by}
use Rattle.ge_model_place.specs.Bookings.{same_instance}
use Rattle.ge_capacities.proofs.capacities.slots_granted.Given as goal

abbrev pub invariant-loop-grant : goal.invariant-loop-grant
invariant-loop-grant l =
    (l.slots ≡ sum_by (λ grant. grant.slots) (filter (λ grant. same_instance grant.at l.at) (take l.grant-index l.grants))) × (l.slots ≤ 2 ^ 32 * l.grant-index)
