-- What the slots given so far ask of each limit, as it is kept beside them.
use Rattle.std.specs.Prelude.{◌≡◌, ℕ, ◌+◌, Bool, false, ◌&&◌, if◌then◌else◌, nat_le, min, List, [], sum_by, unwrap_or}
use Rattle.std.specs.List.{list_all}
use Rattle.std.specs.Map.{lookup}
use Rattle.ge_model_rows.specs.HostRows.{InstanceId}
use Rattle.ge_model_rows.specs.ScheduleRows.{LimitId}
use Rattle.ge_model_place.specs.Bookings.{same_limit}
use Rattle.ge_model_place.specs.Limits.{Counted, greatest_demand}
use Rattle.ge_model_place.specs.Placement.{Room, Cell, slot_asks, asked_so_far}
use Rattle.ge_place.specs.declared.spots.Bound.{Bound}
use Rattle.ge_place.specs.declared.spots.Sight.{Sight}
use Rattle.ge_place.specs.declared.spots.Sight.TheVariants.{Closed, Open}
use Rattle.ge_place.specs.Spots.{room_as, rooms_as}

-- the sum of a limit; none is 0
abbrev pub sum_in : List (LimitId × ℕ) → LimitId → ℕ
sum_in sums limit = unwrap_or (lookup (same_limit limit) sums) 0

-- the sums of what was given before and since, together, cut at the greatest demand
abbrev pub sum_of_both : List (LimitId × ℕ) → List (LimitId × ℕ) → LimitId → ℕ
sum_of_both before since limit = min (sum_in before limit + sum_in since limit) greatest_demand

-- the sums are those of the cells, as far as a demand goes
abbrev pub AreTold : List (LimitId × ℕ) → List (LimitId × ℕ) → List Cell → Type 0
AreTold before since cells = (limit : LimitId) → sum_of_both before since limit ≡ min (asked_so_far cells limit) greatest_demand

-- what one more slot asks of a limit together with those before
abbrev pub asked_with : List (LimitId × ℕ) → List (LimitId × ℕ) → Counted → ℕ
asked_with before since counted = if counted.once then counted.amount else sum_of_both before since counted.limit + counted.amount

abbrev pub has_room_for : List (LimitId × ℕ) → List (LimitId × ℕ) → Room → Bool
has_room_for before since room = nat_le (room.booked + min (asked_with before since room.counted) greatest_demand) room.counted.capacity

-- whether an instance takes one more slot, by the sums
abbrev pub takes_by : (InstanceId → Bool) → List (LimitId × ℕ) → List (LimitId × ℕ) → Cell → Bool
takes_by here before since spot = here spot.at && (spot.opened && list_all (has_room_for before since) spot.rooms)

-- the limits that were seen at an instance
abbrev pub rooms_seen : Sight → List Room
rooms_seen Closed = []
rooms_seen (Open bounds) = rooms_as bounds.items

-- whether an instance takes one more slot, by what was seen there
abbrev pub takes_seen : List (LimitId × ℕ) → List (LimitId × ℕ) → Sight → Bool
takes_seen before since Closed = false
takes_seen before since (Open bounds) = list_all (λ (bound : Bound). has_room_for before since (room_as bound)) bounds.items

-- one slot more at an instance with these limits
abbrev pub AsksMore : List Room → List (LimitId × ℕ) → List (LimitId × ℕ) → Type 0
AsksMore rooms old new = (limit : LimitId) → min (sum_in new limit) greatest_demand ≡ min (sum_in old limit + sum_by (slot_asks limit) rooms) greatest_demand
