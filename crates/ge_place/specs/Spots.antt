-- Instances while slots are given, as the model has them.
use Rattle.std.specs.Prelude.{◌≡◌, ℕ, suc, ◌+◌, Bool, true, false, ◌&&◌, if◌then◌else◌, List, [], ◌∷◌, map, replicate, length, slice_set, slice_index}
use Rattle.std.specs.List.{All}
use Rattle.ge_model_rows.specs.HostRows.{InstanceId}
use Rattle.ge_model_rows.specs.Pieces.{each_once}
use Rattle.ge_model_place.specs.Limits.{counted_at}
use Rattle.ge_model_place.specs.Opening.{is_open}
use Rattle.ge_model_place.specs.Placement.{Room, Cell, rooms_in, everywhere, is_on}
use Rattle.ge_place.specs.declared.spots.Bound.{Bound}
use Rattle.ge_place.specs.declared.spots.HostSpots.{HostSpots}
use Rattle.ge_place.specs.declared.searching.Search.{Search}
use Rattle.ge_place.specs.declared.spots.Sight.{Sight}
use Rattle.ge_place.specs.declared.spots.Sight.TheVariants.{Closed, Open}
use Rattle.ge_place.specs.declared.spots.Site.{Site}
use Rattle.ge_place.specs.declared.spots.Site.TheVariants.{Everywhere, Host}

abbrev pub room_as : Bound → Room
room_as bound = record {
  counted = record { limit = bound.limit.value; capacity = bound.capacity; amount = bound.amount; once = bound.once };
  booked = bound.peak;
}

abbrev pub rooms_as : List Bound → List Room
rooms_as bounds = map room_as bounds

-- the cell of an instance, given so many slots
abbrev pub cell_with : Cell → ℕ → Cell
cell_with spot slots = record { at = spot.at; opened = spot.opened; rooms = spot.rooms; slots = slots }

-- the cells of instances, each with its slots
abbrev pub cells_with : List Cell → List ℕ → List Cell
cells_with [] slots = []
cells_with (spot ∷ spots) [] = []
cells_with (spot ∷ spots) (n ∷ slots) = cell_with spot n ∷ cells_with spots slots

-- no slot was given yet
abbrev pub no_slots_at : List Cell → List ℕ
no_slots_at spots = replicate (length spots) 0

-- the slots, with one more at a place
abbrev pub one_more_at : List ℕ → ℕ → List ℕ
one_more_at slots place = slice_set slots place (slice_index slots place + 1)

abbrev pub host_of : Cell → List ℕ
host_of spot = spot.at.host

-- the hosts in the order of their first instance
abbrev pub hosts_among : List Cell → List (List ℕ)
hosts_among spots = each_once (map host_of spots)

-- whether a task may start at an instance at all
abbrev pub is_free_at : Search → InstanceId → Bool
is_free_at search at = search.in_time && is_open search.cluster.now search.groups.now search.job.now at

-- the limits that a slot there counts for
abbrev pub rooms_at : Search → InstanceId → List Room
rooms_at search at = rooms_in search.booked.now search.from search.until (counted_at search.cluster.now search.groups.now search.job.now at)

-- an instance before any slot is given
abbrev pub cell_in : Search → InstanceId → Cell
cell_in search at = record { at = at; opened = is_free_at search at; rooms = rooms_at search at; slots = 0 }

-- what was seen is what is there; the limits of an instance where the task may not start aren't looked at
abbrev pub IsSeen : Cell → Sight → Type 0
IsSeen spot Closed = spot.opened ≡ false
IsSeen spot (Open bounds) = (spot.opened ≡ true) × (rooms_as bounds.items ≡ spot.rooms)

-- the instances that a site names
abbrev pub is_in : Site → InstanceId → Bool
is_in Everywhere = everywhere
is_in (Host host) = is_on host.now.host.now

-- the places of these instances, rising
abbrev pub places_of : (InstanceId → Bool) → List Cell → List ℕ
places_of here [] = []
places_of here (spot ∷ spots) = if here spot.at then 0 ∷ map (λ k. suc k) (places_of here spots) else map (λ k. suc k) (places_of here spots)

abbrev pub names_of : List HostSpots → List (List ℕ)
names_of hosts = map (λ (host : HostSpots). host.host.now) hosts

-- a host has the places of its instances
abbrev pub IsOn : List Cell → HostSpots → Type 0
IsOn spots host = host.places.items ≡ places_of (is_on host.host.now) spots

abbrev pub AreOn : List Cell → List HostSpots → Type 0
AreOn spots hosts = All (λ (host : HostSpots). IsOn spots host) hosts

-- a site has the places of its instances
abbrev pub IsSited : Site → List Cell → Type 0
IsSited Everywhere spots = Unit {0}
IsSited (Host host) spots = IsOn spots host.now
