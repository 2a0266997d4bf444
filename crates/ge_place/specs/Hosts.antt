-- Hosts while they are found, each by its name.
use Rattle.std.specs.Prelude.{◌≡◌, ℕ, ◌<◌, List, [], length, get_or, Option, Some, None}
use Rattle.std.specs.Borrow.{Bor}
use Rattle.std.specs.BTreeMap.{is_at}
use Rattle.std.specs.Map.{lookup}
use Rattle.ge_collections.specs.Keyed.{text_cmp}
use Rattle.ge_model_place.specs.Placement.{Cell, is_on}
use Rattle.ge_place.specs.declared.spots.HostSpots.{HostSpots}
use Rattle.ge_place.specs.Spots.{hosts_among, places_of, names_of, AreOn}

-- the number of a host that was found
abbrev pub number_in : List (Bor (List ℕ) × ℕ) → List ℕ → Option ℕ
number_in numbers host = lookup (λ key. is_at (text_cmp host) key.now) numbers

-- the numbers are those of the names, and of no other
pub record AreNumbered (names : List (List ℕ)) (numbers : List (Bor (List ℕ) × ℕ)) : Type 0 where
  pub each : (k : ℕ) (d : List ℕ) → k < length names → number_in numbers (get_or names k d) ≡ Some k
  pub found : (host : List ℕ) (k : ℕ) → number_in numbers host ≡ Some k → (k < length names) × ((d : List ℕ) → get_or names k d ≡ host)

-- the hosts of these instances are found, with their places; where no host is found, there is no instance
pub record AreFound (spots : List Cell) (hosts : List HostSpots) (numbers : List (Bor (List ℕ) × ℕ)) : Type 0 where
  pub named : names_of hosts ≡ hosts_among spots
  pub on : AreOn spots hosts
  pub numbered : AreNumbered (hosts_among spots) numbers
  pub others : (host : List ℕ) → number_in numbers host ≡ None → places_of (is_on host) spots ≡ []
