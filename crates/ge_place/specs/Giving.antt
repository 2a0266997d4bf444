-- Slots while they are given, with what is kept beside them.
use Rattle.std.specs.Prelude.{◌≡◌, ℕ, List, [], fold, length, Option, Some, None, IfSome}
use Rattle.std.specs.Borrow.{Bor}
use Rattle.ge_model_place.specs.Placement.{Cell, filled, slots_given, is_on, fuller}
use Rattle.ge_place.specs.declared.giving.Given.{Given}
use Rattle.ge_place.specs.declared.spots.HostSpots.{HostSpots}
use Rattle.ge_place.specs.Spots.{cells_with, names_of, IsOn}
use Rattle.ge_place.specs.Sums.{AreTold}

-- one number for each instance, and their sum and what they ask is kept
pub record IsGiven (spots : List Cell) (given : Given) : Type 0 where
  pub long : length given.slots ≡ length spots
  pub told : AreTold [] given.sums (cells_with spots given.slots)
  pub count : slots_given (cells_with spots given.slots) ≡ given.count

-- all slots on a host, or none
abbrev pub filled_on : ℕ → List Cell → Option (Bor HostSpots) → List Cell
filled_on high cells None = cells
filled_on high cells (Some host) = filled (is_on host.now.host.now) high cells

-- the first host that takes the most
pub record IsBest (high : ℕ) (spots : List Cell) (cells : List Cell) (hosts : List HostSpots) (best : Option (Bor HostSpots)) : Type 0 where
  pub fullest : filled_on high cells best ≡ fold (λ best host. fuller best (filled (is_on host) high cells)) cells (names_of hosts)
  pub on : IfSome best (λ host. IsOn spots host.now)
