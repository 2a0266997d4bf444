use Rattle.std.proofs.Common.{◌≡◌, ℕ, ◌+◌, ◌-◌, ◌<◌, List, length}
use Rattle.ge_model_place.specs.Placement.{is_on}
use Rattle.ge_place.specs.Spots.{cells_with}
use Rattle.ge_place.specs.Sums.{AreTold}
use Rattle.ge_place.proofs.Places.{next_place}
use Rattle.ge_place.proofs.Refusing.{AreRefused}
use Rattle.ge_place.proofs.Spreads.{Fills}
use Rattle.ge_place.proofs.giving.count_on.Given as goal

-- the slots that would be given so far; what they ask is kept while one more is tried
abbrev pub invariant-loop-count : goal.invariant-loop-count
invariant-loop-count l =
    (slots : List ℕ)
    × Fills (is_on l.host.host.now) l.most l.count l.fn.spots.items l.given.slots slots
    × (l.count < l.most → AreTold l.given.sums l.since (cells_with l.fn.spots.items slots))
    × (l.count < l.most → AreRefused (is_on l.host.host.now) l.given.sums l.since l.fn.spots.items (next_place (is_on l.host.host.now) l.fn.spots.items l.index))
    × (l.spots.items ≡ l.fn.spots.items)

abbrev pub decreases-loop-count : goal.decreases-loop-count
decreases-loop-count l = l.most - l.count + (length l.fn.spots.items - l.index)
