use Rattle.std.proofs.Common.{◌≡◌, ◌≤◌, take}
use Rattle.ge_model_place.specs.Placement.{with_round}
use Rattle.ge_place.specs.Giving.{IsGiven}
use Rattle.ge_place.specs.Spots.{cells_with, names_of}
use Rattle.ge_place.proofs.spreading.give_round.Given as goal

abbrev pub invariant-loop-host : goal.invariant-loop-host
invariant-loop-host l =
    (cells_with l.fn.spots.items l.given.slots ≡ with_round l.high (names_of (take l.host-index l.hosts)) (cells_with l.fn.spots.items l.fn.given.slots))
    × IsGiven l.fn.spots.items l.given
    × (l.fn.given.count ≤ l.given.count)
    × (l.given.count ≡ l.fn.given.count → l.given.slots ≡ l.fn.given.slots)
    × (l.spots.items ≡ l.fn.spots.items)
