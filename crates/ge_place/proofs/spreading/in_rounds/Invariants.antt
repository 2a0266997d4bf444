use Rattle.std.proofs.Common.{◌≡◌}
use Rattle.ge_model_place.specs.Placement.{with_rounds}
use Rattle.ge_place.specs.Giving.{IsGiven}
use Rattle.ge_place.specs.Spots.{cells_with, names_of}
use Rattle.ge_place.proofs.spreading.in_rounds.Given as goal

abbrev pub invariant-loop-rounds : goal.invariant-loop-rounds
invariant-loop-rounds l =
    (with_rounds l.rounds l.high (names_of l.hosts) (cells_with l.fn.spots.items l.given.slots) ≡ with_rounds l.high l.high (names_of l.hosts) (cells_with l.fn.spots.items l.fn.given.slots))
    × IsGiven l.fn.spots.items l.given
    × (l.spots.items ≡ l.fn.spots.items)

abbrev pub decreases-loop-rounds : goal.decreases-loop-rounds
decreases-loop-rounds l = l.rounds
