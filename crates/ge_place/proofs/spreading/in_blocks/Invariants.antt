use Rattle.std.proofs.Common.{◌≡◌, fold, take}
use Rattle.ge_model_place.specs.Placement.{with_block, filled, is_on}
use Rattle.ge_place.specs.Giving.{IsGiven}
use Rattle.ge_place.specs.Spots.{cells_with, names_of}
use Rattle.ge_place.proofs.spreading.in_blocks.Given as goal

abbrev pub invariant-loop-host : goal.invariant-loop-host
invariant-loop-host l =
    (cells_with l.fn.spots.items l.given.slots ≡ fold (λ cells host. with_block l.size l.high cells (filled (is_on host) l.size cells)) (cells_with l.fn.spots.items l.fn.given.slots) (names_of (take l.host-index l.hosts)))
    × IsGiven l.fn.spots.items l.given
    × (l.spots.items ≡ l.fn.spots.items)
