use Rattle.std.proofs.Common.{◌≡◌, ◌+◌, ◌-◌, length}
use Rattle.ge_place.specs.Spots.{cells_with, is_in}
use Rattle.ge_place.specs.Sums.{AreTold}
use Rattle.ge_place.proofs.Places.{next_place}
use Rattle.ge_place.proofs.Refusing.{AreRefused}
use Rattle.ge_place.proofs.Spreads.{Fills}
use Rattle.ge_place.proofs.filling.fill.Given as goal

abbrev pub invariant-loop-given : goal.invariant-loop-given
invariant-loop-given l =
    Fills (is_in l.site) l.most l.given l.fn.spots.items l.fn.slots l.slots
    × AreTold l.before l.since (cells_with l.fn.spots.items l.slots)
    × AreRefused (is_in l.site) l.before l.since l.fn.spots.items (next_place (is_in l.site) l.fn.spots.items l.index)
    × (l.spots.items ≡ l.fn.spots.items)

abbrev pub decreases-loop-given : goal.decreases-loop-given
decreases-loop-given l = l.most - l.given + (length l.fn.spots.items - l.index)
