use Rattle.std.proofs.Common.{◌≡◌, take}
use Rattle.ge_place.specs.Spots.{cells_with}
use Rattle.ge_place.proofs.Spreads.{IsBestWith}
use Rattle.ge_place.proofs.spreading.fullest.Given as goal

abbrev pub invariant-loop-host : goal.invariant-loop-host
invariant-loop-host l =
    IsBestWith l.high l.fn.spots.items (cells_with l.fn.spots.items l.given.slots) (take l.host-index l.hosts) l.best l.most
    × (l.spots.items ≡ l.fn.spots.items)
