use Rattle.std.proofs.Common.{◌≡◌, drop}
use Rattle.std.specs.List.{find}
use Rattle.ge_place.specs.Singles.{takes_first}
use Rattle.ge_place.proofs.single.first_taking.Given as goal

abbrev pub invariant-loop-at : goal.invariant-loop-at
invariant-loop-at l = find (takes_first l.search) (drop l.at-index l.order) ≡ find (takes_first l.search) l.order
