use Rattle.std.proofs.Common.{◌≡◌, false, take}
use Rattle.std.specs.List.{list_any}
use Rattle.ge_quota.proofs.filtering.is_named_by_one.Given as goal

abbrev pub invariant-loop-element : goal.invariant-loop-element
invariant-loop-element g l = list_any (g.A.Asked.names_by l.asked) (take l.element-index l.elements) ≡ false
