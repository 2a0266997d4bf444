use Rattle.std.proofs.Common.{◌≡◌, ◌++◌, take, map}
use Rattle.std.specs.Prelude.{codes}
use Rattle.ge_printing.proofs.quotas.put_negated.Given as goal

abbrev pub invariant-loop-element : goal.invariant-loop-element
invariant-loop-element l = l.elements ≡ l.fn.elements ++ map (λ element. codes "!" ++ element) (take l.element-index l.without)
