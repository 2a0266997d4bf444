use Rattle.std.proofs.Common.{◌≡◌, ◌++◌, take}
use Rattle.ge_printing.proofs.quotas.put_elements.Given as goal

abbrev pub invariant-loop-element : goal.invariant-loop-element
invariant-loop-element l = l.elements ≡ l.fn.elements ++ take l.element-index l.plain
