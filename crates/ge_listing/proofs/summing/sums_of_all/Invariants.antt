use Rattle.std.proofs.Common.{take}
use Rattle.ge_listing.specs.Sums.{AreSums}
use Rattle.ge_listing.proofs.summing.sums_of_all.Given as goal

abbrev pub invariant-loop-line : goal.invariant-loop-line
invariant-loop-line l = AreSums l.sums (take l.line-index l.lines)
