use Rattle.std.proofs.Common.{◌≡◌, ◌++◌}
use Rattle.ge_applying.specs.Over.{over_numbers}
use Rattle.ge_applying.proofs.runs.numbers_over.Given as goal

abbrev pub invariant-loop-number : goal.invariant-loop-number
invariant-loop-number l = l.numbers ++ over_numbers l.moment l.jobs l.number-iterator ≡ over_numbers l.moment l.jobs l.advances
