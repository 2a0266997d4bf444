use Rattle.std.proofs.Common.{◌≡◌}
use Rattle.std.specs.List.{list_any}
use Rattle.ge_scheduling.specs.Bases.{asks_to_keep}
use Rattle.ge_scheduling.proofs.basis.one_asks.Given as goal

abbrev pub invariant-loop-number : goal.invariant-loop-number
invariant-loop-number l = list_any asks_to_keep l._number-iterator ≡ list_any asks_to_keep l.jobs
