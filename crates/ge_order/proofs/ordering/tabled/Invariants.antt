use Rattle.std.proofs.Common.{◌≡◌, ◌++◌, [], fold}
use Rattle.std.specs.Map.{keys_of}
use Rattle.ge_model_order.specs.Priority.{with_rank}
use Rattle.ge_order.proofs.ordering.tabled.Given as goal

abbrev pub invariant-loop-rank : goal.invariant-loop-rank
invariant-loop-rank l = l.ranks.items ++ l.rank-iterator ≡ keys_of (fold with_rank [] l.prios)
