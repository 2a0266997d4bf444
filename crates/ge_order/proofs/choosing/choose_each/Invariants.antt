use Rattle.std.proofs.Common.{◌≡◌, ◌++◌, filter}
use Rattle.ge_model_order.specs.Candidates.{is_candidate, candidates}
use Rattle.ge_order.proofs.choosing.choose_each.Given as goal

abbrev pub invariant-loop-number : goal.invariant-loop-number
invariant-loop-number l = l.numbers ++ filter (is_candidate l.c l.now) l.number-iterator ≡ candidates l.c l.now
