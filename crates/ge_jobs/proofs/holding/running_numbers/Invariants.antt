use Rattle.std.proofs.Common.{◌≡◌, ◌++◌}
use Rattle.std.specs.Prelude.{filter, nat_le}
use Rattle.std.specs.Map.{keys_of}
use Rattle.ge_jobs.proofs.holding.running_numbers.Given as goal

abbrev pub invariant-loop-number : goal.invariant-loop-number
invariant-loop-number l = l.numbers ++ filter (nat_le 1) l.number-iterator ≡ filter (nat_le 1) (keys_of l.running)
