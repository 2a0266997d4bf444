use Rattle.std.proofs.Common.{◌≡◌, fold}
use Rattle.ge_attempts.specs.Rests.{shorter_time, shortest_in}
use Rattle.ge_attempts.proofs.renewing.shortest_in.Given as goal

abbrev pub invariant-loop-number : goal.invariant-loop-number
invariant-loop-number l = fold shorter_time l.shortest l._number-iterator ≡ shortest_in l.rows.entries
