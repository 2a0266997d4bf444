use Rattle.std.proofs.Common.{◌≡◌, ◌+◌, ◌≤◌, ◌++◌, length, filter}
use Rattle.std.specs.Map.{keys_of}
use Rattle.ge_order.specs.Told.{has_task}
use Rattle.ge_order.proofs.choosing.choose.Given as goal

abbrev pub invariant-loop-number : goal.invariant-loop-number
invariant-loop-number l =
    (l.numbers.items ++ keys_of (filter (has_task l.c l.now) l.number-iterator) ≡ keys_of (filter (has_task l.c l.now) l.rows.entries)) × (l.numbers.len + length l.number-iterator ≤ l.numbers.cap)
