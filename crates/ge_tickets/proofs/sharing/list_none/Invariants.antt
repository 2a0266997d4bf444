use Rattle.std.proofs.Common.{◌≡◌, take, map}
use Rattle.ge_tickets.specs.Listed.{no_tickets}
use Rattle.ge_tickets.proofs.sharing.list_none.Given as goal

abbrev pub invariant-loop-number : goal.invariant-loop-number
invariant-loop-number l = l.list ≡ map no_tickets (take l._number-index l.numbers)
