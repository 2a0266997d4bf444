use Rattle.std.proofs.Common.{◌≡◌, take, map}
use Rattle.ge_tickets.specs.Listed.{number_tickets}
use Rattle.ge_tickets.proofs.sharing.list_tickets.Given as goal

abbrev pub invariant-loop-number : goal.invariant-loop-number
invariant-loop-number l = l.list ≡ map (number_tickets l.c l.finder l.tickets l.jobs) (take l.number-index l.numbers)
