use Rattle.std.proofs.Common.{◌≡◌, take, map}
use Rattle.ge_tickets.specs.Own.{own_tickets}
use Rattle.ge_tickets.proofs.owning.list_each.Given as goal

abbrev pub invariant-loop-number : goal.invariant-loop-number
invariant-loop-number l = l.tickets ≡ map (own_tickets l.c) (take l.number-index l.numbers)
