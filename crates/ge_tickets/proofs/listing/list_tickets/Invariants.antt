use Rattle.std.proofs.Common.{◌≡◌, take, map}
use Rattle.ge_tickets.specs.Counted.{tickets_by_counts}
use Rattle.ge_tickets.proofs.listing.list_tickets.Given as goal

abbrev pub invariant-loop-number : goal.invariant-loop-number
invariant-loop-number l = l.tickets ≡ map (tickets_by_counts l.c l.counts l.sums) (take l.number-index l.numbers)
