use Rattle.std.proofs.Common.{◌≡◌, take}
use Rattle.ge_tickets.specs.Listed.{jobs_by}
use Rattle.ge_tickets.proofs.sharing.jobs_of_nodes.Given as goal

abbrev pub invariant-loop-number : goal.invariant-loop-number
invariant-loop-number l = l.jobs ≡ jobs_by l.c l.finder (take l.number-index l.numbers)
