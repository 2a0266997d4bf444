use Rattle.std.proofs.Common.{◌≡◌, ℕ, List, take}
use Rattle.std.specs.List.{count_by}
use Rattle.ge_model_order.specs.Tickets.{is_owned_by, jobs_of}
use Rattle.ge_tickets.specs.Counted.{count_at}
use Rattle.ge_tickets.proofs.counting.owners.Given as goal

abbrev pub invariant-loop-number : goal.invariant-loop-number
invariant-loop-number l = (q : List ℕ) → count_at l.counts q ≡ count_by (is_owned_by q) (jobs_of l.c (take l.number-index l.numbers))
