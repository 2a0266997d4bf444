use Rattle.std.proofs.Common.{◌≡◌, take, fold}
use Rattle.ge_tickets.specs.Counted.{with_job_share}
use Rattle.ge_tickets.proofs.summing.job_shares.Given as goal

abbrev pub invariant-loop-number : goal.invariant-loop-number
invariant-loop-number l = l.total ≡ fold (with_job_share l.c) 0 (take l.number-index l.numbers)
