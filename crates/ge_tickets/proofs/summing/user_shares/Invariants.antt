use Rattle.std.proofs.Common.{◌≡◌, nat_lt, filter, fold}
use Rattle.ge_base.specs.Fixed.{cut_sum}
use Rattle.ge_tickets.specs.Counted.{count_at, counted_shares}
use Rattle.ge_tickets.proofs.summing.user_shares.Given as goal

abbrev pub invariant-loop-name : goal.invariant-loop-name
invariant-loop-name l =
    fold (λ total row. cut_sum total row.1.fshare) l.total (filter (λ row. nat_lt 0 (count_at l.counts row.0)) l.name-iterator) ≡ counted_shares (λ row. row.fshare) l.users l.counts
