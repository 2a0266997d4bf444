use Rattle.std.proofs.Common.{◌≡◌, ◌+◌, ◌++◌, map, zip}
use Rattle.ge_model_order.specs.Amounts.{cut_at_64}
use Rattle.ge_dispatching.proofs.prioritizing.added.Given as goal

abbrev pub invariant-loop-one : goal.invariant-loop-one
invariant-loop-one l =
    l.sums ++ map (λ both. cut_at_64 (both.0 + both.1)) (zip l.one-iterator.a.rest.now l.one-iterator.b.rest.now)
    ≡ map (λ both. cut_at_64 (both.0 + both.1)) (zip l.tickets l.others)
