use Rattle.std.proofs.Common.{◌≡◌, fold, max, drop}
use Rattle.ge_model_order.specs.Amounts.{greatest}
use Rattle.ge_order.proofs.priority.greatest.Given as goal

abbrev pub invariant-loop-held : goal.invariant-loop-held
invariant-loop-held l = fold (λ most n. max most n) l.most (drop l.held-index l.tickets) ≡ greatest l.tickets
