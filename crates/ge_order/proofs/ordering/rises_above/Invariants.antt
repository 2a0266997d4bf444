use Rattle.std.proofs.Common.{◌≡◌, drop}
use Rattle.ge_order.specs.Ranked.{rise_above}
use Rattle.ge_order.proofs.ordering.rises_above.Given as goal

abbrev pub invariant-loop-rank : goal.invariant-loop-rank
invariant-loop-rank l = rise_above l.low (drop l.rank-index l.others) ≡ rise_above l.first l.others
