use Rattle.std.proofs.Common.{◌≤◌, length, take}
use Rattle.ge_order.specs.Alike.{prios_in}
use Rattle.ge_order.proofs.lots.Prios.len.Given as goal

abbrev pub invariant-loop-lot : goal.invariant-loop-lot
invariant-loop-lot l = l.len ≤ length (prios_in (take l.lot-index l.lots))
