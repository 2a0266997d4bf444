use Rattle.std.proofs.Common.{◌≡◌, take}
use Rattle.ge_order.specs.Alike.{prios_in}
use Rattle.ge_order.proofs.lots.Prios.list.Given as goal

abbrev pub invariant-loop-lot : goal.invariant-loop-lot
invariant-loop-lot l = l.list.items ≡ prios_in (take l.lot-index l.lots)
