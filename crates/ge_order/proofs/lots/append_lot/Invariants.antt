use Rattle.std.proofs.Common.{◌≡◌, ◌∷◌, ◌++◌, map, take}
use Rattle.ge_order.specs.Alike.{prio_at}
use Rattle.ge_order.proofs.lots.append_lot.Given as goal

abbrev pub invariant-loop-number : goal.invariant-loop-number
invariant-loop-number l = l.list.items ≡ l.fn.list.items ++ l.lot.first ∷ map (prio_at l.lot.first) (take l.number-index l.lot.others.items)
