use Rattle.std.proofs.Common.{◌≡◌, ◌∷◌, ◌++◌, map, take}
use Rattle.ge_order.specs.Alike.{prio_at}
use Rattle.ge_order.specs.Parted.{second_of}
use Rattle.ge_order.proofs.parting.append_behind.Given as goal

abbrev pub invariant-loop-number : goal.invariant-loop-number
invariant-loop-number l = l.part.items ≡ l.fn.part.items ++ second_of l.bound (l.lot.first ∷ map (prio_at l.lot.first) (take l.number-index l.lot.others.items))
