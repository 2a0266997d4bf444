use Rattle.std.proofs.Common.{◌≡◌, take}
use Rattle.ge_order.specs.Alike.{prios_in}
use Rattle.ge_order.specs.Parted.{first_of}
use Rattle.ge_order.proofs.parting.first_part.Given as goal

abbrev pub invariant-loop-lot : goal.invariant-loop-lot
invariant-loop-lot l = l.part.items ≡ first_of l.bound (prios_in (take l.lot-index l.lots))
