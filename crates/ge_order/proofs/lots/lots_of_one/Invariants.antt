use Rattle.std.proofs.Common.{◌≡◌, take}
use Rattle.ge_order.specs.Alike.{prios_in}
use Rattle.ge_order.proofs.lots.lots_of_one.Given as goal

abbrev pub invariant-loop-prio : goal.invariant-loop-prio
invariant-loop-prio l = prios_in l.lots.items ≡ take l.prio-index l.list
