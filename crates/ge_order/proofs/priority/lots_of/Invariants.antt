use Rattle.std.proofs.Common.{◌≡◌, map}
use Rattle.ge_order.specs.Alike.{candidates_in, prios_in}
use Rattle.ge_order.specs.Repeated.{prio_of_candidate}
use Rattle.ge_order.specs.Weighed.{IsWorked}
use Rattle.ge_order.proofs.priority.lots_of.Given as goal

abbrev pub invariant-loop-lot : goal.invariant-loop-lot
invariant-loop-lot l = (prios_in l.lots.items ≡ map (prio_of_candidate l.sched l.scale) (candidates_in l.yielded)) × IsWorked l.sched l.scale l.last
