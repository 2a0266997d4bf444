use Rattle.std.proofs.Common.{◌≡◌, ◌+◌, ◌≤◌, ◌++◌, length, map, zip}
use Rattle.ge_order.specs.Standings.{prio_of}
use Rattle.ge_order.specs.Weighed.{IsWorked}
use Rattle.ge_order.proofs.priority.prios_on.Given as goal

abbrev pub invariant-loop-standing : goal.invariant-loop-standing
invariant-loop-standing l =
    (l.prios.items ++ map (prio_of l.sched l.scale) (zip l.standing-iterator.a.rest.now l.standing-iterator.b.rest.now) ≡ map (prio_of l.sched l.scale) (zip l.standings l.tickets)) × IsWorked l.sched l.scale l.last × (l.prios.len + length l.standing-iterator.a.rest.now ≤ l.prios.cap)
