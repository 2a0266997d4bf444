use Rattle.std.proofs.Common.{◌≡◌, map, take}
use Rattle.ge_attempts.specs.Rests.{left_first}
use Rattle.ge_attempts.proofs.rests.lefts_of_all.Given as goal

abbrev pub invariant-loop-instance : goal.invariant-loop-instance
invariant-loop-instance l = l.lefts ≡ map (left_first l.at.cluster.now l.at.groups.now l.at.moment l.booked l.amounts l.hosts l.names) (take l.instance-index l.at.order.now)
