use Rattle.std.proofs.Common.{◌≡◌, take, filter}
use Rattle.ge_attempts.specs.Vacant.{is_vacant}
use Rattle.ge_attempts.proofs.vacancy.vacant_instances.Given as goal

abbrev pub invariant-loop-instance : goal.invariant-loop-instance
invariant-loop-instance l = l.vacant ≡ filter (is_vacant l.at.cluster.now l.at.groups.now l.at.moment l.booked) (take l.instance-index l.at.order.now)
