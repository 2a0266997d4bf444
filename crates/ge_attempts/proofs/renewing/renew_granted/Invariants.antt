use Rattle.ge_attempts.specs.Rests.{AreLeft}
use Rattle.ge_attempts.proofs.renewing.renew_granted.Given as goal

abbrev pub invariant-loop-grant : goal.invariant-loop-grant
invariant-loop-grant l = AreLeft l.at.cluster.now l.at.groups.now l.at.moment l.booked l.at.order.now l.room
