-- No end up to the moment passes: the first one is the first after it.
use Rattle.std.proofs.Common.{◌≡◌, ◌-◌, Some}
use Rattle.ge_model_place.specs.Bookings.{forever}
use Rattle.ge_model_place.specs.Running.{earliest_end}
use Rattle.ge_attempts.specs.Rests.{AreLeft}
use Rattle.ge_attempts.specs.Verdicts.{can_be_placed}
use Rattle.ge_attempts.proofs.reserving.reserve.Given as goal

abbrev pub invariant-loop-end : goal.invariant-loop-end
invariant-loop-end l = record {
  from : earliest_end (can_be_placed l.at.cluster.now l.at.groups.now l.at.order.now l.at.moment l.booked (Some l.job)) l.moment l.booked
      ≡ earliest_end (can_be_placed l.at.cluster.now l.at.groups.now l.at.order.now l.at.moment l.booked (Some l.job)) l.at.moment l.booked;
  left : AreLeft l.at.cluster.now l.at.groups.now l.at.moment l.booked l.at.order.now l.room;
}

abbrev pub decreases-loop-end : goal.decreases-loop-end
decreases-loop-end l = forever - l.moment
