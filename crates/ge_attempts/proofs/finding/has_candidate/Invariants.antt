use Rattle.std.proofs.Common.{drop}
use Rattle.ge_model_place.proofs.First.{takes_one}
use Rattle.ge_attempts.specs.Rests.{is_full, ArePassed}
use Rattle.ge_attempts.proofs.finding.has_candidate.Given as goal

abbrev pub invariant-loop-place : goal.invariant-loop-place
invariant-loop-place l = ArePassed (takes_one l.at.cluster.now l.at.groups.now l.job l.booked l.at.moment) (is_full l.at.cluster.now l.at.moment l.room.until) l.at.order.now l.room.lefts (drop l.place-index l.room.vacant)
