use Rattle.std.proofs.Common.{◌≡◌, take}
use Rattle.std.specs.Prelude.{fold}
use Rattle.ge_model_place.specs.Running.{decide}
use Rattle.ge_scheduling.specs.Passing.{Follows}
use Rattle.ge_scheduling.proofs.advancing.advance_all.Given as goal

abbrev pub invariant-loop-task : goal.invariant-loop-task
invariant-loop-task l = record {
  decided : (l.so_far.booked, l.so_far.decisions)
      ≡ fold (decide l.at.cluster.now l.at.groups.now l.at.order.now l.at.moment) (l.fn.start.booked, l.fn.start.decisions) (take l.task-index l.order);
  follows : Follows l.at.cluster.now l.at.groups.now l.at.order.now l.at.moment l.at.kinds.now.entries l.so_far.booked l.so_far.decisions l.so_far.tally l.so_far.passed l.so_far.full l.so_far.room;
}
