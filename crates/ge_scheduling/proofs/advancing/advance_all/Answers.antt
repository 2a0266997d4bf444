use Rattle.ge_model_place.specs.Running.{decide}
use Rattle.ge_collections.proofs.Turns.{folded_more}
use Rattle.ge_scheduling.proofs.advancing.advance_all.Goals as goal

pub loop-task-preserved : goal.loop-task-preserved
loop-task-preserved c =
    record {
      decided = folded_more (decide c.args.at.now.cluster.now c.args.at.now.groups.now c.args.at.now.order.now c.args.at.now.moment) (c.args.start.booked, c.args.start.decisions) c.args.order.now c.loop-task.task-index _
          (c.loop-task.so_far.booked, c.loop-task.so_far.decisions) (c.advance.new.so_far.booked, c.advance.new.so_far.decisions) c.loop-task-test.true c.loop-task.invariant.decided c.in_ok-advance.ensures.decided;
      follows = c.in_ok-advance.ensures.follows;
    }
