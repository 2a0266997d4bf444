use Rattle.ge_scheduling.proofs.Kept.{passed_decides, passed_follows}
use Rattle.ge_scheduling.proofs.advancing.advance.Goals as goal

pub returns-then-waits : goal.returns-then-waits
returns-then-waits c =
    let was = c.args.so_far.now in
    record {
      decided = passed_decides c.args.at.now.cluster.now c.args.at.now.groups.now c.args.at.now.order.now c.args.at.now.moment c.args.at.now.kinds.now.entries was.booked was.decisions c.push.new.self was.tally was.passed
          was.full was.room c.args.task c.requires (c.waits.ensures c.if-waits.true) c.in_ok-push.ensures.ok;
      follows = passed_follows c.args.at.now.cluster.now c.args.at.now.groups.now c.args.at.now.order.now c.args.at.now.moment c.args.at.now.kinds.now.entries was.booked was.decisions c.push.new.self was.tally was.passed
          was.full was.room c.args.task c.requires (c.waits.ensures c.if-waits.true) c.in_ok-push.ensures.ok;
    }
