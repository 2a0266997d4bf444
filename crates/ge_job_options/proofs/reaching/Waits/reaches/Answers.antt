use Rattle.std.proofs.Common.{rules, arith}
use Rattle.ge_model_core.specs.Reaching.{waits_for}
use Rattle.ge_job_options.proofs.Walked.{walked_on, walked_again}
use Rattle.ge_job_options.proofs.reaching.Waits.reaches.Goals as goal

pub walk-preserved-in-Continue-branch-3 : goal.walk-preserved-in-Continue-branch-3
walk-preserved-in-Continue-branch-3 c =
    walked_on (waits_for c.args.self.now.0 c.args.self.now.1) c.args.goal c.walk.steps c.walk.seen c.insert.new.self c.walk.stack.items c.pop.new.self.items c.push_waits-then-branch.new.stack.items
    c.in-Some.number _ c.in_ok-insert.field-0 c.in-Some.ensures.items (omega arith) (search rules) c.in_ok-insert.ensures.added c.if-branch.true c.in_ok-insert.ensures.updates.0 c.in_ok-push_waits-2.ensures
    c.walk.invariant

pub walk-preserved : goal.walk-preserved
walk-preserved c =
    walked_again (waits_for c.args.self.now.0 c.args.self.now.1) c.args.goal c.walk.steps c.walk.seen c.insert.new.self c.walk.stack.items c.pop.new.self.items c.in-Some.number _ c.in_ok-insert.field-0
    c.in-Some.ensures.items (omega arith) (search rules) c.in_ok-insert.ensures.added c.if-branch.false c.in_ok-insert.ensures.updates.0 c.walk.invariant
