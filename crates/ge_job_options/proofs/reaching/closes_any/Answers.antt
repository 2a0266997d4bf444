use Rattle.ge_job_options.proofs.Walked.{any_here, any_next}
use Rattle.ge_job_options.proofs.reaching.closes_any.Goals as goal

pub returns-then-branch : goal.returns-then-branch
returns-then-branch c =
    any_here c.args.waits.now.0 c.args.patches.now c.loop-number.number-index c.loop-number-item.result c.in_ok-reaches_itself.field-0 c.loop-number-test.true c.loop-number-item.is c.args.waits.now.1
    c.in_ok-reaches_itself.ensures c.if-branch.true c.loop-number.invariant

pub loop-number-preserved : goal.loop-number-preserved
loop-number-preserved c =
    any_next c.args.waits.now.0 c.args.patches.now c.loop-number.number-index c.loop-number-item.result c.in_ok-reaches_itself.field-0 c.loop-number-test.true c.loop-number-item.is c.args.waits.now.1
    c.in_ok-reaches_itself.ensures c.if-branch.false c.loop-number.invariant
