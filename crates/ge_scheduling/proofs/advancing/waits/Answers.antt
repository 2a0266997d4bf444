use Rattle.std.proofs.Common.{IfSome, subst}
use Rattle.ge_scheduling.specs.Passing.{Waits}
use Rattle.ge_scheduling.proofs.Kept.{all_must_wait}
use Rattle.ge_attempts.proofs.LeftOut.{nothing_placed}
use Rattle.ge_attempts.proofs.Remaining.{none_open}
use Rattle.ge_scheduling.proofs.advancing.waits.Goals as goal

pub returns-then-is_passed : goal.returns-then-is_passed
returns-then-is_passed c = λ _.
    subst (λ passed. IfSome passed (Waits c.args.at.now.cluster.now c.args.at.now.groups.now c.args.at.now.order.now c.args.at.now.moment c.args.so_far.now.booked c.args.so_far.now.decisions))
    (c.is_passed.ensures c.if-is_passed.true) c.requires.waits

pub returns-then-nothing_is_left : goal.returns-then-nothing_is_left
returns-then-nothing_is_left c = λ _.
    let C = c.args.at.now.cluster.now in
    let groups = c.args.at.now.groups.now in
    let order = c.args.at.now.order.now in
    let so_far = c.args.so_far.now in
    let left = c.nothing_is_left.ensures c.if-nothing_is_left.true in
    all_must_wait C groups order c.args.at.now.moment so_far.booked so_far.decisions so_far.tally c.args.number c.requires.tallied
    (λ job there. nothing_placed C groups c.args.at.now.moment so_far.booked order job (none_open C groups c.args.at.now.moment so_far.booked order so_far.room c.requires.left left.0 job there) left.1) left.2
