use Rattle.std.proofs.Common.{slice_index_or, subst, arith}
use Rattle.ge_attempts.proofs.Remaining.{left_at, passed_at, passed_more, passed_end}
use Rattle.ge_attempts.specs.Rests.{IsLeftAt}
use Rattle.ge_attempts.proofs.finding.has_candidate.Goals as goal

pub may_take-requires-clause-left : goal.may_take-requires-clause-left
may_take-requires-clause-left c =
    let here = passed_at c.args.at.now.cluster.now c.args.at.now.groups.now c.args.at.now.moment c.args.booked.now c.args.at.now.order.now c.args.room.now c.requires.left c.args.job.now c.requires.there c.requires.free c.items-place-items.result.now
    c.items-place-items.ensures c.loop-place.place-index c.loop-place.invariant c.loop-place-test.true in
    (subst (λ left. IsLeftAt c.args.at.now.cluster.now c.args.at.now.groups.now c.args.at.now.moment c.args.booked.now c.index-order-place.result left) c.index-lefts-place.is
    (left_at c.args.at.now.cluster.now c.args.at.now.groups.now c.args.at.now.moment c.args.booked.now c.args.at.now.order.now c.args.room.now c.items-lefts.result.now (slice_index_or c.items-place-items.result.now c.loop-place.place-index 0)
    c.index-order-place.result c.index-lefts-place.result c.requires.left c.items-lefts.ensures here.0 c.index-order-place.is c.index-lefts-place.is)).rests

pub loop-place-preserved : goal.loop-place-preserved
loop-place-preserved c =
    passed_more c.args.at.now.cluster.now c.args.at.now.groups.now c.args.at.now.moment c.args.booked.now c.args.at.now.order.now c.args.room.now c.requires.left c.args.job.now c.requires.there c.requires.free c.items-place-items.result.now c.items-place-items.ensures
    c.loop-place.place-index c.loop-place.invariant c.index-order-place.result c.loop-place-test.true c.index-order-place.is (c.may_take.ensures c.if-may_take.false)

pub returns : goal.returns
returns c = λ _.
    let past = c.loop-place-test.false in
    passed_end c.args.at.now.cluster.now c.args.at.now.groups.now c.args.at.now.moment c.args.booked.now c.args.at.now.order.now c.args.room.now c.requires.left c.args.job.now c.requires.there c.requires.free c.items-place-items.result.now c.items-place-items.ensures
    c.loop-place.place-index c.loop-place.invariant (omega (arith, past))
