use Rattle.std.proofs.Common.{length, slice_index_or, sym, ◌∙◌, arith}
use Rattle.ge_model_place.proofs.First.{takes_one}
use Rattle.ge_attempts.proofs.Remaining.{left_at, passed_at, passed_more, passed_end, placed_nowhere}
use Rattle.ge_model_place.specs.Runs.{one_slot}
use Rattle.ge_attempts.proofs.Singly.{takes_nothing, placed_first}
use Rattle.ge_attempts.proofs.single.place_alone.Goals as goal

pub take_at-requires-clause-left : goal.take_at-requires-clause-left
take_at-requires-clause-left c =
    let here = passed_at c.args.at.now.cluster.now c.args.at.now.groups.now c.args.at.now.moment c.args.booked.now c.args.at.now.order.now c.args.room.now c.requires.left c.args.job.now c.requires.there c.requires.free c.items-place-items.result.now
    c.items-place-items.ensures c.loop-place.place-index c.loop-place.invariant c.loop-place-test.true in
    left_at c.args.at.now.cluster.now c.args.at.now.groups.now c.args.at.now.moment c.args.booked.now c.args.at.now.order.now c.args.room.now c.items-lefts.result.now (slice_index_or c.items-place-items.result.now c.loop-place.place-index 0)
    c.index-order-place.result c.index-lefts-place.result c.requires.left c.items-lefts.ensures here.0 c.index-order-place.is c.index-lefts-place.is

pub loop-place-preserved : goal.loop-place-preserved
loop-place-preserved c =
    passed_more c.args.at.now.cluster.now c.args.at.now.groups.now c.args.at.now.moment c.args.booked.now c.args.at.now.order.now c.args.room.now c.requires.left c.args.job.now c.requires.there c.requires.free c.items-place-items.result.now c.items-place-items.ensures
    c.loop-place.place-index c.loop-place.invariant c.index-order-place.result c.loop-place-test.true c.index-order-place.is
    (takes_nothing (takes_one c.args.at.now.cluster.now c.args.at.now.groups.now c.args.job.now c.args.booked.now c.args.at.now.moment c.index-order-place.result) (one_slot c.index-order-place.result) (sym c.in_default.is ∙ c.in_ok-grants.ensures))

pub returns-in-Some : goal.returns-in-Some
returns-in-Some c =
    let here = passed_at c.args.at.now.cluster.now c.args.at.now.groups.now c.args.at.now.moment c.args.booked.now c.args.at.now.order.now c.args.room.now c.requires.left c.args.job.now c.requires.there c.requires.free c.items-place-items.result.now
    c.items-place-items.ensures c.loop-place.place-index c.loop-place.invariant c.loop-place-test.true in
    placed_first c.args.at.now.cluster.now c.args.at.now.groups.now c.args.at.now.moment c.args.booked.now c.args.job.now c.requires.single c.args.at.now.order.now
    (slice_index_or c.items-place-items.result.now c.loop-place.place-index 0) c.index-order-place.result c.in-Some.grants here.0 c.index-order-place.is here.1 (sym c.in-Some.is ∙ c.in_ok-grants.ensures)

pub returns : goal.returns
returns c =
    let past = c.loop-place-test.false in
    sym (placed_nowhere c.args.at.now.cluster.now c.args.at.now.groups.now c.args.at.now.moment c.args.booked.now c.args.job.now c.args.at.now.order.now (length c.args.at.now.order.now)
    (passed_end c.args.at.now.cluster.now c.args.at.now.groups.now c.args.at.now.moment c.args.booked.now c.args.at.now.order.now c.args.room.now c.requires.left c.args.job.now c.requires.there c.requires.free c.items-place-items.result.now c.items-place-items.ensures
    c.loop-place.place-index c.loop-place.invariant (omega (arith, past))) (omega arith))
