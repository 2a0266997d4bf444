use Rattle.std.proofs.Common.{slice_index_or, ap}
use Rattle.ge_attempts.proofs.Remaining.{passed_none, passed_at}
use Rattle.ge_attempts.proofs.Singly.{some_there, given_first}
use Rattle.ge_attempts.proofs.single.place_first.Goals as goal

pub returns : goal.returns
returns c =
    let here = passed_at c.args.at.now.cluster.now c.args.at.now.groups.now c.args.at.now.moment c.args.booked.now c.args.at.now.order.now c.args.room.now c.requires.left c.args.job.now c.requires.there c.requires.free c.items-places.result.now
    c.items-places.ensures 0 (passed_none c.args.at.now.cluster.now c.args.at.now.groups.now c.args.at.now.moment c.args.booked.now c.args.at.now.order.now c.args.room.now c.requires.left c.args.job.now c.requires.there c.requires.free) (some_there c.items-places.result.now c.is_empty.result c.is_empty.ensures c.if-is_empty.false) in
    let place = slice_index_or c.items-places.result.now 0 0 in
    given_first c.args.at.now.cluster.now c.args.at.now.groups.now c.args.at.now.moment c.args.booked.now c.args.job.now c.requires.single c.args.at.now.order.now
    place (slice_index_or c.args.at.now.order.now place c.index-at-place.result) c.in_ok-grants.grants here.0 (ap (λ at. slice_index_or c.args.at.now.order.now place at) c.index-at-place.is) here.1 c.in_ok-grants.ensures
