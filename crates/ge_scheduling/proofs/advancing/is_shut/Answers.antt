use Rattle.std.proofs.Common.{sym, ◌∙◌}
use Rattle.ge_scheduling.proofs.Kept.{each_waits, job_waits, none_may_start}
use Rattle.ge_attempts.proofs.LeftOut.{nothing_placed}
use Rattle.ge_attempts.proofs.Remaining.{none_open}
use Rattle.ge_scheduling.proofs.advancing.is_shut.Goals as goal

pub returns-then-no_slot_is_left : goal.returns-then-no_slot_is_left
returns-then-no_slot_is_left c = λ _.
    let C = c.args.at.now.cluster.now in
    let groups = c.args.at.now.groups.now in
    let order = c.args.at.now.order.now in
    let now = c.args.at.now.moment in
    let so_far = c.args.so_far.now in
    let left = c.no_slot_is_left.ensures.none c.if-no_slot_is_left.true in
    each_waits C groups order now so_far.booked so_far.decisions so_far.tally c.args.number c.requires.tallied
    (λ job there. none_may_start C groups order now so_far.booked so_far.decisions so_far.tally c.args.number job c.requires.tallied there
    (nothing_placed C groups now so_far.booked order job
    (none_open C groups now so_far.booked order so_far.room c.requires.left left.0 job (record { number = c.args.number; there = there })) left.1)
    (c.may_keep.ensures c.if-may_keep.false job there))

pub returns : goal.returns
returns c = λ noted.
    let C = c.args.at.now.cluster.now in
    let groups = c.args.at.now.groups.now in
    let order = c.args.at.now.order.now in
    let now = c.args.at.now.moment in
    let so_far = c.args.so_far.now in
    each_waits C groups order now so_far.booked so_far.decisions so_far.tally c.args.number c.requires.tallied
    (λ job there. job_waits C groups order now c.args.at.now.kinds.now.entries so_far.booked so_far.decisions so_far.tally so_far.full c.args.number
    job c.requires.tallied c.requires.shut there (sym c.is_noted.ensures ∙ noted) (c.may_keep.ensures c.if-may_keep.false job there))
