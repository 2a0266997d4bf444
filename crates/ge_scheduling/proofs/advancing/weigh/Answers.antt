use Rattle.std.proofs.Common.{sym, subst, ◌∙◌}
use Rattle.ge_model_place.specs.Running.{booked_by}
use Rattle.ge_attempts.specs.Rests.{AreLeft}
use Rattle.ge_scheduling.proofs.Bridged.{decision_tallied}
use Rattle.ge_scheduling.proofs.Kept.{weighed_decides, weighed_follows}
use Rattle.ge_attempts.proofs.Remaining.{all_left_later}
use Rattle.ge_scheduling.proofs.advancing.weigh.Goals as goal

pub returns-clause-decided : goal.returns-clause-decided
returns-clause-decided c =
    let C = c.args.at.now.cluster.now in
    let was = c.args.so_far.now in
    weighed_decides C c.args.at.now.groups.now c.args.at.now.order.now c.args.at.now.moment was.booked c.book.new.booked was.decisions c.push.new.self c.args.task c.in_ok-made.made
    (c.in_ok-made.ensures.decided ∙ decision_tallied C c.args.at.now.groups.now c.args.at.now.order.now c.args.at.now.moment was.booked was.decisions was.tally c.requires.tallied c.args.task)
    c.in_ok-book.ensures c.in_ok-push.ensures.ok

pub returns-clause-follows : goal.returns-clause-follows
returns-clause-follows c =
    let C = c.args.at.now.cluster.now in
    let was = c.args.so_far.now in
    weighed_follows C c.args.at.now.groups.now c.args.at.now.order.now c.args.at.now.moment c.args.at.now.kinds.now.entries was.booked c.book.new.booked was.decisions c.push.new.self was.tally c.count.new.tally
    c.passed_by-so_far.result was.passed was.full c.note.new.full was.room c.renew.new.room c.args.task c.in_ok-made.made c.requires
    (c.in_ok-made.ensures.decided ∙ decision_tallied C c.args.at.now.groups.now c.args.at.now.order.now c.args.at.now.moment was.booked was.decisions was.tally c.requires.tallied c.args.task)
    c.in_ok-book.ensures c.in_ok-push.ensures.ok (c.in_ok-count.ensures was.decisions c.requires.tallied) c.passed_by-so_far.ensures c.in_ok-note.ensures c.renew.ensures

pub renew-requires : goal.renew-requires
renew-requires c =
    let C = c.args.at.now.cluster.now in
    let was = c.args.so_far.now in
    subst (λ bs. AreLeft C c.args.at.now.groups.now c.args.at.now.moment bs c.args.at.now.order.now c.decision.new.room) (sym c.in_ok-book.ensures)
    (all_left_later C c.args.at.now.groups.now c.args.at.now.moment was.booked (booked_by C c.args.at.now.groups.now c.args.at.now.moment c.in_ok-made.made) c.args.at.now.order.now c.decision.new.room c.in_ok-made.ensures.left)
