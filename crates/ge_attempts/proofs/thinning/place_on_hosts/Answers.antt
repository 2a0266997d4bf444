use Rattle.std.proofs.Common.{length, sym, subst, ap, ◌∙◌}
use Rattle.ge_model_place.specs.Placement.{placement_of}
use Rattle.ge_attempts.specs.Rests.{AreKept, AreNumbered, AreShortLater}
use Rattle.ge_attempts.proofs.Remaining.{later_known, placed_on_hosts}
use Rattle.ge_attempts.proofs.thinning.place_on_hosts.Goals as goal

pub kept_hosts-requires : goal.kept_hosts-requires
kept_hosts-requires c = subst (λ lefts. AreShortLater c.args.booked.now lefts c.args.room.now.later) (sym c.items-lefts.ensures) c.requires.left.later

pub instances_on-requires : goal.instances_on-requires
instances_on-requires c = ap (λ lefts. length lefts) c.items-lefts.ensures ∙ c.requires.left.long

pub returns-clause-placed : goal.returns-clause-placed
returns-clause-placed c =
    let C = c.args.at.now.cluster.now in
    let groups = c.args.at.now.groups.now in
    let now = c.args.at.now.moment in
    let booked = c.args.booked.now in
    let order = c.args.at.now.order.now in
    let until = c.window_end_from-until.result in
    let are = c.requires.left in
    let kept = subst (λ lefts. AreKept now booked c.args.moment until c.args.asked.now lefts (length lefts) c.in_ok-kept.kept) c.items-lefts.ensures
    (subst (λ counts. AreKept now booked c.args.moment until counts c.items-lefts.result.now (length c.items-lefts.result.now) c.in_ok-kept.kept) c.items-asked.ensures c.in_ok-kept.ensures.kept) in
    let left = c.in_ok-instances.ensures are.number (subst (λ lefts. AreNumbered are.number order lefts) (sym c.items-lefts.ensures) are.hosts) in
    c.in_ok-grants.ensures
    ∙ ap (λ ats. placement_of C groups ats booked c.args.job.now c.args.moment) c.items-order.ensures
    ∙ placed_on_hosts C groups now c.args.moment booked c.args.job.now c.requires.there c.requires.goes_on c.requires.free c.args.asked.now until order c.in_ok-instances.instances c.args.room.now c.in_ok-kept.kept
    c.window_end_from-until.ensures are c.requires.asked kept left

pub returns-clause-left : goal.returns-clause-left
returns-clause-left c =
    later_known c.args.at.now.cluster.now c.args.at.now.groups.now c.args.at.now.moment c.args.booked.now c.args.at.now.order.now c.args.room.now c.kept_hosts.new.later c.requires.left
    (subst (λ lefts. AreShortLater c.args.booked.now lefts c.kept_hosts.new.later) c.items-lefts.ensures c.in_ok-kept.ensures.later)
