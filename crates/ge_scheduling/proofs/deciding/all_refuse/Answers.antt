use Rattle.std.proofs.Common.{sym, ap, ◌∙◌}
use Rattle.std.specs.List.{list_all}
use Rattle.ge_attempts.specs.Rests.{blocked_in}
use Rattle.ge_attempts.proofs.Remaining.{all_blocked_none}
use Rattle.ge_scheduling.proofs.deciding.all_refuse.Goals as goal

pub returns : goal.returns
returns c = λ refuse.
    let room = c.args.room.now in
    all_blocked_none c.args.at.now.cluster.now c.args.at.now.groups.now c.args.at.now.moment c.args._booked.now c.args.at.now.order.now room c.requires.left c.args.job.now c.requires.there c.requires.goes_on c.requires.free
    (ap (λ until. list_all (blocked_in room.lefts until) room.vacant) (sym c.window_end_from.ensures) ∙ sym c.all_blocked.ensures ∙ refuse)
