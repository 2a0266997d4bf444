use Rattle.std.proofs.Common.{not, ap, ◌∙◌}
use Rattle.ge_attempts.proofs.Blocked.{not_known}
use Rattle.ge_attempts.proofs.Remaining.{until_found}
use Rattle.ge_attempts.proofs.renewing.find_until.Goals as goal

pub returns-then-is_none : goal.returns-then-is_none
returns-then-is_none c =
    until_found c.args.at.now.cluster.now c.args.at.now.groups.now c.args.at.now.moment c.args._booked.now c.args.at.now.order.now c.args.room.now c.shortest_end.result c.requires
    (not_known c.args.room.now.until (c.is_none.ensures ∙ ap not c.if-is_none.true)) c.shortest_end.ensures
