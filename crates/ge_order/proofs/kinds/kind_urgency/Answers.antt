use Rattle.std.proofs.Common.{rules, ◌%◌}
use Rattle.ge_order.proofs.OneKind.{kept_at}
use Rattle.ge_order.proofs.kinds.kind_urgency.Goals as goal

pub returns-in-Some-clause-asked : goal.returns-in-Some-clause-asked
returns-in-Some-clause-asked c =
    λ rows units here are. kept_at c.args.c.now rows c.args.kinds.now _ (c.args.kind % 64) c.args.kind c.in-Some.asked c.args.number are (search rules) c.in-Some.ensures here
