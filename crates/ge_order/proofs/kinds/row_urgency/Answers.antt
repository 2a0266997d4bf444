use Rattle.std.proofs.Common.{sym, ◌∙◌}
use Rattle.ge_order.proofs.Beside.{neither}
use Rattle.ge_order.proofs.OneKind.{kind_of_row}
use Rattle.ge_order.proofs.Sequential.{sequential_asked}
use Rattle.ge_order.proofs.kinds.row_urgency.Goals as goal

pub returns-then-is_looked_up-clause-asked : goal.returns-then-is_looked_up-clause-asked
returns-then-is_looked_up-clause-asked c =
    λ rows units there tell are. c.kind_urgency.ensures.asked rows units (kind_of_row c.args.c.now rows c.args.number c.args.row.now there) are

pub returns-then-is_looked_up-clause-kept : goal.returns-then-is_looked_up-clause-kept
returns-then-is_looked_up-clause-kept c =
    λ rows units there tell are. c.kind_urgency.ensures.kept rows units (kind_of_row c.args.c.now rows c.args.number c.args.row.now there) tell.alike are

pub returns-else-is_looked_up-clause-asked : goal.returns-else-is_looked_up-clause-asked
returns-else-is_looked_up-clause-asked c =
    λ rows units there tell are.
    let none = neither c.args.row.now.facts.parallel c.args.units.others (sym c.if-is_looked_up.ensures) in
    c.sequential_urgency.ensures ∙ sequential_asked c.args.c.now c.args.units units none.1 rows c.args.number c.args.row.now there tell none.0
