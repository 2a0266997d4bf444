use Rattle.ge_order.proofs.Beside.{nothing_beside}
use Rattle.ge_order.proofs.asked.beside_slots.Goals as goal

pub returns-else-units : goal.returns-else-units
returns-else-units c = λ are. nothing_beside c.args.c.now c.args.units c.args.slots c.args.asked.now c.if-units.false are
