use Rattle.ge_order.proofs.InLots.{lot_prios}
use Rattle.ge_order.proofs.priority.lot_after.Goals as goal

pub returns-clause-prios : goal.returns-clause-prios
returns-clause-prios c = λ worked. lot_prios c.args.sched.now c.args.scale.now c.args.alike.first c.args.alike.others.items _ (c.prio_after.ensures.prio worked)
