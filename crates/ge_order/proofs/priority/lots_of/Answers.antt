use Rattle.std.proofs.Common.{refl}
use Rattle.ge_order.proofs.InLots.{lots_more}
use Rattle.ge_order.proofs.priority.lots_of.Goals as goal

pub loop-lot-preserved : goal.loop-lot-preserved
loop-lot-preserved c =
    let before = c.loop-lot.invariant in (
      lots_more c.args.sched.now c.args.scale.now c.loop-lot.lots.items c.push.new.self.items c.loop-lot.yielded _ c.lot_after.result c.in-Some.lot
          before.0 (c.lot_after.ensures.prios before.1) c.in_ok-push.ensures.items refl,
      c.lot_after.ensures.kept before.1,
    )
