use Rattle.std.proofs.Common.{arith}
use Rattle.ge_order.specs.Kinds.{told_standing}
use Rattle.ge_collections.proofs.Turns.{listed_more}
use Rattle.ge_order.proofs.telling.standings_told.Goals as goal

pub loop-number-init : goal.loop-number-init
loop-number-init c = (
  (λ tell. (c.in_ok-standings.ensures.items, c.walk-left.ensures, c.no_kinds-kinds.ensures c.args.c.now c.args.rows.now.entries)),
  c.in_ok-standings.ensures.len,
  omega (arith, c.in_ok-standings.ensures.capacity),
)

pub loop-number-preserved : goal.loop-number-preserved
loop-number-preserved c = (
  (λ tell.
      let before = c.loop-number.invariant.0 tell in (
        listed_more (told_standing c.args.c.now c.args.rows.now.entries c.args.now) c.args.jobs.now c.loop-number.number-index _ _ _ _ c.loop-number-test.true before.0
            (c.standing_told-standing.ensures.standing c.units_of-units.ensures before.1 tell before.2) c.push_reserved.ensures.items,
        c.standing_told-standing.ensures.others before.1,
        c.standing_told-standing.ensures.asked c.units_of-units.ensures before.1 tell before.2,
      )),
  omega (arith, c.push_reserved.ensures.len, c.loop-number.invariant.1),
  omega (arith, c.push_reserved.ensures.capacity, c.loop-number.invariant.2),
)
