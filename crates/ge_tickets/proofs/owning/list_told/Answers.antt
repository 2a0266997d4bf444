use Rattle.ge_tickets.specs.Own.{told_tickets}
use Rattle.ge_collections.proofs.Turns.{listed_more}
use Rattle.ge_tickets.proofs.owning.list_told.Goals as goal

pub loop-number-preserved : goal.loop-number-preserved
loop-number-preserved c = (
  listed_more (told_tickets c.args.rows.now.entries) c.args.numbers.now c.loop-number.number-index _ _ _ _ c.loop-number-test.true c.loop-number.invariant.0
      (c.told_tickets.ensures.tickets c.loop-number.invariant.1) c.in_ok-push.ensures.ok,
  c.told_tickets.ensures.others c.loop-number.invariant.1,
)
