use Rattle.ge_tickets.specs.Own.{own_tickets}
use Rattle.ge_collections.proofs.Turns.{listed_more}
use Rattle.ge_tickets.proofs.owning.list_each.Goals as goal

pub loop-number-preserved : goal.loop-number-preserved
loop-number-preserved c =
    listed_more (own_tickets c.args.c.now) c.args.numbers.now c.loop-number.number-index _ _ _ _ c.loop-number-test.true c.loop-number.invariant c.own_tickets.ensures
    c.in_ok-push.ensures.ok
