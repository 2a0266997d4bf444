use Rattle.ge_tickets.specs.Listed.{number_tickets}
use Rattle.ge_collections.proofs.Turns.{listed_more}
use Rattle.ge_tickets.proofs.sharing.list_tickets.Goals as goal

pub loop-number-preserved : goal.loop-number-preserved
loop-number-preserved c =
    listed_more (number_tickets c.args.c.now c.args.finder.now c.args.tickets.now c.args.jobs.now) c.args.numbers.now c.loop-number.number-index _ _ _ _ c.loop-number-test.true c.loop-number.invariant
    c.in_ok-own.ensures c.in_ok-push.ensures.ok
