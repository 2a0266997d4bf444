use Rattle.ge_tickets.specs.Counted.{tickets_by_counts}
use Rattle.ge_collections.proofs.Turns.{listed_more}
use Rattle.ge_tickets.proofs.listing.list_tickets.Goals as goal

pub loop-number-preserved : goal.loop-number-preserved
loop-number-preserved c =
    listed_more (tickets_by_counts c.args.c.now c.args.counts.now c.args.sums.now) c.args.numbers.now c.loop-number.number-index _ _ _ _ c.loop-number-test.true c.loop-number.invariant c.tickets_at.ensures
    c.in_ok-push.ensures.ok
