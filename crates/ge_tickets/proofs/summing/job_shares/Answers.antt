use Rattle.ge_tickets.specs.Counted.{with_job_share}
use Rattle.ge_collections.proofs.Turns.{folded_more}
use Rattle.ge_tickets.proofs.summing.job_shares.Goals as goal

pub loop-number-preserved : goal.loop-number-preserved
loop-number-preserved c =
    folded_more (with_job_share c.args.c.now) 0 c.args.numbers.now c.loop-number.number-index _ _ _ c.loop-number-test.true c.loop-number.invariant c.add_job_share-total.ensures
