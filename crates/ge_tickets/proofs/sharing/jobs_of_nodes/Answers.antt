use Rattle.std.proofs.Common.{[]}
use Rattle.ge_tickets.specs.Listed.{with_number}
use Rattle.ge_collections.proofs.Turns.{folded_more}
use Rattle.ge_tickets.proofs.sharing.jobs_of_nodes.Goals as goal

pub loop-number-preserved : goal.loop-number-preserved
loop-number-preserved c =
    folded_more (with_number c.args.c.now c.args.finder.now) [] c.args.numbers.now c.loop-number.number-index _ _ _ c.loop-number-test.true c.loop-number.invariant c.in_ok-add_job.ensures
