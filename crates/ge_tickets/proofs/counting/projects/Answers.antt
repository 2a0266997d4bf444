use Rattle.ge_collections.specs.Keyed.{at_number}
use Rattle.ge_model_order.specs.Tickets.{is_in_project}
use Rattle.ge_tickets.proofs.Raised.{counted_more}
use Rattle.ge_tickets.proofs.counting.projects.Goals as goal

pub loop-number-preserved : goal.loop-number-preserved
loop-number-preserved c = λ q.
    counted_more (at_number c.args.c.now.jobs) (is_in_project q) c.args.numbers.now c.loop-number.number-index _ _ _ c.loop-number-test.true (c.loop-number.invariant q) (c.in_ok-count_project.ensures q)
