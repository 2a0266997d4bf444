use Rattle.std.proofs.Common.{◌∙◌}
use Rattle.ge_dispatching.proofs.Ticketed.{functional_alone}
use Rattle.ge_dispatching.proofs.prioritizing.all_tickets.Goals as goal

pub returns-then-has_no_tree : goal.returns-then-has_no_tree
returns-then-has_no_tree c = c.in_ok-functional.ensures ∙ functional_alone c.args.c.now c.args.jobs.now c.args.now (c.has_no_tree.ensures c.if-has_no_tree.true)
