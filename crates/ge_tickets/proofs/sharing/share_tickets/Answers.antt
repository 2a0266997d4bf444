use Rattle.std.proofs.Common.{◌∙◌, ap, map}
use Rattle.ge_tickets.specs.Listed.{no_tickets}
use Rattle.ge_tickets.proofs.Treeless.{treeless}
use Rattle.ge_tickets.proofs.sharing.share_tickets.Goals as goal

pub returns-then-has_no_tree : goal.returns-then-has_no_tree
returns-then-has_no_tree c =
    c.in_ok-list.ensures ∙ ap (map no_tickets) c.items.ensures ∙ treeless c.args.c.now c.args.jobs.now c.args.now (c.has_no_tree.ensures c.if-has_no_tree.true)
