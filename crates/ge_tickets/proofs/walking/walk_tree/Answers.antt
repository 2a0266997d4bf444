use Rattle.std.proofs.Common.{[], ◌∙◌}
use Rattle.ge_model_order.specs.ShareTree.{most_levels, root_id}
use Rattle.ge_tickets.specs.Nodes.{lined}
use Rattle.ge_tickets.proofs.Walked.{lined_tree}
use Rattle.ge_tickets.proofs.walking.walk_tree.Goals as goal

pub returns : goal.returns
returns c =
    c.in_ok-enter.ensures ∙ (λ i. lined most_levels c.args.c.now.shares [] [] (record { order = c.new.ensures i; lines = c.new-2.ensures i }) root_id) ∙ lined_tree c.args.c.now
