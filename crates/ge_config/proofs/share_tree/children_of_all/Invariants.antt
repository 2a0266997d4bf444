use Rattle.std.proofs.Common.{◌≡◌, ◌++◌}
use Rattle.std.specs.Prelude.{flat_map}
use Rattle.ge_model_config.specs.Shares.{all_children}
use Rattle.ge_config.proofs.share_tree.children_of_all.Given as goal

abbrev pub invariant-loop-node : goal.invariant-loop-node
invariant-loop-node l = l.children.items ++ flat_map (λ node. node.1.children) l.node-iterator ≡ all_children l.nodes
