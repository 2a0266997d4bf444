use Rattle.std.proofs.Common.{◌≡◌, drop}
use Rattle.std.specs.Prelude.{fold}
use Rattle.ge_config.specs.ShareTree.{with_child, met_children}
use Rattle.ge_config.proofs.share_tree.meet_children.Given as goal

abbrev pub invariant-loop-child : goal.invariant-loop-child
invariant-loop-child l = fold with_child (l.met, l.doubled) (drop l.child-index l.children) ≡ met_children l.children
