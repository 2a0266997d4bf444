use Rattle.std.proofs.Common.{◌≡◌}
use Rattle.std.specs.List.{list_any}
use Rattle.ge_collections.specs.Keyed.{text_eq}
use Rattle.std.specs.Prelude.{◌||◌, ◌&&◌, ◌∷◌}
use Rattle.ge_configuring.proofs.sites.project_in_shares.Given as goal

abbrev pub invariant-loop-node : goal.invariant-loop-node
invariant-loop-node l = list_any (λ node. node.1.project && text_eq l.name node.1.name) l.node-iterator ≡ list_any (λ node. node.1.project && text_eq l.name node.1.name) l.c.shares
