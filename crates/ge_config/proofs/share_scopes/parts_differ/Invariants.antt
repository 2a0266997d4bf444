use Rattle.std.proofs.Common.{◌≡◌, drop}
use Rattle.std.specs.List.{list_all}
use Rattle.ge_model_config.specs.Shares.{all_children}
use Rattle.ge_config.specs.ShareTree.{part_below, part_differs}
use Rattle.ge_config.proofs.share_scopes.parts_differ.Given as goal

abbrev pub invariant-loop-id : goal.invariant-loop-id
invariant-loop-id l = l.children ≡ all_children l.nodes → list_all (λ id. part_differs l.nodes l.root.ids l.root.names l.root.differ (part_below l.nodes id)) (drop l.id-index l.projects) ≡ list_all (λ id. part_differs l.nodes l.root.ids l.root.names l.root.differ (part_below l.nodes id)) l.projects
