use Rattle.std.proofs.Common.{◌≡◌, drop}
use Rattle.std.specs.Prelude.{IsTrue, is_none, flat_map}
use Rattle.std.specs.List.{list_any}
use Rattle.ge_collections.specs.Keyed.{at_number}
use Rattle.ge_model_config.specs.Shares.{child_numbers}
use Rattle.ge_config.specs.ShareTree.{has_short_ids}
use Rattle.ge_config.proofs.share_lines.some_child_is_missing.Given as goal

abbrev pub invariant-loop-node : goal.invariant-loop-node
invariant-loop-node l = IsTrue (has_short_ids l.table) → list_any (λ child. is_none (at_number l.table child)) (flat_map child_numbers (drop l.node-index l.nodes)) ≡ list_any (λ child. is_none (at_number l.table child)) (flat_map child_numbers l.nodes)
