use Rattle.std.proofs.Common.{◌≡◌, ◌++◌, drop}
use Rattle.std.specs.Prelude.{filter_map}
use Rattle.ge_model_config.specs.Shares.{id_of}
use Rattle.ge_config.proofs.share_lines.ids_of_nodes.Given as goal

abbrev pub invariant-loop-node : goal.invariant-loop-node
invariant-loop-node l = l.ids.items ++ filter_map id_of (drop l.node-index l.nodes) ≡ filter_map id_of l.nodes
