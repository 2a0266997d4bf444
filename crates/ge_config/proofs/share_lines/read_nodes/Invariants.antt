use Rattle.std.proofs.Common.{◌≡◌, drop}
use Rattle.std.specs.Prelude.{fold}
use Rattle.ge_model_config.specs.Shares.{put_node, nodes_of}
use Rattle.ge_config.proofs.share_lines.read_nodes.Given as goal

abbrev pub invariant-loop-node : goal.invariant-loop-node
invariant-loop-node l = fold put_node l.table (drop l.node-index l.nodes) ≡ nodes_of l.nodes
