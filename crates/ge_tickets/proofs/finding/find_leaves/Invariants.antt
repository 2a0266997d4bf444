use Rattle.std.proofs.Common.{◌≡◌, [], take, fold}
use Rattle.ge_tickets.specs.Found.{with_node_found}
use Rattle.ge_tickets.proofs.finding.find_leaves.Given as goal

abbrev pub invariant-loop-node : goal.invariant-loop-node
invariant-loop-node l = l.leaves ≡ fold (with_node_found l.children) [] (take l.node-index l.nodes)
