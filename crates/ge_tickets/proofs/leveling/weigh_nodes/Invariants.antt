use Rattle.std.proofs.Common.{◌≡◌, take}
use Rattle.ge_tickets.specs.Leveled.{weights_of}
use Rattle.ge_tickets.proofs.leveling.weigh_nodes.Given as goal

abbrev pub invariant-loop-node : goal.invariant-loop-node
invariant-loop-node l = l.weights ≡ weights_of l.usage l.jobs l.sums (take l.node-index l.nodes)
