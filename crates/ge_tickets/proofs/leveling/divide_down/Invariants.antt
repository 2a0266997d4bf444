use Rattle.std.proofs.Common.{◌≡◌, take}
use Rattle.ge_tickets.specs.Leveled.{tickets_down}
use Rattle.ge_tickets.proofs.leveling.divide_down.Given as goal

abbrev pub invariant-loop-node : goal.invariant-loop-node
invariant-loop-node l = l.known ≡ tickets_down l.all l.weights l.sums (take l.node-index l.nodes)
