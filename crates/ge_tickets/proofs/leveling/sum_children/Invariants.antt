use Rattle.std.proofs.Common.{◌≡◌, take}
use Rattle.ge_tickets.specs.Leveled.{sums_of}
use Rattle.ge_tickets.proofs.leveling.sum_children.Given as goal

abbrev pub invariant-loop-node : goal.invariant-loop-node
invariant-loop-node l = l.sums ≡ sums_of l.parts (take l.node-index l.nodes)
