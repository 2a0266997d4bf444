use Rattle.std.proofs.Common.{◌≡◌, [], take, fold}
use Rattle.ge_tickets.specs.Found.{with_child}
use Rattle.ge_tickets.proofs.finding.count_children.Given as goal

abbrev pub invariant-loop-node : goal.invariant-loop-node
invariant-loop-node l = l.counts ≡ fold with_child [] (take l.node-index l.nodes)
