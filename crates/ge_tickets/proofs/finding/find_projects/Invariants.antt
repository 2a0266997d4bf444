use Rattle.std.proofs.Common.{◌≡◌, [], take, fold}
use Rattle.ge_model_order.specs.ShareTables.{with_project}
use Rattle.ge_tickets.proofs.finding.find_projects.Given as goal

abbrev pub invariant-loop-node : goal.invariant-loop-node
invariant-loop-node l = l.projects ≡ fold with_project [] (take l.node-index l.nodes)
