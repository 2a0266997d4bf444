use Rattle.std.proofs.Common.{◌≡◌, take, fold}
use Rattle.ge_model_order.specs.ShareTables.{with_leaf, scope_of_project}
use Rattle.ge_tickets.proofs.finding.add_scopes.Given as goal

abbrev pub invariant-loop-project : goal.invariant-loop-project
invariant-loop-project l = l.leaves ≡ fold (λ more other. with_leaf l.id l.name more (scope_of_project other)) l.fn.leaves (take l.project-index l.projects)
