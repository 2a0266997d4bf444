use Rattle.std.proofs.Common.{◌≡◌, ◌++◌, filter}
use Rattle.ge_model_config.specs.Shares.{is_project_at, projects_in}
use Rattle.ge_config.proofs.share_tree.projects_in.Given as goal

abbrev pub invariant-loop-id : goal.invariant-loop-id
invariant-loop-id l = l.ids.items ++ filter (is_project_at l.nodes) l.id-iterator ≡ projects_in l.nodes
