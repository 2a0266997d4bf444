use Rattle.std.proofs.Common.{◌≡◌}
use Rattle.std.specs.List.{list_any}
use Rattle.ge_model_rows.specs.Pieces.{is_one_of}
use Rattle.std.specs.Prelude.{◌||◌, ◌&&◌, ◌∷◌}
use Rattle.ge_configuring.proofs.sites.set_in_projects.Given as goal

abbrev pub invariant-loop-project : goal.invariant-loop-project
invariant-loop-project l = list_any (λ project. is_one_of l.name project.1.acl || is_one_of l.name project.1.xacl) l.project-iterator ≡ list_any (λ project. is_one_of l.name project.1.acl || is_one_of l.name project.1.xacl) l.c.projects
