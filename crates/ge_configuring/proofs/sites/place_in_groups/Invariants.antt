use Rattle.std.proofs.Common.{◌≡◌}
use Rattle.std.specs.List.{list_any}
use Rattle.ge_model_rows.specs.Pieces.{is_one_of}
use Rattle.ge_configuring.proofs.sites.place_in_groups.Given as goal

abbrev pub invariant-loop-members : goal.invariant-loop-members
invariant-loop-members l = list_any (λ group. is_one_of l.name group.1) l.members-iterator ≡ list_any (λ group. is_one_of l.name group.1) l.c.groups
