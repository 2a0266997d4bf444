use Rattle.std.proofs.Common.{◌≡◌}
use Rattle.std.specs.List.{list_any}
use Rattle.ge_model_place.specs.Opening.{in_group_like}
use Rattle.ge_opening.proofs.asking.is_in_groups_like.Given as goal

abbrev pub invariant-loop-name : goal.invariant-loop-name
invariant-loop-name l = list_any (in_group_like l.pattern l.host) l.name-iterator ≡ list_any (in_group_like l.pattern l.host) l.groups.hosts
