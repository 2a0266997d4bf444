use Rattle.std.proofs.Common.{◌≡◌, drop}
use Rattle.std.specs.List.{list_all}
use Rattle.ge_model_config.specs.Quotas.{is_known_user}
use Rattle.ge_config.proofs.quotas.are_known_users.Given as goal

abbrev pub invariant-loop-element : goal.invariant-loop-element
invariant-loop-element l = list_all (is_known_user l.c) (drop l.element-index l.elements) ≡ list_all (is_known_user l.c) l.elements
