use Rattle.std.proofs.Common.{◌≡◌}
use Rattle.std.specs.List.{list_any}
use Rattle.ge_attempts.specs.Common.{set_names_places}
use Rattle.ge_attempts.proofs.asking.quotas_name_places.Given as goal

abbrev pub invariant-loop-name : goal.invariant-loop-name
invariant-loop-name l = list_any set_names_places l._name-iterator ≡ list_any set_names_places l.quotas
