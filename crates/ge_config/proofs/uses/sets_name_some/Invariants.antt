use Rattle.std.proofs.Common.{◌≡◌}
use Rattle.std.specs.List.{list_any}
use Rattle.ge_config.specs.Uses.{set_has_some}
use Rattle.ge_config.proofs.uses.sets_name_some.Given as goal

abbrev pub invariant-loop-set : goal.invariant-loop-set
invariant-loop-set l = list_any (set_has_some l.names) l.set-iterator ≡ list_any (set_has_some l.names) l.quotas
