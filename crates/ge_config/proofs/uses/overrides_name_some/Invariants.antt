use Rattle.std.proofs.Common.{◌≡◌, drop}
use Rattle.std.specs.List.{list_any}
use Rattle.ge_config.specs.Uses.{has_some}
use Rattle.ge_config.proofs.uses.overrides_name_some.Given as goal

abbrev pub invariant-loop-other : goal.invariant-loop-other
invariant-loop-other l = list_any (λ o. has_some l.names o.1) (drop l.other-index l.other-items) ≡ list_any (λ o. has_some l.names o.1) l.overrides
