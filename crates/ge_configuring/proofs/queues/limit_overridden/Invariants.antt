use Rattle.std.proofs.Common.{◌≡◌}
use Rattle.std.specs.List.{list_any}
use Rattle.ge_model_config.specs.Used as used
use Rattle.ge_configuring.proofs.queues.limit_overridden.Given as goal

abbrev pub invariant-loop-attribute : goal.invariant-loop-attribute
invariant-loop-attribute l = list_any (λ limit. used.overrides_at l.name limit.1) l.attribute-iterator ≡ list_any (λ limit. used.overrides_at l.name limit.1) l.limits
