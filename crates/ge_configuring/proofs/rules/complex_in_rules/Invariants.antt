use Rattle.std.proofs.Common.{◌≡◌}
use Rattle.std.specs.List.{list_any}
use Rattle.ge_model_config.specs.Cited.{has_name}
use Rattle.ge_configuring.proofs.rules.complex_in_rules.Given as goal

abbrev pub invariant-loop-set : goal.invariant-loop-set
invariant-loop-set l = list_any (λ set. list_any (λ rule. has_name rule.limits l.name) set.1.rules) l.set-iterator ≡ list_any (λ set. list_any (λ rule. has_name rule.limits l.name) set.1.rules) l.c.quotas
