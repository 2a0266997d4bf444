use Rattle.std.proofs.Common.{◌≡◌}
use Rattle.std.specs.List.{list_any}
use Rattle.ge_model_rows.specs.Pieces.{is_one_of}
use Rattle.ge_model_config.specs.Quotas.{elements_of}
use Rattle.ge_configuring.proofs.rules.group_in_rules.Given as goal

abbrev pub invariant-loop-set : goal.invariant-loop-set
invariant-loop-set l = list_any (λ set. list_any (λ rule. is_one_of l.name (elements_of rule.hosts)) set.1.rules) l.set-iterator ≡ list_any (λ set. list_any (λ rule. is_one_of l.name (elements_of rule.hosts)) set.1.rules) l.c.quotas
