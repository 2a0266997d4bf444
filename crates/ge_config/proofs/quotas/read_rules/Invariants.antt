use Rattle.std.proofs.Common.{◌≡◌, map, take}
use Rattle.std.specs.Prelude.{flat_map}
use Rattle.ge_model_config.specs.Quotas.{rule_read}
use Rattle.ge_model_rows.specs.Faults.{after_faults}
use Rattle.ge_config.proofs.quotas.read_rules.Given as goal

abbrev pub invariant-loop-line : goal.invariant-loop-line
invariant-loop-line l = record {
  rules : l.rules ≡ map (λ rule. rule.0) (map (rule_read l.c) (take l.line-index l.lines));
  faults : l.faults ≡ after_faults l.fn.faults (flat_map (λ rule. rule.1) (map (rule_read l.c) (take l.line-index l.lines)));
}
