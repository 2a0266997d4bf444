use Rattle.std.proofs.Common.{◌≡◌, [], take}
use Rattle.std.specs.Prelude.{fold}
use Rattle.ge_model_config.specs.Quotas.{with_rule_limit}
use Rattle.ge_model_rows.specs.Faults.{after_faults}
use Rattle.ge_config.proofs.quotas.read_limits.Given as goal

abbrev pub invariant-loop-pair : goal.invariant-loop-pair
invariant-loop-pair l = record {
  limits : l.limits ≡ (fold (with_rule_limit l.c) ([], []) (take l.pair-index l.pairs)).0;
  faults : l.faults ≡ after_faults l.fn.faults (fold (with_rule_limit l.c) ([], []) (take l.pair-index l.pairs)).1;
}
