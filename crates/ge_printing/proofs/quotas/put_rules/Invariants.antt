use Rattle.std.proofs.Common.{◌≡◌, ◌++◌, take, map}
use Rattle.ge_model_config.specs.Quotas.{rule_line}
use Rattle.ge_printing.proofs.quotas.put_rules.Given as goal

abbrev pub invariant-loop-rule : goal.invariant-loop-rule
invariant-loop-rule l = l.lines ≡ l.fn.lines ++ map (rule_line l.c) (take l.rule-index l.rules)
