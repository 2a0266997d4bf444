use Rattle.std.proofs.Common.{◌≡◌, ◌++◌, map}
use Rattle.ge_model_place.specs.Quotas.{rule_key}
use Rattle.ge_quota.specs.Asked.{asked_by}
use Rattle.ge_quota.proofs.counting.append_limits.Given as goal

abbrev pub invariant-loop-resource : goal.invariant-loop-resource
invariant-loop-resource l =
    l.keys ++ map (λ limit. rule_key l.set (asked_by l.who) limit.0 (l.found.number, l.found.rule.now)) l.resource-iterator
    ≡ l.fn.keys ++ map (λ limit. rule_key l.set (asked_by l.who) limit.0 (l.found.number, l.found.rule.now)) l.found.rule.now.limits
