use Rattle.std.proofs.Common.{◌≡◌, fold, map}
use Rattle.ge_model_rows.specs.ScheduleRows.{Quota}
use Rattle.ge_model_place.specs.Quotas.{rule_key}
use Rattle.ge_quota.specs.Asked.{asked_by}
use Rattle.ge_capacities.specs.Counts.{all_counted}
use Rattle.ge_capacities.specs.Found.{with_limit_unless_found}
use Rattle.ge_capacities.proofs.quotas.add_of_rule.Given as goal

abbrev pub invariant-loop-resource : goal.invariant-loop-resource
invariant-loop-resource l =
    fold (with_limit_unless_found l.cluster l.groups l.job) (all_counted l.found.items) (map Quota (map (λ limit. rule_key l.name (asked_by l.who) limit.0 (l.rule.number, l.rule.rule.now)) l.resource-iterator))
    ≡ fold (with_limit_unless_found l.cluster l.groups l.job) (all_counted l.fn.found.items) (map Quota (map (λ limit. rule_key l.name (asked_by l.who) limit.0 (l.rule.number, l.rule.rule.now)) l.rule.rule.now.limits))
