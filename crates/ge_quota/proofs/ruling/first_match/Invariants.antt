use Rattle.std.proofs.Common.{◌≡◌, ◌+◌, drop}
use Rattle.ge_model_place.specs.Quotas.{rule_from}
use Rattle.ge_quota.specs.Asked.{asked_by}
use Rattle.ge_quota.proofs.ruling.first_match.Given as goal

abbrev pub invariant-loop-index : goal.invariant-loop-index
invariant-loop-index l = rule_from l.cluster l.groups (asked_by l.who) (l.index + 1) (drop l.index l.rules) ≡ rule_from l.cluster l.groups (asked_by l.who) 1 l.rules
