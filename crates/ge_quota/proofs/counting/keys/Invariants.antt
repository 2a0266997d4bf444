use Rattle.std.proofs.Common.{◌≡◌, ◌++◌}
use Rattle.std.specs.Prelude.{flat_map}
use Rattle.ge_model_place.specs.Quotas.{keys_of_set}
use Rattle.ge_quota.specs.Asked.{asked_by}
use Rattle.ge_quota.proofs.counting.keys.Given as goal

abbrev pub invariant-loop-set : goal.invariant-loop-set
invariant-loop-set l = l.keys ++ flat_map (keys_of_set l.cluster l.groups (asked_by l.who)) l.set-iterator ≡ flat_map (keys_of_set l.cluster l.groups (asked_by l.who)) l.cluster.quotas
