use Rattle.std.proofs.Common.{◌≡◌, fold, take}
use Rattle.ge_model_place.specs.Limits.{with_grant}
use Rattle.ge_demands.proofs.demanding.add_grants.Given as goal

abbrev pub invariant-loop-grant : goal.invariant-loop-grant
invariant-loop-grant l = l.demands.items ≡ fold (with_grant l.cluster l.groups l.job) l.fn.demands.items (take l.grant-index l.grants)
