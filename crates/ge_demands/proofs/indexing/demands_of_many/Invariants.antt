use Rattle.std.proofs.Common.{◌≡◌, fold, take, []}
use Rattle.ge_model_place.specs.Limits.{with_grant}
use Rattle.ge_capacities.specs.Found.{AreKept}
use Rattle.ge_demands.proofs.indexing.demands_of_many.Given as goal

abbrev pub invariant-loop-grant : goal.invariant-loop-grant
invariant-loop-grant l = (l.demands.items ≡ fold (with_grant l.cluster l.groups l.job) [] (take l.grant-index l.grants)) × AreKept l.places.entries l.demands.items
