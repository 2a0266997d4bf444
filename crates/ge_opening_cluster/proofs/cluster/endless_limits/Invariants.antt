-- The limits of the names so far.
use Rattle.std.proofs.Common.{◌≡◌, [], map, take}
use Rattle.ge_model_rows.specs.Opening.{with_limits}
use Rattle.ge_opening_cluster.proofs.cluster.endless_limits.Given as goal

abbrev pub invariant-loop-name : goal.invariant-loop-name
invariant-loop-name l = l.limits ≡ with_limits [] (map (λ name. name.now) (take l.name-index l.name-items))
