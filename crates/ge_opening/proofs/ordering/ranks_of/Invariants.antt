use Rattle.std.proofs.Common.{◌≡◌, [], fold}
use Rattle.std.specs.Vec.Iter.{into_iter_items}
use Rattle.ge_model_place.specs.InstanceOrder.{with_ranked}
use Rattle.ge_opening.specs.Ranked.{all_ranked}
use Rattle.ge_opening.proofs.ordering.ranks_of.Given as goal

abbrev pub invariant-loop-at : goal.invariant-loop-at
invariant-loop-at l = fold (with_ranked l.cluster l.groups) (all_ranked l.ranks.keys) (into_iter_items l.at-iterator) ≡ fold (with_ranked l.cluster l.groups) [] l.fn.instances
