use Rattle.std.proofs.Common.{◌≡◌}
use Rattle.std.specs.Map.{values_of}
use Rattle.ge_opening.specs.Ranked.{all_ranked}
use Rattle.ge_opening.proofs.ordering.instances_in.Given as goal

abbrev pub invariant-loop-at : goal.invariant-loop-at
invariant-loop-at l = l.instances ≡ values_of (all_ranked l.yielded)
