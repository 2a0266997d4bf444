use Rattle.std.proofs.Common.{◌-◌, ◌≤◌, None, length}
use Rattle.ge_attempts.specs.Rests.{is_full, AreOpen}
use Rattle.ge_attempts.proofs.rests.vacant_places.Given as goal

abbrev pub invariant-loop-place : goal.invariant-loop-place
invariant-loop-place l = record {
  within : l.place ≤ length l.lefts;
  are : AreOpen (is_full l.at.cluster.now l.at.moment None) l.lefts l.place 0 l.vacant;
}

abbrev pub decreases-loop-place : goal.decreases-loop-place
decreases-loop-place l = length l.lefts - l.place
