use Rattle.std.proofs.Common.{◌≡◌, ℕ, ◌-◌, ◌≤◌, length, take, filter, List}
use Rattle.ge_attempts.specs.Rests.{is_kept, AreNumbered}
use Rattle.ge_attempts.proofs.thinning.instances_on.Given as goal

abbrev pub invariant-loop-place : goal.invariant-loop-place
invariant-loop-place l = record {
  within : l.place ≤ length l.order;
  are : (number : List ℕ → ℕ) → AreNumbered number l.order l.lefts → l.instances ≡ filter (λ at. is_kept l.kept (number at.host)) (take l.place l.order);
}

abbrev pub decreases-loop-place : goal.decreases-loop-place
decreases-loop-place l = length l.order - l.place
