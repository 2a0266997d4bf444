-- No request ends at the places behind.
use Rattle.std.proofs.Common.{◌≡◌, ℕ, ◌-◌, ◌<◌, ◌≤◌, false, drop}
use Rattle.ge_script.specs.Pieces.{ends_request}
use Rattle.ge_script.proofs.pieces.first_end.Given as goal

abbrev pub invariant-loop-at : goal.invariant-loop-at
invariant-loop-at l = (k : ℕ) → l.from ≤ k → k < l.at → (k < l.limit) × (ends_request (drop k l.bytes) ≡ false)

abbrev pub decreases-loop-at : goal.decreases-loop-at
decreases-loop-at l = l.limit - l.at
