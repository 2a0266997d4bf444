use Rattle.std.proofs.Common.{◌-◌, ℕ, ◌+◌, ◌*◌, ◌^◌, ◌<◌, ◌≤◌, length, slice_index_or}
use Rattle.ge_timeline.specs.declared.points.Point.{Point}
use Rattle.ge_timeline.proofs.finding.place_after.Given as goal

-- the places before `low` are by the moment, those from `high` on later; the rest is at most halved at each step
abbrev pub invariant-loop-low : goal.invariant-loop-low
invariant-loop-low g l = record {
  order : l.low ≤ l.high;
  within : l.high ≤ length l.points;
  by : (k : ℕ) (d : Point) → k < l.low → (slice_index_or l.points k d).at ≤ l.moment;
  later : (k : ℕ) (d : Point) → l.high ≤ k → k < length l.points → l.moment < (slice_index_or l.points k d).at;
  since : l.fn.steps ≤ l.steps;
  halved : 2 ^ (l.steps - l.fn.steps) * (l.high - l.low) ≤ length l.points;
  cost : 2 ^ (l.steps - l.fn.steps) ≤ 2 * length l.points + 1;
}

abbrev pub decreases-loop-low : goal.decreases-loop-low
decreases-loop-low g l = l.high - l.low
