use Rattle.std.proofs.Common.{◌≡◌, drop, []}
use Rattle.ge_model_rows.specs.Ranges.{with_ranges}
use Rattle.ge_ranges.proofs.parsing.join_ranges.Given as goal

abbrev pub invariant-loop-range : goal.invariant-loop-range
invariant-loop-range l = with_ranges l.set (drop l.range-index l.ranges) ≡ with_ranges [] l.ranges
