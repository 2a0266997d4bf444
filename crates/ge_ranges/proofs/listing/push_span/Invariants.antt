use Rattle.std.proofs.Common.{◌≡◌, ◌+◌, ◌-◌, ◌*◌, ◌++◌}
use Rattle.ge_model_rows.specs.Spans.{stepping}
use Rattle.ge_ranges.proofs.listing.push_span.Given as goal

abbrev pub invariant-loop-place : goal.invariant-loop-place
invariant-loop-place l = l.numbers ++ stepping (l.count - l.place) (l.span.first + l.place * l.span.step) l.span.step ≡ l.fn.numbers ++ stepping l.count l.span.first l.span.step
