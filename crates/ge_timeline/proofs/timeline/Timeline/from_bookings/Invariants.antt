use Rattle.std.proofs.Common.{◌≡◌, ◌++◌}
use Rattle.std.specs.Vec.Iter.{into_iter_items}
use Rattle.ge_timeline.proofs.timeline.Timeline.from_bookings.Given as goal

abbrev pub invariant-loop-b : goal.invariant-loop-b
invariant-loop-b l = l.timeline ++ into_iter_items l.b-iterator ≡ l.fn.bookings
