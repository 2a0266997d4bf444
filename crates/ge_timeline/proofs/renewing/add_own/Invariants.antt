use Rattle.std.proofs.Common.{take, List}
use Rattle.ge_model_rows.specs.ScheduleRows.{Booking}
use Rattle.ge_model_place.specs.Bookings.{plain_sum}
use Rattle.ge_timeline.specs.StepFunctions.{IsRising}
use Rattle.ge_timeline.specs.Looks.{changes}
use Rattle.ge_timeline.specs.Shown.{Draws, sums_with, changes_with}
use Rattle.ge_timeline.proofs.renewing.add_own.Given as goal

abbrev pub invariant-loop-demand : goal.invariant-loop-demand
invariant-loop-demand l = record {
  rising : IsRising l.points.items;
  drawn : (bookings : List Booking) → Draws (plain_sum bookings l.limit) (changes bookings l.limit) l.fn.points.items
      → Draws (sums_with bookings l.b (take l.demand-index l.b.demands) l.limit) (changes_with bookings l.b (take l.demand-index l.b.demands) l.limit) l.points.items;
}
