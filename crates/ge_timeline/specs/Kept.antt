-- What is kept of a list of bookings.
use Rattle.std.specs.Prelude.{ℕ, List, Vec}
use Rattle.std.specs.BTreeSet.{BTreeSet}
use Rattle.slab.specs.Slab.{Slab}
use Rattle.std.specs.declared.alloc.Global.{Global}
use Rattle.ge_model_rows.specs.ScheduleRows.{LimitId, Booking}
use Rattle.ge_model_place.specs.Bookings.{plain_sum}
use Rattle.ge_timeline.specs.declared.points.Point.{Point}
use Rattle.ge_timeline.specs.Looks.{changes}
use Rattle.ge_timeline.specs.Shown.{Shows}
use Rattle.ge_timeline.specs.Taking.{HasEnds}

-- the step functions show the sums of the bookings, and the set has their ends
pub record IsKept (index : List (LimitId × ℕ)) (functions : Slab (Vec Point Global)) (ends : BTreeSet ℕ) (bookings : List Booking) : Type 0 where
  pub shows : Shows index functions (plain_sum bookings) (changes bookings)
  pub ends_kept : HasEnds ends bookings
