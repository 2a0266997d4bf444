-- A booking is taken out of a list, and the ends of bookings.
use Rattle.std.specs.Prelude.{◌≡◌, ℕ, ◌==◌, ◌&&◌, Bool, true, false, List, ◌∷◌, ◌++◌, Contains}
use Rattle.std.specs.BTreeSet.{BTreeSet, contains}
use Rattle.std.specs.Ordering.{nat_cmp}
use Rattle.std.specs.Cmp.Lexicographic.{pointwise}
use Rattle.ge_model_place.specs.Bookings.{same_limit}
use Rattle.ge_model_rows.specs.ScheduleRows.{Demand, Booking}
use Rattle.ge_model_rows.specs.TaskRows.{TaskId}
use Rattle.ge_model_place.specs.Runs.{ends_at}

abbrev pub same_task : TaskId → TaskId → Bool
same_task a b = a.job == b.job && a.task == b.task

abbrev pub same_demand : Demand → Demand → Bool
same_demand a b = same_limit a.limit b.limit && a.amount == b.amount

-- whether two bookings are one
abbrev pub same_booking : Booking → Booking → Bool
same_booking a b = same_task a.task b.task && (pointwise same_demand a.demands b.demands && (a.from == b.from && a.until == b.until))

-- one booking is out, the others stand in their order
pub record IsTakenOut (b : Booking) (old new : List Booking) : Type 0 where
  pub front : List Booking
  pub behind : List Booking
  pub before : old ≡ front ++ b ∷ behind
  pub after : new ≡ front ++ behind

-- Whether a booking was there: then the first one that equals it is taken out; else it is nowhere in the list, which is as it was.
abbrev pub Takes : Booking → List Booking → List Booking → Bool → Type 0
Takes b old new true = (out : IsTakenOut b old new) × (Contains out.front b → ⊥)
Takes b old new false = (new ≡ old) × (Contains old b → ⊥)

-- the set has the moments at which bookings end
abbrev pub HasEnds : BTreeSet ℕ → List Booking → Type 0
HasEnds ends bookings = (moment : ℕ) → contains nat_cmp ends moment ≡ ends_at bookings moment
