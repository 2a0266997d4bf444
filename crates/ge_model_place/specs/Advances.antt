-- What an advance reservation is granted.
use Rattle.std.specs.Prelude.{◌≡◌, ℕ, ◌≤◌, ◌<◌, ◌^◌, max, false, List, [], ◌∷◌, ◌++◌, Option, Some, None, codes}
use Rattle.std.specs.List.{list_any}
use Rattle.ge_collections.specs.Keyed.{at_text, drop_text, at_number}
use Rattle.ge_limits.specs.Limits as limit
use Rattle.ge_model_place.specs.Bookings.{plain_sum}
use Rattle.ge_model_rows.specs.Groups.{expanded}
use Rattle.ge_model_rows.specs.ClusterRows.{Cluster}
use Rattle.ge_model_rows.specs.JobRows.{Grant, Advance}
use Rattle.ge_model_rows.specs.ScheduleRows.{LimitId}
use Rattle.ge_model_place.specs.InstanceOrder.{instance_order}
use Rattle.ge_model_place.specs.Limits.{capacity_of}
use Rattle.ge_model_place.specs.Windows.{runs_in_advance, advance_booking, base_bookings}
pub use Rattle.ge_model_place.specs.StandIns.{stand_in}
unfoldable pub use Rattle.ge_model_place.specs.Placement.{placement_of}

-- the grants of a reservation that is asked for at a moment: those of the job that stands for it, from its first moment on, beside all that is booked; there may be none
unfoldable pub advance_grants : Cluster → ℕ → Advance → Option (List Grant)
unfolding placement_of
advance_grants c now a = placement_of c (expanded c) (instance_order c (expanded c)) (base_bookings c (expanded c) now) (stand_in a) a.from

-- what a reservation may be that is asked for: it lasts, within all moments, each attribute is asked for once; and no reservation has the number 0
pub record IsBookable (c : Cluster) (a : Advance) : Type 0 where
  pub lasts : a.from < a.until
  pub ends : a.until < limit.moments
  pub once : at_text (drop_text a.request.asked (codes "s_rt")) (codes "s_rt") ≡ None
  pub numbered : at_number c.advances 0 ≡ None

-- a reservation that is booked under a number in which no task runs takes no limit over what there is, beside all that is booked, unless more was booked before it
abbrev pub KeepsBeside : Cluster → ℕ → ℕ → Advance → Type 0
KeepsBeside c now number a = (limit : LimitId) (moment : ℕ)
    → plain_sum (base_bookings c (expanded c) now ++ advance_booking c (expanded c) now (number, a) ∷ []) limit moment
    ≤ max (capacity_of c (expanded c) limit) (plain_sum (base_bookings c (expanded c) now) limit moment)

abbrev pub KeepsWhatIsBooked : Cluster → ℕ → ℕ → Advance → Type 0
KeepsWhatIsBooked c now number a = IsBookable c a → list_any (runs_in_advance number) c.jobs ≡ false → advance_grants c now a ≡ Some a.grants → KeepsBeside c now number a
