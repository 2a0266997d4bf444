-- Tasks of a job that run alike one after the other.
use Rattle.std.specs.Prelude.{◌≡◌, ◌-◌, ◌==◌, ◌&&◌, Bool, true, false, List, [], ◌∷◌, Some, length, slice_get}
use Rattle.ge_model_place.specs.Bookings.{same_instance}
use Rattle.ge_model_rows.specs.ClusterRows.{Cluster}
use Rattle.ge_model_rows.specs.HostRows.{Groups}
use Rattle.ge_model_rows.specs.JobRows.{Job, Grant}
use Rattle.ge_model_rows.specs.ScheduleRows.{Booking}
use Rattle.ge_model_place.specs.Limits.{demands_of}

abbrev pub same_grant : Grant → Grant → Bool
same_grant a b = a.slots == b.slots && same_instance a.at b.at

-- whether two tasks have one grant each, and the same
abbrev pub alike : List Grant → List Grant → Bool
alike (a ∷ []) (b ∷ []) = same_grant a b
alike _ _ = false

-- the last booking takes what a task of the job takes whose grants are alike
abbrev pub IsOfLast : Cluster → Groups → Job → List Booking → List Grant → Type 0
IsOfLast c groups job bookings last =
    (b : Booking) → slice_get bookings (length bookings - 1) ≡ Some b → (grants : List Grant) → alike last grants ≡ true → b.demands ≡ demands_of c groups job grants
