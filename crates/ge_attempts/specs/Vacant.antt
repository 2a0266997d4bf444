-- Instances that have a slot left at the moment of a run.
use Rattle.std.specs.Prelude.{ℕ, Bool, not, ◌&&◌, nat_lt, nat_le, List}
use Rattle.ge_collections.specs.Keyed.{at_number}
use Rattle.ge_model_place.specs.Bookings.{forever}
use Rattle.ge_model_rows.specs.ClusterRows.{Cluster}
use Rattle.ge_model_rows.specs.HostRows.{Groups, InstanceId}
use Rattle.ge_model_rows.specs.ScheduleRows.{LimitId, Instance, Booking}
use Rattle.ge_model_place.specs.Limits.{capacity_of}
use Rattle.ge_model_place.specs.Opening.{slots_name}
use Rattle.ge_model_place.specs.Windows.{no_later_than, next_moment}
use Rattle.ge_timeline.specs.Looks.{window_peak}

-- whether the window of a task has a moment that begins at this one, of a job that is sent into no reservation: it ends by the end of all, and by that of a reservation of number 0, of which there should be none
abbrev pub goes_on : Cluster → ℕ → Bool
goes_on c now = nat_lt now (no_later_than (at_number c.advances 0) forever)

abbrev pub slots_of : InstanceId → LimitId
slots_of at = Instance at slots_name

-- whether as much of a limit is booked at a moment as there is, or more
abbrev pub is_used_up : Cluster → Groups → ℕ → List Booking → LimitId → Bool
is_used_up c groups now booked limit = nat_le (capacity_of c groups limit) (window_peak booked limit now (next_moment now))

-- whether all slots of an instance are booked at a moment
abbrev pub is_occupied : Cluster → Groups → ℕ → List Booking → InstanceId → Bool
is_occupied c groups now booked at = goes_on c now && is_used_up c groups now booked (slots_of at)

abbrev pub is_vacant : Cluster → Groups → ℕ → List Booking → InstanceId → Bool
is_vacant c groups now booked at = not (is_occupied c groups now booked at)
