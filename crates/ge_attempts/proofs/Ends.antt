-- The first end at which a task can be placed, end by end.
use Rattle.std.proofs.Common.{◌≡◌, ℕ, ◌-◌, ◌<◌, true, List, Option, Some, None, is_some, sym, ap, ◌∙◌, arith}
use Rattle.ge_model_rows.specs.ClusterRows.{Cluster}
use Rattle.ge_model_rows.specs.DecisionRows.{Reserve, Skip}
use Rattle.ge_model_rows.specs.HostRows.{Groups, InstanceId}
use Rattle.ge_model_rows.specs.JobRows.{Job, Grant}
use Rattle.ge_model_rows.specs.ScheduleRows.{Booking}
use Rattle.ge_model_rows.specs.TaskRows.{TaskId}
use Rattle.ge_model_place.specs.Bookings.{forever}
use Rattle.ge_model_place.specs.Running.{earliest_end, next_end_after, reserve_at}
use Rattle.ge_model_place.proofs.Earliest.{earliest_does}
use Rattle.ge_model_place.proofs.NextEnd.{no_end_found, next_end_found, later_end_found}
use Rattle.ge_attempts.specs.Verdicts.{grants_at, can_be_placed, reserved_from, reserved}

-- the next end is nearer to the end of all
pub nearer : (booked : List Booking) (moment end : ℕ) → next_end_after booked moment ≡ Some end → forever - end < forever - moment
nearer booked moment end next =
    let is = earliest_does (λ n. true) moment booked end next in
    let later = is.1.later in
    let ever = is.1.ever in
    omega (arith, later, ever)

module _ (c : Cluster) (groups : Groups) (order : List InstanceId) (now : ℕ) (booked : List Booking) (job : Option Job) (moment : ℕ) where
  -- the first end is the first after this moment
  abbrev pub IsFrom : Type 0
  IsFrom = earliest_end (can_be_placed c groups order now booked job) moment booked ≡ earliest_end (can_be_placed c groups order now booked job) now booked

  -- there is no end any more
  pub none_left : (task : TaskId) → IsFrom → next_end_after booked moment ≡ None → Skip task ≡ reserved c groups order now booked job task
  none_left task from none = ap (λ found. reserved_from c groups order now booked job task found) (sym (no_end_found (can_be_placed c groups order now booked job) moment booked none) ∙ from)

  -- the task can be placed at the next end
  pub found_there : (task : TaskId) (end : ℕ) (grants : List Grant) → IsFrom → next_end_after booked moment ≡ Some end → grants_at c groups order now booked job end ≡ Some grants
      → Reserve (record { task = task; at = end; grants = grants }) ≡ reserved c groups order now booked job task
  found_there task end grants from next placed =
      ap (λ given. reserve_at task end given) (sym placed)
      ∙ ap (λ found. reserved_from c groups order now booked job task found) (sym (next_end_found (can_be_placed c groups order now booked job) moment booked end next (ap is_some placed)) ∙ from)

  -- it can't
  pub passed_on : (end : ℕ) → IsFrom → next_end_after booked moment ≡ Some end → grants_at c groups order now booked job end ≡ None
      → earliest_end (can_be_placed c groups order now booked job) end booked ≡ earliest_end (can_be_placed c groups order now booked job) now booked
  passed_on end from next placed = sym (later_end_found (can_be_placed c groups order now booked job) moment booked end next (ap is_some placed)) ∙ from
