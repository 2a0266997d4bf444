-- The decision of a task by its job and by what is counted.
use Rattle.std.specs.Prelude.{ℕ, Bool, if◌then◌else◌, List, Option, Some, None, is_some}
use Rattle.ge_model_rows.specs.ClusterRows.{Cluster}
use Rattle.ge_model_rows.specs.DecisionRows.{Decision}
use Rattle.ge_model_rows.specs.HostRows.{Groups, InstanceId}
use Rattle.ge_model_rows.specs.JobRows.{Job, Grant}
use Rattle.ge_model_rows.specs.ScheduleRows.{Booking}
use Rattle.ge_model_rows.specs.TaskRows.{TaskId}
use Rattle.ge_model_place.specs.Placement.{job_placement}
use Rattle.ge_model_place.specs.Running.{earliest_end, start_with, reserve_at}
use Rattle.ge_attempts.specs.declared.counting.Tally.{Tally}
use Rattle.ge_attempts.specs.Counts.{is_over, may_be_reserved}

module _ (c : Cluster) (groups : Groups) (order : List InstanceId) (now : ℕ) where
  -- the grants of a task of a job, which may not be there, from a moment on
  abbrev pub grants_at : List Booking → Option Job → ℕ → Option (List Grant)
  grants_at booked job moment = job_placement c groups order booked moment job

  abbrev pub can_be_placed : List Booking → Option Job → ℕ → Bool
  can_be_placed booked job moment = is_some (grants_at booked job moment)

  abbrev pub reserved_from : List Booking → Option Job → TaskId → Option ℕ → Decision
  reserved_from booked job task None = Decision.Skip task
  reserved_from booked job task (Some moment) = reserve_at task moment (grants_at booked job moment)

  -- a reservation at the first end of a booking at which the task can be placed, or none
  abbrev pub reserved : List Booking → Option Job → TaskId → Decision
  reserved booked job task = reserved_from booked job task (earliest_end (can_be_placed booked job) now booked)

  -- of a task that can't start now
  abbrev pub waiting : List Booking → Bool → Option Job → TaskId → Decision
  waiting booked may job task = if may then reserved booked job task else Decision.Skip task

  abbrev pub placed_with : List Booking → Bool → ℕ → Option Job → TaskId → Option (List Grant) → Decision
  placed_with booked may serial job task None = waiting booked may job task
  placed_with booked may serial job task (Some grants) = start_with task serial grants

  -- by whether it is held back, whether it may be reserved, and the number of the next start
  abbrev pub decision_by : List Booking → Bool → Bool → ℕ → Option Job → TaskId → Decision
  decision_by booked held may serial job task = if held then Decision.Skip task else placed_with booked may serial job task (grants_at booked job now)

  -- by what is counted; a task without a job waits
  abbrev pub decision_at : List Booking → Tally → Option Job → TaskId → Decision
  decision_at booked tally None task = Decision.Skip task
  decision_at booked tally (Some job) task = decision_by booked (is_over c.sched tally job.owner) (may_be_reserved c.sched tally job) tally.serial (Some job) task
