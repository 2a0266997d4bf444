-- A scheduling run: one decision for each task, in the order of the tasks.
use Rattle.std.specs.Prelude.{ℕ, ◌+◌, ◌-◌, ◌^◌, ◌==◌, Bool, true, false, not, ◌&&◌, cond, if◌then◌else◌, nat_lt, nat_le, List, [], ◌∷◌, ◌++◌, fold, length, sum_by, count_by, Option, Some, None, is_some}
use Rattle.ge_collections.specs.Keyed.{text_eq, at_number}
use Rattle.ge_limits.specs.Limits as limit
use Rattle.ge_model_place.specs.Bookings.{forever}
use Rattle.ge_model_rows.specs.Groups.{members_of, expanded}
use Rattle.ge_model_rows.specs.Queues.{instances_of, resolved}
use Rattle.ge_model_rows.specs.ClusterRows.{Cluster}
use Rattle.ge_model_rows.specs.DecisionRows.{Decision}
use Rattle.ge_model_rows.specs.HostRows.{Groups, InstanceId}
use Rattle.ge_model_rows.specs.JobRows.{Job, Grant}
use Rattle.ge_model_rows.specs.ScheduleRows.{Booking}
use Rattle.ge_model_rows.specs.TaskRows.{TaskId}
use Rattle.ge_model_place.specs.InstanceOrder.{instance_order}
use Rattle.ge_model_place.specs.Limits.{counted_at, demands_of}
use Rattle.ge_model_place.specs.Opening.{is_open, reaches_threshold}
use Rattle.ge_model_place.specs.Placement.{are_admissible, placement}
use Rattle.ge_model_place.specs.Windows.{booking_of, base_bookings}

-- the task of a decision
abbrev pub task_of : Decision → TaskId
task_of (Decision.Start start) = start.task
task_of (Decision.Reserve kept) = kept.task
task_of (Decision.Skip task) = task

abbrev pub is_start : Decision → Bool
is_start (Decision.Start start) = true
is_start (Decision.Reserve kept) = false
is_start (Decision.Skip task) = false

abbrev pub is_reserve : Decision → Bool
is_reserve (Decision.Start start) = false
is_reserve (Decision.Reserve kept) = true
is_reserve (Decision.Skip task) = false

-- the number that the next start gets, after these decisions
abbrev pub serial_after : Cluster → List Decision → ℕ
serial_after c decisions = c.next_serial + count_by is_start decisions

-- the bound on the running tasks of one user: sched_conf, maxujobs

abbrev pub belongs_to : List ℕ → Option Job → Bool
belongs_to owner None = false
belongs_to owner (Some job) = text_eq job.owner owner

-- how many tasks of an owner's job run
abbrev pub running_in : List ℕ → ℕ × Job → ℕ
running_in owner job = cond (text_eq job.1.owner owner) (length job.1.running) 0

-- whether a decision starts a task of an owner
abbrev pub starts_for : Cluster → List ℕ → Decision → Bool
starts_for c owner d = is_start d && belongs_to owner (at_number c.jobs (task_of d).job)

-- how many tasks of an owner run, those that were started by these decisions among them
abbrev pub running_of : Cluster → List Decision → List ℕ → ℕ
running_of c decisions owner = sum_by (running_in owner) c.jobs + count_by (starts_for c owner) decisions

-- whether an owner has as many running tasks as a user may have; 0 is no bound
abbrev pub owner_is_full : Cluster → List Decision → List ℕ → Bool
owner_is_full c decisions owner = not (c.sched.maxujobs == 0) && nat_le c.sched.maxujobs (running_of c decisions owner)

abbrev pub is_held_back : Cluster → List Decision → Option Job → Bool
is_held_back c decisions None = false
is_held_back c decisions (Some job) = owner_is_full c decisions job.owner

-- the bound on the reservations of one run: qsub, -R; sched_conf, max_reservation; a job that is sent into an advance reservation asks for none

abbrev pub asks_reservation : Option Job → Bool
asks_reservation None = false
asks_reservation (Some job) = job.reserve && job.advance == 0

-- whether a task may be reserved, after these decisions
abbrev pub may_reserve : Cluster → List Decision → Option Job → Bool
may_reserve c decisions job = asks_reservation job && nat_lt (count_by is_reserve decisions) c.sched.max_reservation

-- whether a booking ends after a moment, and ever
abbrev pub ends_after : ℕ → Booking → Bool
ends_after now b = nat_lt now b.until && nat_lt b.until forever

-- whether a moment is before the earliest so far
abbrev pub is_earlier : ℕ → Option ℕ → Bool
is_earlier moment None = true
is_earlier moment (Some earliest) = nat_lt moment earliest

-- the earliest so far, or the end of one more booking, if that is before it and passes the test
abbrev pub earlier_end : (ℕ → Bool) → ℕ → Option ℕ → Booking → Option ℕ
earlier_end test now earliest b = if ends_after now b && is_earlier b.until earliest && test b.until then Some b.until else earliest

-- the least end of a booking, after a moment and before the end of all, that passes a test
abbrev pub earliest_end : (ℕ → Bool) → ℕ → List Booking → Option ℕ
earliest_end test now bookings = fold (earlier_end test now) None bookings

-- the least end of a booking after a moment, before the end of all
abbrev pub next_end_after : List Booking → ℕ → Option ℕ
next_end_after bookings moment = earliest_end (λ end. true) moment bookings

-- what a decision books: a start from now on, a reservation from its moment on
abbrev pub booking_at : Cluster → Groups → Option Job → TaskId → List Grant → ℕ → List Booking
booking_at c groups None task grants from = []
booking_at c groups (Some job) task grants from = booking_of c groups job task grants from ∷ []

abbrev pub booked_by : Cluster → Groups → ℕ → Decision → List Booking
booked_by c groups now (Decision.Start start) = booking_at c groups (at_number c.jobs start.task.job) start.task start.grants now
booked_by c groups now (Decision.Reserve kept) = booking_at c groups (at_number c.jobs kept.task.job) kept.task kept.grants kept.at
booked_by c groups now (Decision.Skip task) = []

-- a start with these grants and the next number, where there is one left
abbrev pub start_with : TaskId → ℕ → List Grant → Decision
start_with task serial grants = if nat_lt limit.last_serial serial then Decision.Skip task else Decision.Start (record { task = task; serial = serial; grants = grants })

-- a reservation from a moment on with the grants that there are then
abbrev pub reserve_at : TaskId → ℕ → Option (List Grant) → Decision
reserve_at task moment None = Decision.Skip task
reserve_at task moment (Some grants) = Decision.Reserve (record { task = task; at = moment; grants = grants })

module _ (c : Cluster) (groups : Groups) (order : List InstanceId) (now : ℕ) where
  -- the grants of a task from a moment on
  abbrev pub placed_at : List Booking → TaskId → ℕ → Option (List Grant)
  placed_at bookings task moment = placement c groups order bookings task moment

  -- the first end of a booking after now at which a task can be placed
  abbrev pub first_moment : List Booking → TaskId → Option ℕ
  first_moment bookings task = earliest_end (λ moment. is_some (placed_at bookings task moment)) now bookings

  abbrev pub reserve_from : List Booking → TaskId → Option ℕ → Decision
  reserve_from bookings task None = Decision.Skip task
  reserve_from bookings task (Some moment) = reserve_at task moment (placed_at bookings task moment)

  -- of a task that can't start now: a reservation, or none
  abbrev pub later_decision : List Booking → List Decision → TaskId → Decision
  later_decision bookings decisions task = if may_reserve c decisions (at_number c.jobs task.job) then reserve_from bookings task (first_moment bookings task) else Decision.Skip task

  -- of a task whose owner may have one more: a start where it can be placed now
  abbrev pub decision_with : List Booking → List Decision → TaskId → Option (List Grant) → Decision
  decision_with bookings decisions task None = later_decision bookings decisions task
  decision_with bookings decisions task (Some grants) = start_with task (serial_after c decisions) grants

  -- the decision of a task, over what is booked and was decided before
  abbrev pub decision_of : List Booking → List Decision → TaskId → Decision
  decision_of bookings decisions task =
      if is_held_back c decisions (at_number c.jobs task.job) then Decision.Skip task else decision_with bookings decisions task (placed_at bookings task now)

  abbrev pub with_decision : List Booking × List Decision → Decision → List Booking × List Decision
  with_decision so_far d = (so_far.0 ++ booked_by c groups now d, so_far.1 ++ d ∷ [])

  -- what is booked and decided, with the decision of one more task
  abbrev pub decide : List Booking × List Decision → TaskId → List Booking × List Decision
  decide so_far task = with_decision so_far (decision_of so_far.0 so_far.1 task)

  -- what is booked and decided once these tasks are decided
  abbrev pub decided : List TaskId → List Booking × List Decision
  decided tasks = fold decide (base_bookings c groups now, []) tasks

-- the decisions of a run over these tasks, in their order; groups and the order of instances are taken once, at its start
unfoldable pub run_of : Cluster → List TaskId → ℕ → List Decision
run_of c tasks now = (decided c (expanded c) (instance_order c (expanded c)) now tasks).1

-- all that a row of a run computes through, beside its cluster
unfoldable pub runs_in_full : Unit {0}
unfolding members_of expanded instances_of resolved instance_order is_open reaches_threshold counted_at demands_of base_bookings are_admissible placement run_of
runs_in_full = tt
