-- What a scheduling run is: a relation between a cluster, the tasks in their order, a moment and the decisions.
use Rattle.std.specs.Prelude.{◌≡◌, ℕ, ◌≤◌, ◌<◌, ◌⊎◌, true, false, max, List, [], ◌∷◌, ◌++◌, map, flat_map, Option, Some, None, ◌==◌, Bool}
use Rattle.std.specs.List.{list_any}
use Rattle.ge_collections.specs.Keyed.{at_number}
use Rattle.ge_model_place.specs.Bookings.{forever, plain_sum}
use Rattle.ge_model_rows.specs.Groups.{expanded}
use Rattle.ge_model_rows.specs.ClusterRows.{Cluster}
use Rattle.ge_model_rows.specs.DecisionRows.{Decision}
use Rattle.ge_model_rows.specs.HostRows.{InstanceId}
use Rattle.ge_model_rows.specs.JobRows.{Job, Grant}
use Rattle.ge_model_rows.specs.ScheduleRows.{LimitId, Booking}
use Rattle.ge_model_rows.specs.TaskRows.{TaskId}
use Rattle.ge_model_place.specs.InstanceOrder.{instance_order}
use Rattle.ge_model_place.specs.Limits.{capacity_of}
use Rattle.ge_model_place.specs.Placement.{are_admissible, placement}
use Rattle.ge_model_place.specs.Windows.{base_bookings}
use Rattle.ge_model_place.specs.Running.{serial_after, task_of, is_held_back, may_reserve, booked_by}
use Rattle.ge_limits.specs.Limits.{last_serial}

-- whether a booking ends at a moment
abbrev pub ends_at : List Booking → ℕ → Bool
ends_at bookings moment = list_any (λ b. b.until == moment) bookings

module _ (c : Cluster) (now : ℕ) where
  -- what is booked after these decisions of a run: they add their bookings to those of the running tasks, and take none away
  abbrev pub bookings_after : List Decision → List Booking
  bookings_after decisions = base_bookings c (expanded c) now ++ flat_map (booked_by c (expanded c) now) decisions

  -- the grants of a task from a moment on, over what is booked after these decisions
  abbrev pub placed_after : List Decision → TaskId → ℕ → Option (List Grant)
  placed_after before task moment = placement c (expanded c) (instance_order c (expanded c)) (bookings_after before) task moment

  -- a task is held back, after these decisions, where its owner has as many running tasks as a user may have
  abbrev pub IsHeldBack : List Decision → TaskId → Type 0
  IsHeldBack before task = is_held_back c before (at_number c.jobs task.job) ≡ true

  -- a task may be reserved where its job asks for that, and fewer reservations were made than there may be
  abbrev pub MayReserve : List Decision → TaskId → Type 0
  MayReserve before task = may_reserve c before (at_number c.jobs task.job) ≡ true

  -- a task that isn't held back and can be placed now
  pub record CanStart (before : List Decision) (task : TaskId) (grants : List Grant) : Type 0 where
    pub free : IsHeldBack before task → ⊥
    pub placed : placed_after before task now ≡ Some grants

  -- a start has the placement now, over what is booked by then, and the next number
  pub record IsStarted (before : List Decision) (task : TaskId) (serial : ℕ) (grants : List Grant) : Type 0 where
    pub can : CanStart before task grants
    pub next : serial ≡ serial_after c before
    pub in_range : serial ≤ last_serial

  -- a task that isn't held back and can't be placed now
  pub record MustWait (before : List Decision) (task : TaskId) : Type 0 where
    pub free : IsHeldBack before task → ⊥
    pub full : placed_after before task now ≡ None

  -- a moment after now, before the end of all, at which a booking ends
  pub record IsEnd (before : List Decision) (moment : ℕ) : Type 0 where
    pub later : now < moment
    pub ever : moment < forever
    pub ends : ends_at (bookings_after before) moment ≡ true

  -- a reservation has the placement at the first end of a booking at which there is one
  pub record IsReserved (before : List Decision) (task : TaskId) (moment : ℕ) (grants : List Grant) : Type 0 where
    pub waits : MustWait before task
    pub may : MayReserve before task
    pub end : IsEnd before moment
    pub placed : placed_after before task moment ≡ Some grants
    pub first : (sooner : ℕ) → sooner < moment → IsEnd before sooner → placed_after before task sooner ≡ None

  -- no number is left for a task that could start
  pub record IsLate (before : List Decision) (task : TaskId) : Type 0 where
    pub grants : List Grant
    pub can : CanStart before task grants
    pub past : last_serial < serial_after c before

  -- a task that can't start, and may not be reserved or has no end of a booking at which it can be placed
  pub record IsUnplaced (before : List Decision) (task : TaskId) : Type 0 where
    pub waits : MustWait before task
    pub unreserved : MayReserve before task → (moment : ℕ) → IsEnd before moment → placed_after before task moment ≡ None

  -- a task that waits is held back, late or unplaced
  abbrev pub IsSkipped : List Decision → TaskId → Type 0
  IsSkipped before task = IsHeldBack before task ⊎ (IsLate before task ⊎ IsUnplaced before task)

  -- a decision of a task that may come after these decisions of a run
  abbrev pub IsDecided : List Decision → TaskId → Decision → Type 0
  IsDecided before task (Decision.Start start) = (start.task ≡ task) × IsStarted before task start.serial start.grants
  IsDecided before task (Decision.Reserve kept) = (kept.task ≡ task) × IsReserved before task kept.at kept.grants
  IsDecided before task (Decision.Skip skipped) = (skipped ≡ task) × IsSkipped before task

  -- decisions of these tasks, one for each and in their order, that come after the decisions before
  abbrev pub IsRunAfter : List Decision → List TaskId → List Decision → Type 0
  IsRunAfter before [] [] = Unit {0}
  IsRunAfter before [] (d ∷ decisions) = ⊥
  IsRunAfter before (task ∷ tasks) [] = ⊥
  IsRunAfter before (task ∷ tasks) (d ∷ decisions) = IsDecided before task d × IsRunAfter (before ++ d ∷ []) tasks decisions

-- the decisions of a scheduling run over the tasks in this order at a moment
unfoldable pub IsRun : Cluster → List TaskId → ℕ → List Decision → Type 0
IsRun c tasks now decisions = IsRunAfter c now [] tasks decisions

-- a run has one decision for each task, in the order of the tasks
abbrev pub DecidesEach : List TaskId → List Decision → Type 0
DecidesEach tasks decisions = map task_of decisions ≡ tasks

-- what is booked only grows along a run: more decisions add their bookings behind those that there are
abbrev pub BookingsGrow : Cluster → ℕ → List Decision → List Decision → Type 0
BookingsGrow c now before more = bookings_after c now (before ++ more) ≡ bookings_after c now before ++ flat_map (booked_by c (expanded c) now) more

-- what is booked of a limit after a run: from now on never more than there is, unless more was booked before it
abbrev pub KeepsLimits : Cluster → ℕ → List Decision → Type 0
KeepsLimits c now decisions = (limit : LimitId) (moment : ℕ) → now ≤ moment
    → plain_sum (bookings_after c now decisions) limit moment ≤ max (capacity_of c (expanded c) limit) (plain_sum (base_bookings c (expanded c) now) limit moment)

-- one slot of an instance
abbrev pub one_slot : InstanceId → List Grant
one_slot at = record { at = at; slots = 1 } ∷ []

-- whether one slot of some instance is admissible from a moment on, after these decisions
abbrev pub some_admissible : Cluster → ℕ → List Decision → Job → ℕ → Bool
some_admissible c now before job moment = list_any (λ at. are_admissible c (expanded c) job (bookings_after c now before) moment (one_slot at)) (instance_order c (expanded c))

-- no task of a job without a PE is reserved later than it could start: at no moment after now and before its reservation is an instance admissible
abbrev pub IsEarliest : Cluster → ℕ → Type 0
IsEarliest c now = (before : List Decision) (task : TaskId) (job : Job) (at : ℕ) (grants : List Grant) → at_number c.jobs task.job ≡ Some job → job.request.pe ≡ None
    → IsReserved c now before task at grants → (moment : ℕ) → now < moment → moment < at → some_admissible c now before job moment ≡ false
