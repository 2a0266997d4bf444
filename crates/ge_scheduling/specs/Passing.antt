-- A task that waits, and later tasks of its job.
use Rattle.std.specs.Prelude.{◌≡◌, ℕ, false, List, Option, Some, None, IfSome}
use Rattle.std.specs.BTreeSet.{BTreeSet}
use Rattle.ge_collections.specs.Keyed.{at_number}
use Rattle.ge_job_index.specs.declared.short_row.ShortRow.{ShortRow}
use Rattle.ge_model_rows.specs.ClusterRows.{Cluster}
use Rattle.ge_model_rows.specs.DecisionRows.{Decision}
use Rattle.ge_model_rows.specs.HostRows.{Groups, InstanceId}
use Rattle.ge_model_rows.specs.JobRows.{Job}
use Rattle.ge_model_rows.specs.ScheduleRows.{Booking}
use Rattle.ge_model_rows.specs.TaskRows.{TaskId}
use Rattle.ge_model_place.specs.Running.{decision_of}
use Rattle.ge_rows.specs.declared.labels.JobFacts.{JobFacts}
use Rattle.ge_attempts.specs.declared.counting.Tally.{Tally}
use Rattle.ge_attempts.specs.Counts.{IsTallied, may_be_reserved}
use Rattle.ge_attempts.specs.KindNotes.{TellKinds, AreShut}
use Rattle.ge_attempts.specs.declared.rests.Room.{Room}
use Rattle.ge_attempts.specs.Rests.{AreLeft}

-- the job of which a decision makes a task wait
abbrev pub passed_by : ℕ → Decision → Option ℕ
passed_by number (Decision.Start start) = None
passed_by number (Decision.Reserve kept) = None
passed_by number (Decision.Skip task) = Some number

-- no slots may be kept for a task of the job of a number
abbrev pub MayNotKeep : Cluster → Tally → ℕ → Type 0
MayNotKeep c tally number = (job : Job) → at_number c.jobs number ≡ Some job → may_be_reserved c.sched tally job ≡ false

module _ (c : Cluster) (groups : Groups) (order : List InstanceId) (now : ℕ) where
  -- each task of a job waits, over what is booked and was decided
  abbrev pub Waits : List Booking → List Decision → ℕ → Type 0
  Waits booked decisions number = (task : TaskId) → task.job ≡ number → decision_of c groups order now booked decisions task ≡ Decision.Skip task

  -- what is kept beside the bookings and the decisions so far belongs to them: what is counted, a job whose tasks wait, kinds of jobs of which no task can start, what is left at each instance
  pub record Follows (rows : List (ℕ × ShortRow JobFacts)) (booked : List Booking) (decisions : List Decision) (tally : Tally) (passed : Option ℕ) (full : BTreeSet ℕ) (room : Room) : Type 0 where
    pub told : TellKinds c.jobs rows
    pub tallied : IsTallied c decisions tally
    pub waits : IfSome passed (Waits booked decisions)
    pub shut : AreShut c groups order now booked decisions rows full
    pub left : AreLeft c groups now booked order room
