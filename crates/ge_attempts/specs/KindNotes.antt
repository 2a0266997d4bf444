-- Kinds of jobs without a PE of which no task can start any more.
use Rattle.std.specs.Prelude.{◌≡◌, ℕ, Bool, true, false, cond, if◌then◌else◌, List, Option, Some, None}
use Rattle.std.specs.Ordering.{nat_cmp}
use Rattle.std.specs.Option.{option_map}
use Rattle.std.specs.BTreeMap.{is_at}
use Rattle.std.specs.BTreeSet.{BTreeSet, contains}
use Rattle.ge_collections.specs.Keyed.{at_number}
use Rattle.ge_job_index.specs.declared.short_row.ShortRow.{ShortRow}
use Rattle.ge_model_rows.specs.ClusterRows.{Cluster}
use Rattle.ge_model_rows.specs.DecisionRows.{Decision}
use Rattle.ge_model_rows.specs.HostRows.{Groups, InstanceId}
use Rattle.ge_model_rows.specs.JobRows.{Job, PeRequest, Grant}
use Rattle.ge_model_rows.specs.ScheduleRows.{Booking}
use Rattle.ge_model_rows.specs.TaskRows.{TaskId}
use Rattle.ge_model_place.specs.Placement.{placement_of}
use Rattle.ge_model_place.specs.Running.{owner_is_full, serial_after, start_with}
use Rattle.ge_rows.specs.JobShort.{job_kind}
use Rattle.ge_rows.specs.declared.labels.JobFacts.{JobFacts}

-- the number that the kind of a job has among short rows
abbrev pub kind_in : List (ℕ × ShortRow JobFacts) → ℕ → Option ℕ
kind_in rows number = option_map (λ row. row.third) (at_number rows number)

-- jobs whose kinds have one number are of one kind
pub record TellKinds (jobs : List (ℕ × Job)) (rows : List (ℕ × ShortRow JobFacts)) : Type 0 where
  pub alike : (first second kind : ℕ) (a b : Job) → at_number jobs first ≡ Some a → at_number jobs second ≡ Some b → kind_in rows first ≡ Some kind → kind_in rows second ≡ Some kind
      → job_kind a ≡ job_kind b

-- whether the kind of a job is among those that are noted
abbrev pub is_noted : BTreeSet ℕ → Option ℕ → Bool
is_noted full None = false
is_noted full (Some kind) = contains nat_cmp full kind

-- whether a kind is noted, with one more
abbrev pub noted_with : BTreeSet ℕ → Option ℕ → ℕ → Bool
noted_with full None other = contains nat_cmp full other
noted_with full (Some kind) other = cond (is_at (nat_cmp kind) other) true (contains nat_cmp full other)

-- the kind that is noted of a job: none where it asks for a PE, or isn't there
abbrev pub alone : Option PeRequest → Option ℕ → Option ℕ
alone None kind = kind
alone (Some pe) kind = None

abbrev pub kind_alone : Option Job → Option ℕ → Option ℕ
kind_alone None kind = None
kind_alone (Some job) kind = alone job.request.pe kind

-- the kind that is noted after a decision on a task of a job: that of a task which waits
abbrev pub kind_after : Decision → Option Job → Option ℕ → Option ℕ
kind_after (Decision.Start start) job kind = None
kind_after (Decision.Reserve kept) job kind = None
kind_after (Decision.Skip task) job kind = kind_alone job kind

-- a start with grants, if there are some, unless it is held back
abbrev pub started_by : Bool → ℕ → TaskId → Option (List Grant) → Decision
started_by held serial task None = Decision.Skip task
started_by held serial task (Some grants) = if held then Decision.Skip task else start_with task serial grants

module _ (c : Cluster) (groups : Groups) (order : List InstanceId) (now : ℕ) where
  -- no task of a job can start
  abbrev pub NoneStarts : List Booking → List Decision → Job → Type 0
  NoneStarts booked decisions job =
      (task : TaskId) → started_by (owner_is_full c decisions job.owner) (serial_after c decisions) task (placement_of c groups order booked job now) ≡ Decision.Skip task

  -- no task of a job of a noted kind can start, and none of them asks for a PE
  abbrev pub AreShut : List Booking → List Decision → List (ℕ × ShortRow JobFacts) → BTreeSet ℕ → Type 0
  AreShut booked decisions rows full = (kind : ℕ) → contains nat_cmp full kind ≡ true → (number : ℕ) (job : Job) → at_number c.jobs number ≡ Some job → kind_in rows number ≡ Some kind
      → (job.request.pe ≡ None) × NoneStarts booked decisions job
