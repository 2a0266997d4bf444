-- What makes a cluster sound.
use Rattle.std.specs.Prelude.{ℕ, ◌-◌, ◌%◌, ◌≤◌, ◌<◌, ◌==◌, Bool, IsTrue, ◌&&◌, ◌||◌, not, nat_eq, nat_le, List, map, flat_map}
use Rattle.std.specs.List.{AllByRecursion, IsDistinct, list_any}
use Rattle.ge_model_rows.specs.ClusterRows.{Cluster}
use Rattle.ge_model_rows.specs.JobRows.{Job, Running, Advance}
use Rattle.ge_model_rows.specs.TaskRows.{TaskSpan}

-- whether a number lies in a span: from the first to the last, in steps
abbrev pub is_in_span : ℕ → TaskSpan → Bool
is_in_span n s = nat_le s.first n && nat_le n s.last && (n - s.first) % s.step == 0

-- whether a row stands under a number
abbrev pub is_under : {X : Type 0} → ℕ → ℕ × X → Bool
is_under n row = n == row.0

-- the three places of a job's task: whether the one with a number waits, is in error, runs
abbrev pub waits : ℕ → Job → Bool
waits n job = list_any (is_in_span n) job.queued

abbrev pub is_broken : ℕ → Job → Bool
is_broken n job = list_any (is_in_span n) job.broken

abbrev pub runs : ℕ → Job → Bool
runs n job = list_any (is_under n) job.running

-- whether a job has a task with this number
abbrev pub has_task : ℕ → Job → Bool
has_task n job = waits n job || is_broken n job || runs n job

-- whether no two of these hold
abbrev pub at_most_one : Bool → Bool → Bool → Bool
at_most_one a b c = not (a && b) && not (a && c) && not (b && c)

-- a job has at least one task
abbrev pub HasTask : ℕ × Job → Type 0
HasTask job = (n : ℕ) × IsTrue (has_task n job.1)

-- each task of a job is in the job's span
abbrev pub IsSpanned : ℕ × Job → Type 0
IsSpanned job = (n : ℕ) → IsTrue (has_task n job.1) → IsTrue (is_in_span n job.1.span)

-- each task of a job stands in just one of the three places
abbrev pub IsParted : ℕ × Job → Type 0
IsParted job = (n : ℕ) → IsTrue (at_most_one (waits n job.1) (is_broken n job.1) (runs n job.1))

abbrev pub serial_of : ℕ × Running → ℕ
serial_of task = task.1.serial

abbrev pub job_serials : ℕ × Job → List ℕ
job_serials job = map serial_of job.1.running

-- the serials of all running tasks
abbrev pub serials_of : List (ℕ × Job) → List ℕ
serials_of jobs = flat_map job_serials jobs

-- no running task of a job started after a moment
abbrev pub HasStarted : ℕ → ℕ × Job → Type 0
HasStarted moment job = AllByRecursion (λ task. task.1.start ≤ moment) job.1.running

-- the number of an advance reservation is at least 1 and below the next one's, and it begins before its end
abbrev pub IsAdvance : ℕ → ℕ × Advance → Type 0
IsAdvance next booked = (1 ≤ booked.0) × (booked.0 < next) × (booked.1.from < booked.1.until)

-- whether a job joined no advance reservation, or one that is there
abbrev pub has_advance : List (ℕ × Advance) → ℕ × Job → Bool
has_advance advances job = job.1.advance == 0 || list_any (is_under job.1.advance) advances

pub record IsBooked (c : Cluster) : Type 0 where
  -- the next advance reservation's number is at least 1
  pub next : 1 ≤ c.next_advance
  -- each has a number below it, and ends after it begins
  pub advances : AllByRecursion (IsAdvance c.next_advance) c.advances
  -- each live job's advance reservation, if it joined one, is there
  pub jobs : AllByRecursion (λ job. IsTrue (has_advance c.advances job)) c.jobs

pub record IsSound (c : Cluster) : Type 0 where
  -- each live job's number is below the next job's
  pub numbers : AllByRecursion (λ job. job.0 < c.next_job) c.jobs
  -- each live job has a task; each of its tasks is in its span, and waits, is in error or runs, just one of these
  pub tasks : AllByRecursion HasTask c.jobs
  pub spans : AllByRecursion IsSpanned c.jobs
  pub places : AllByRecursion IsParted c.jobs
  -- serials are at least 1; those of running tasks are below the next one, and differ
  pub next : 1 ≤ c.next_serial
  pub serials : AllByRecursion (λ serial. (1 ≤ serial) × (serial < c.next_serial)) (serials_of c.jobs)
  pub different : IsDistinct nat_eq (serials_of c.jobs)
  -- no job was submitted and no task started after the last entry
  pub submissions : AllByRecursion (λ job. job.1.submitted ≤ c.last) c.jobs
  pub starts : AllByRecursion (HasStarted c.last) c.jobs
  -- advance reservations, and the jobs that joined them
  pub booked : IsBooked c
