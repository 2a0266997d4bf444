-- The cluster after a scheduling run: its starts, and the reservations that are over.
use Rattle.std.specs.Prelude.{ℕ, ◌+◌, ◌-◌, ◌^◌, ◌==◌, ◌||◌, nat_lt, max, min, Bool, false, if◌then◌else◌, List, [], ◌∷◌, filter, fold}
use Rattle.std.specs.List.{list_any}
use Rattle.ge_collections.specs.Keyed.{put_number}
use Rattle.ge_model_rows.specs.ClusterRows.{Cluster}
use Rattle.ge_model_rows.specs.JobRows.{Job, Running, Advance}
use Rattle.ge_model_rows.specs.ScheduleRows.{Start}
use Rattle.ge_model_rows.specs.Sets.{has_number, without_number}
use Rattle.ge_model_jobs.specs.Altering.{change_job}

-- a task that runs, from this moment on
abbrev pub running_from : ℕ → Start → Running
running_from moment start = record { serial = start.serial; start = moment; grants = start.grants; deleting = false }

-- a job whose waiting task starts: it runs and waits no more. A task that doesn't wait starts nothing
abbrev pub with_start : ℕ → Start → Job → Job
with_start moment start job =
    if has_number start.task.task job.queued
    then record job { queued = without_number start.task.task job.queued; running = put_number job.running start.task.task (running_from moment start) }
    else job

-- one task of a run starts; a job that isn't there starts nothing
abbrev pub start_task : ℕ → List (ℕ × Job) → Start → List (ℕ × Job)
start_task moment jobs start = change_job (with_start moment start) jobs start.task.job

abbrev pub greater_serial : ℕ → Start → ℕ
greater_serial most start = max most start.serial

-- one past the greatest serial of these starts, cut at the end of its type; without starts it stays
abbrev pub serial_past : ℕ → List Start → ℕ
serial_past next [] = next
serial_past next (start ∷ starts) = min (fold greater_serial start.serial starts + 1) (2 ^ 64 - 1)

-- whether a live job joined an advance reservation (qsub, -ar)
abbrev pub is_joined : List (ℕ × Job) → ℕ → Bool
is_joined jobs number = list_any (λ job. job.1.advance == number) jobs

-- whether a reservation is left by a run at a moment: it isn't over, or a live job names it
abbrev pub is_left : ℕ → List (ℕ × Job) → ℕ × Advance → Bool
is_left moment jobs booked = nat_lt moment booked.1.until || is_joined jobs booked.0

-- the reservations that a run at a moment leaves
abbrev pub left_booked : ℕ → List (ℕ × Job) → List (ℕ × Advance) → List (ℕ × Advance)
left_booked moment jobs booked = filter (is_left moment jobs) booked

abbrev pub started : ℕ → Cluster → List Start → List (ℕ × Job)
started moment c starts = fold (start_task moment) c.jobs starts

-- a run at a moment starts its tasks; after them reservations go that are over and that no live job joined
unfoldable pub with_run : ℕ → Cluster → List Start → Cluster
with_run moment c starts = record c {
  last_run = moment;
  next_serial = serial_past c.next_serial starts;
  jobs = started moment c starts;
  advances = left_booked moment (started moment c starts) c.advances;
}
