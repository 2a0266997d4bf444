-- The cluster after tasks end, are deleted, or wait again: end, qdel, qmod.
use Rattle.std.specs.Prelude.{ℕ, ◌==◌, Bool, true, false, not, ◌&&◌, if◌then◌else◌, List, [], ◌∷◌, ◌++◌, map, filter, fold, Option, Some, None, is_some}
use Rattle.ge_collections.specs.Keyed.{at_number, drop_number}
use Rattle.ge_model_rows.specs.AccountRows.{Line}
use Rattle.ge_model_rows.specs.ClusterRows.{Cluster}
use Rattle.ge_model_rows.specs.EntryRows.{Pick}
use Rattle.ge_model_rows.specs.JobRows.{Job, Running}
use Rattle.ge_model_rows.specs.TaskRows.{TaskId, TaskSpan}
use Rattle.ge_model_rows.specs.Pieces.{is_empty}
use Rattle.ge_model_rows.specs.Sets.{with_number, union}
use Rattle.ge_model_jobs.specs.declared.After.{After}
use Rattle.ge_model_jobs.specs.declared.After.TheVariants as after
use Rattle.ge_model_jobs.specs.Accounts.{Report, line_of}
use Rattle.ge_model_jobs.specs.Altering.{change_job}
use Rattle.ge_model_jobs.specs.Picks.{names_task, named_in, unnamed_in, joined_picks}
use Rattle.ge_model_jobs.specs.Serials.{running_with}
use Rattle.ge_model_jobs.specs.Usage.{epoch_of, usage_of, with_usage}

-- whether no task of a job waits, is in error or runs
abbrev pub has_no_task : Job → Bool
has_no_task job = is_empty job.queued && is_empty job.broken && is_empty job.running

-- a job loses tasks where it stands; without any left it leaves the table. One that isn't there changes nothing
abbrev pub lose_tasks : (Job → Job) → List (ℕ × Job) → ℕ → List (ℕ × Job)
lose_tasks change jobs number = elim (at_number jobs number) [
  | None ↦ jobs
  | Some job ↦ if has_no_task (change job) then drop_number jobs number else change_job change jobs number
]

-- a job after a running task of it ends: the task is gone, waits again, or is in error
abbrev pub gone : ℕ → Job → Job
gone task job = record job { running = drop_number job.running task }

abbrev pub again : ℕ → Job → Job
again task job = record job { running = drop_number job.running task; queued = with_number task job.queued }

abbrev pub in_error : ℕ → Job → Job
in_error task job = record job { running = drop_number job.running task; broken = with_number task job.broken }

-- a job after a running task of it ends so; a task of number 0, which no set holds, is gone
abbrev pub moved : After → ℕ → Job → Job
moved after.Gone task job = gone task job
moved after.Again task job = again task job
moved after.Broken task job = in_error task job

abbrev pub without_ended : After → ℕ → Job → Job
without_ended after task job = if task == 0 then gone task job else moved after task job

-- whether a task runs
abbrev pub runs_in : Option Job → ℕ → Bool
runs_in None task = false
runs_in (Some job) task = is_some (at_number job.running task)

-- a running task of a table ends so; a job or task that isn't there changes nothing
abbrev pub ended : List (ℕ × Job) → TaskId → After → List (ℕ × Job)
ended jobs id after = if runs_in (at_number jobs id.job) id.task then lose_tasks (without_ended after id.task) jobs id.job else jobs

-- what becomes of a task by its exit status: with 99 it waits again, with 100 it is in error; one that is marked is gone with any
abbrev pub after_exit : ℕ → Running → After
after_exit exit running =
    if running.deleting then after.Gone
    else (if exit == 99 then after.Again
    else (if exit == 100 then after.Broken
    else after.Gone))

-- a running task of a job ends with a report: its line is written, and its usage is counted
abbrev pub end_task : ℕ → Cluster → ℕ → Job → ℕ → Running → Report → Cluster
end_task moment c number job task running report = record c {
  jobs = ended c.jobs (record { job = number; task = task }) (after_exit report.exit running);
  usage = with_usage c.usage (job.owner, job.project, epoch_of moment c.sched.halftime) (usage_of c.sched report.cpu report.mem report.io);
  lines = c.lines ++ line_of moment number job task running report ∷ [];
}

-- the task of a serial ends; a serial of no running task changes nothing
unfoldable pub with_end : ℕ → Cluster → ℕ → ℕ → ℕ → ℕ → ℕ → Cluster
with_end moment c serial exit cpu mem io = elim (running_with c.jobs serial) [
  | None ↦ c
  | Some found ↦ end_task moment c found.0 found.1 found.2 found.3 (record { failed = 0; exit = exit; cpu = cpu; mem = mem; io = io })
]

-- a task that runs, marked for deletion where a pick names it
abbrev pub marked : Option (List TaskSpan) → ℕ × Running → ℕ × Running
marked tasks task = (task.0, if names_task tasks task.0 then record (task.1) { deleting = true } else task.1)

-- whether a pick doesn't name a task that runs
abbrev pub is_unnamed : Option (List TaskSpan) → ℕ × Running → Bool
is_unnamed tasks task = not (names_task tasks task.0)

-- the tasks that run, after a pick: by force those named are gone, else they are marked
abbrev pub run_on : Bool → Option (List TaskSpan) → List (ℕ × Running) → List (ℕ × Running)
run_on force tasks running = if force then filter (is_unnamed tasks) running else map (marked tasks) running

-- a job after a deletion: waiting tasks and those in error are gone
abbrev pub without_picked : Bool → Option (List TaskSpan) → Job → Job
without_picked force tasks job = record job {
  queued = unnamed_in tasks job.queued;
  broken = unnamed_in tasks job.broken;
  running = run_on force tasks job.running;
}

-- what is told of a forced end
abbrev pub forced : Report
forced = record { failed = 1; exit = 0; cpu = 0; mem = 0; io = 0 }

-- whether a task that runs is named
abbrev pub is_named : Option (List TaskSpan) → ℕ × Running → Bool
is_named tasks task = names_task tasks task.0

-- the lines of the running tasks of a job that a deletion ends, by number
abbrev pub forced_lines : ℕ → Bool → ℕ → Job → Option (List TaskSpan) → List Line
forced_lines moment force number job tasks =
    if force then map (λ task. line_of moment number job task.0 task.1 forced) (filter (is_named tasks) job.running) else []

-- a job loses the tasks that picks name; one that isn't there changes nothing
abbrev pub delete_from : ℕ → Bool → Cluster → ℕ × Option (List TaskSpan) → Cluster
delete_from moment force c named = elim (at_number c.jobs named.0) [
  | None ↦ c
  | Some job ↦ record c {
    jobs = lose_tasks (without_picked force named.1) c.jobs named.0;
    lines = c.lines ++ forced_lines moment force named.0 job named.1;
  }
]

-- tasks are deleted, job by job
unfoldable pub with_deleted : ℕ → Cluster → List Pick → Bool → Cluster
with_deleted moment c picks force = fold (delete_from moment force) c (joined_picks picks)

-- a job whose tasks in error that are named wait again
abbrev pub cleared : Option (List TaskSpan) → Job → Job
cleared tasks job = record job { queued = union job.queued (named_in tasks job.broken); broken = unnamed_in tasks job.broken }

-- one job of a clearing
abbrev pub clear_from : List (ℕ × Job) → ℕ × Option (List TaskSpan) → List (ℕ × Job)
clear_from jobs named = change_job (cleared named.1) jobs named.0

-- error states are cleared, job by job
unfoldable pub with_cleared : Cluster → List Pick → Cluster
with_cleared c picks = record c { jobs = fold clear_from c.jobs (joined_picks picks) }
