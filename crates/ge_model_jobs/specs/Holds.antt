-- Live tasks, holds and eligible tasks.
use Rattle.std.specs.Prelude.{ℕ, ◌==◌, Bool, false, not, ◌||◌, if◌then◌else◌, nat_lt, nat_le, List, [], take, map, filter, fold, Option, Some, None, is_some}
use Rattle.std.specs.List.{list_any}
use Rattle.ge_collections.specs.Keyed.{at_number}
use Rattle.ge_model_rows.specs.JobRows.{Job}
use Rattle.ge_model_rows.specs.TaskRows.{TaskSpan}
use Rattle.ge_model_rows.specs.Sets.{has_number, numbers_of, set_of, union, meet, difference}

-- whether a task of a job lives: it waits, is in error or runs
abbrev pub is_live_task : Job → ℕ → Bool
is_live_task job task = has_number task job.queued || has_number task job.broken || is_some (at_number job.running task)

-- the tasks of a job that run, as a set
abbrev pub running_tasks : Job → List TaskSpan
running_tasks job = set_of (map (λ task. task.0) job.running)

-- all live tasks of a job, as a set
abbrev pub live_tasks : Job → List TaskSpan
live_tasks job = union (union job.queued job.broken) (running_tasks job)

-- whether a job lives
abbrev pub is_live_job : List (ℕ × Job) → ℕ → Bool
is_live_job jobs number = is_some (at_number jobs number)

-- the hold bits of a job, 0 where there is no such job
abbrev pub hold_of : Option Job → ℕ
hold_of None = 0
hold_of (Some job) = job.hold

abbrev pub holds_of : List (ℕ × Job) → ℕ → ℕ
holds_of jobs number = hold_of (at_number jobs number)

-- whether a job is held: by a hold of its own (qhold) or by a predecessor that lives (qsub -hold_jid)
abbrev pub is_job_held : List (ℕ × Job) → Job → Bool
is_job_held jobs job = not (job.hold == 0) || list_any (is_live_job jobs) job.after

-- whether a task of a job that may not be there lives
abbrev pub is_live_in : Option Job → ℕ → Bool
is_live_in None task = false
is_live_in (Some job) task = is_live_task job task

-- whether a task is held by the task of its number in an array predecessor (qsub -hold_jid_ad)
abbrev pub is_task_held : List (ℕ × Job) → Job → ℕ → Bool
is_task_held jobs job task = list_any (λ number. is_live_in (at_number jobs number) task) job.after_each

-- the live tasks of a job as they hold others, as a set; no set has a number 0
abbrev pub holding_tasks : Job → List TaskSpan
holding_tasks job = union (union job.queued job.broken) (set_of (filter (nat_le 1) (map (λ task. task.0) job.running)))

-- those of a job that may not be there
abbrev pub holding_in : Option Job → List TaskSpan
holding_in None = []
holding_in (Some job) = holding_tasks job

-- those of one more job
abbrev pub with_holding : List (ℕ × Job) → List TaskSpan → ℕ → List TaskSpan
with_holding jobs tasks number = union tasks (holding_in (at_number jobs number))

-- the live tasks of all array predecessors of a job (qsub -hold_jid_ad)
abbrev pub predecessor_tasks : List (ℕ × Job) → Job → List TaskSpan
predecessor_tasks jobs job = fold (with_holding jobs) [] job.after_each

-- the waiting tasks of a job that array predecessors hold, and those that none does
abbrev pub held_tasks : List (ℕ × Job) → Job → List TaskSpan
held_tasks jobs job = meet job.queued (predecessor_tasks jobs job)

abbrev pub free_tasks : List (ℕ × Job) → Job → List TaskSpan
free_tasks jobs job = difference job.queued (predecessor_tasks jobs job)

-- the first tasks of a set, as many as a bound allows, 0 being no bound: sched_conf, max_pending_tasks_per_job
abbrev pub first_tasks : ℕ → List TaskSpan → List ℕ
first_tasks bound set = if bound == 0 then numbers_of set else take bound (numbers_of set)

-- the eligible tasks of a job that may not be there: none of one that is held or may start only later (qsub -a)
abbrev pub eligible_of : List (ℕ × Job) → ℕ → ℕ → Option Job → List ℕ
eligible_of jobs now bound None = []
eligible_of jobs now bound (Some job) = if is_job_held jobs job || nat_lt now job.not_before then [] else first_tasks bound (free_tasks jobs job)

-- the eligible tasks of a job at a moment, at most so many, 0 being no bound: jobs, number, now, bound
unfoldable pub eligible_tasks : List (ℕ × Job) → ℕ → ℕ → ℕ → List ℕ
eligible_tasks jobs number now bound = eligible_of jobs now bound (at_number jobs number)
