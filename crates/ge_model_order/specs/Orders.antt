-- The order of a run in the words of its user: which tasks wait without a hold, and which of them a run considers.
use Rattle.std.specs.Prelude.{ℕ, ◌==◌, Bool, ◌&&◌, ◌||◌, not, if◌then◌else◌, cond, nat_lt, List, [], ◌∷◌, filter, take, count_by, Option, Some, None}
use Rattle.std.specs.List.{list_any}
use Rattle.std.specs.Ordering.{nat_cmp, ordering_then}
use Rattle.std.specs.declared.cmp.Ordering.{Ordering}
use Rattle.ge_collections.specs.Keyed.{at_number}
use Rattle.ge_model_rows.specs.ClusterRows.{Cluster}
use Rattle.ge_model_rows.specs.JobRows.{Job}
use Rattle.ge_model_rows.specs.ScheduleRows.{Prio}
use Rattle.ge_model_rows.specs.TaskRows.{TaskId}
use Rattle.ge_model_rows.specs.Sets.{numbers_of}
use Rattle.ge_model_jobs.specs.Holds.{is_job_held, is_task_held, eligible_tasks}
use Rattle.ge_model_order.specs.Priority.{prios_at, order_of}

-- the first of these, 0 being no bound: sched_conf, max_pending_tasks_per_job
abbrev pub first_of : ℕ → List ℕ → List ℕ
first_of bound tasks = if bound == 0 then tasks else take bound tasks

-- the waiting tasks of a job that no hold keeps, rising: no hold of its own and no predecessor (qhold, qsub -hold_jid), its moment has come (qsub -a), and no array predecessor keeps the task (qsub -hold_jid_ad)
abbrev pub unheld_tasks : List (ℕ × Job) → ℕ → Job → List ℕ
unheld_tasks jobs now job = if is_job_held jobs job || nat_lt now job.not_before then [] else filter (λ task. not (is_task_held jobs job task)) (numbers_of job.queued)

-- those of a job that may not be there
abbrev pub unheld_of : List (ℕ × Job) → ℕ → Option Job → List ℕ
unheld_of jobs now None = []
unheld_of jobs now (Some job) = unheld_tasks jobs now job

-- those of a number
abbrev pub unheld_at : Cluster → ℕ → ℕ → List ℕ
unheld_at c number now = unheld_of c.jobs now (at_number c.jobs number)

-- the order of a run at a moment
abbrev pub order_at : Cluster → ℕ → List TaskId
order_at c now = order_of c (prios_at c now) now

-- whether a task is the one of these numbers
abbrev pub is_task : ℕ → ℕ → TaskId → Bool
is_task job task t = job == t.job && task == t.task

-- how often a task stands in a list
abbrev pub times_in : List TaskId → ℕ → ℕ → ℕ
times_in tasks job task = count_by (is_task job task) tasks

-- 1 for a task that is among the eligible ones of its job, 0 for any other
abbrev pub once_if_eligible : Cluster → ℕ → ℕ → ℕ → ℕ
once_if_eligible c now job task = cond (list_any (λ n. task == n) (eligible_tasks c.jobs job now c.sched.max_pending)) 1 0

-- the priority of a job in these rows, 0 where it has none
abbrev pub total_in : List Prio → ℕ → ℕ
total_in [] job = 0
total_in (prio ∷ prios) job = if job == prio.job then prio.total else total_in prios job

-- which of two tasks a run decides first: the one whose job has the greater priority, then the one of the lesser job, then the lesser task: sge_priority
abbrev pub turn_cmp : List Prio → TaskId → TaskId → Ordering
turn_cmp prios t u = ordering_then (nat_cmp (total_in prios u.job) (total_in prios t.job)) (ordering_then (nat_cmp t.job u.job) (nat_cmp t.task u.task))
