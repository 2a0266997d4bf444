-- What a daemon asks for: its orders, and what a task is to run.
use Rattle.std.specs.Prelude.{ℕ, ◌-◌, ◌==◌, min, Bool, false, if◌then◌else◌, List, [], ◌∷◌, ◌++◌, map, fold, length, Option, Some, None, codes, decimal}
use Rattle.std.specs.BTreeMap.{insert_entry}
use Rattle.std.specs.Ordering.{nat_cmp, ordering_then}
use Rattle.std.specs.declared.cmp.Ordering.{Ordering}
use Rattle.ge_collections.specs.Keyed.{text_eq}
use Rattle.ge_model_rows.specs.ClusterRows.{Cluster}
use Rattle.ge_model_rows.specs.JobRows.{Job, Running, Grant, Advance}
use Rattle.ge_model_rows.specs.ValueRows.{infinity}
use Rattle.ge_model_rows.specs.Pieces.{is_empty, pieces_at}
use Rattle.ge_model_jobs.specs.Serials.{running_with}
use Rattle.ge_model_place.specs.Windows.{duration_of, advance_of}
use Rattle.ge_model_report.specs.Grants.{granted_slots, worded}

-- orders stand by serial, then job, then task
abbrev pub order_cmp : ℕ × ℕ × ℕ → ℕ × ℕ × ℕ → Ordering
order_cmp x y = ordering_then (ordering_then (nat_cmp x.0 y.0) (nat_cmp x.1 y.1)) (nat_cmp x.2 y.2)

-- the host of the first grant runs the task
abbrev pub is_run_at : List ℕ → List Grant → Bool
is_run_at host [] = false
is_run_at host (grant ∷ grants) = text_eq grant.at.host host

-- the running tasks of a host, with one more
abbrev pub with_task : List ℕ → ℕ → List ((ℕ × ℕ × ℕ) × Running) → ℕ × Running → List ((ℕ × ℕ × ℕ) × Running)
with_task host job rows task = if is_run_at host task.1.grants then insert_entry order_cmp rows (task.1.serial, job, task.0) task.1 else rows

-- with those of one more job
abbrev pub with_runs_of : List ℕ → List ((ℕ × ℕ × ℕ) × Running) → ℕ × Job → List ((ℕ × ℕ × ℕ) × Running)
with_runs_of host rows job = fold (with_task host job.0) rows job.1.running

-- the running tasks of a host, as a range of rows by serial, then job, then task
abbrev pub tasks_at : Cluster → List ℕ → List ((ℕ × ℕ × ℕ) × Running)
tasks_at c host = fold (with_runs_of host) [] c.jobs

-- to run a task, or to kill one that is marked for deletion
abbrev pub order_text : (ℕ × ℕ × ℕ) × Running → List ℕ
order_text ((serial, job, task), running) =
    if running.deleting then worded (codes "kill" ∷ decimal serial ∷ [])
    else worded (codes "run" ∷ decimal serial ∷ decimal job ∷ decimal task ∷ decimal (granted_slots running.grants) ∷ [])

-- what a host is ordered to run and to kill, by serial
unfoldable pub orders_of : Cluster → List ℕ → List (List ℕ)
orders_of c host = map order_text (tasks_at c host)

-- how many seconds a task may run, or a dash
abbrev pub limit_text : ℕ → List ℕ
limit_text seconds = if seconds == infinity then codes "-" else decimal seconds

-- the lines of a script; an empty one has none
abbrev pub script_lines : List ℕ → List (List ℕ)
script_lines script = if is_empty script then [] else pieces_at 10 script

-- a task runs as long as its job's duration says, and not past the end of the advance reservation that the job names
abbrev pub seconds_within : ℕ → ℕ → Option Advance → ℕ
seconds_within seconds start None = seconds
seconds_within seconds start (Some booked) = min seconds (booked.until - start)

abbrev pub seconds_of : Cluster → Job → Running → ℕ
seconds_of c job task = seconds_within (duration_of c job) task.start (advance_of c job)

abbrev pub serial_lines : Cluster → Job → Running → List (List ℕ)
serial_lines c job task =
    worded (codes "limit" ∷ limit_text (seconds_of c job task) ∷ [])
    ∷ worded (codes "words" ∷ decimal (length job.words) ∷ [])
    ∷ (job.words ++ script_lines job.script)

-- the limit, the words and the script of the running task with a serial
unfoldable pub task_lines : Cluster → ℕ → List (List ℕ)
task_lines c serial = elim (running_with c.jobs serial) [ None ↦ [] | Some task ↦ serial_lines c task.1 task.3 ]

-- the keys of orders, and a table of texts
abbrev pub OrderKey : Type 0
OrderKey = ℕ × ℕ × ℕ

abbrev pub OrderTexts : Type 0
OrderTexts = List (OrderKey × List ℕ)

-- with the text of one more task
abbrev pub with_text_of : List ℕ → ℕ → OrderTexts → ℕ × Running → OrderTexts
with_text_of host job texts task =
    if is_run_at host task.1.grants then insert_entry order_cmp texts (task.1.serial, job, task.0) (order_text ((task.1.serial, job, task.0), task.1)) else texts

abbrev pub with_texts_of : List ℕ → OrderTexts → ℕ × Job → OrderTexts
with_texts_of host texts job = fold (with_text_of host job.0) texts job.1.running
