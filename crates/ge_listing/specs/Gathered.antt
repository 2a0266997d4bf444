-- The orders of a host as texts in the order of their serials, then jobs, then tasks.
use Rattle.std.specs.Prelude.{ℕ, List, [], if◌then◌else◌, fold, Option, Some, None}
use Rattle.std.specs.BTreeMap.{insert_entry}
use Rattle.ge_job_index.specs.Asked.{bearers_of}
use Rattle.ge_collections.specs.Keyed.{at_number}
use Rattle.ge_model_rows.specs.JobRows.{Job, Running}
use Rattle.ge_model_report.specs.Orders.{order_cmp, is_run_at, order_text}
use Rattle.ge_rows.specs.Marks.{job_marks, mark_of}
use Rattle.ge_rows.specs.declared.marks.MarkSort.TheVariants as sort
use Rattle.ge_rows.specs.contracts.marks.JobMarkOrd.TheImpl as order

-- with the order of one more task, where the host runs it
abbrev pub with_order : List ℕ → ℕ → List ((ℕ × ℕ × ℕ) × List ℕ) → ℕ × Running → List ((ℕ × ℕ × ℕ) × List ℕ)
with_order host job texts task =
    if is_run_at host task.1.grants then insert_entry order_cmp texts (task.1.serial, job, task.0) (order_text ((task.1.serial, job, task.0), task.1)) else texts

-- with those of one more job
abbrev pub with_orders : List ℕ → List ((ℕ × ℕ × ℕ) × List ℕ) → ℕ × Job → List ((ℕ × ℕ × ℕ) × List ℕ)
with_orders host texts job = fold (with_order host job.0) texts job.1.running

-- the numbers of the jobs that bear the mark of a host: a task of theirs has slots there
abbrev pub on_host : List ℕ → List (ℕ × Job) → List ℕ
on_host host jobs = bearers_of order.ghosts.cmp job_marks (mark_of sort.Host host [] 0) jobs

-- with those of one more job by its number, if it is there
abbrev pub with_orders_of : List ℕ → List ((ℕ × ℕ × ℕ) × List ℕ) → ℕ → Option Job → List ((ℕ × ℕ × ℕ) × List ℕ)
with_orders_of host texts number None = texts
with_orders_of host texts number (Some job) = with_orders host texts (number, job)

abbrev pub with_orders_at : List ℕ → List (ℕ × Job) → List ((ℕ × ℕ × ℕ) × List ℕ) → ℕ → List ((ℕ × ℕ × ℕ) × List ℕ)
with_orders_at host jobs texts number = with_orders_of host texts number (at_number jobs number)
