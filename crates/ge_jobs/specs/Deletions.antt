-- What a deletion takes from a job, and from the table of jobs.
use Rattle.std.specs.Prelude.{ℕ, Bool, true, cond, if◌then◌else◌, List, [], flat_map, Option, Some, None}
use Rattle.std.specs.BTreeMap.{is_at}
use Rattle.std.specs.Ordering.{nat_cmp}
use Rattle.ge_collections.specs.Changed.{change_value}
use Rattle.ge_collections.specs.Keyed.{at_number, drop_number}
use Rattle.ge_model_rows.specs.JobRows.{Job, Running}
use Rattle.ge_model_rows.specs.TaskRows.{TaskSpan}
use Rattle.ge_rows.specs.declared.marks.JobMark.{JobMark}
use Rattle.ge_rows.specs.Marks.{task_marks}
use Rattle.ge_model_jobs.specs.Picks.{names_task}
use Rattle.ge_model_jobs.specs.Ending.{has_no_task}

-- a running task that is marked for deletion
abbrev pub deleting : Running → Running
deleting task = record task { deleting = true }

-- the running tasks, with the one of a number marked
abbrev pub mark_number : List (ℕ × Running) → ℕ → List (ℕ × Running)
mark_number running number = change_value (is_at (nat_cmp number)) deleting running

-- the marks of a running task, where a target names it
abbrev pub marks_if_named : Option (List TaskSpan) → ℕ × Running → List JobMark
marks_if_named tasks row = cond (names_task tasks row.0) (task_marks row.1) []

-- what a deletion takes from a job: by force the marks of the running tasks that it names
abbrev pub lost_by_delete : Bool → Option (List TaskSpan) → Job → List JobMark
lost_by_delete force tasks job = cond force (flat_map (marks_if_named tasks) job.running) []

-- the table without a job, if it has no task left
abbrev pub without_spent : List (ℕ × Job) → ℕ → List (ℕ × Job)
without_spent jobs number = elim (at_number jobs number) [
  | None ↦ jobs
  | Some job ↦ if has_no_task job then drop_number jobs number else jobs
]
