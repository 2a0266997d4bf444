-- Running tasks by serial.
use Rattle.std.specs.Prelude.{ℕ, ◌==◌, Bool, List, [], ◌∷◌, find, Option, Some, None, option_map, option_and_then}
use Rattle.std.specs.List.{list_any}
use Rattle.ge_model_rows.specs.JobRows.{Job, Running}

-- whether a running task has a serial
abbrev pub has_serial : ℕ → ℕ × Running → Bool
has_serial serial task = task.1.serial == serial

-- whether a job runs a task with a serial
abbrev pub runs_serial : ℕ → ℕ × Job → Bool
runs_serial serial job = list_any (has_serial serial) job.1.running

-- the task of a job that has a serial, of several the least, with its job
abbrev pub task_with : ℕ → ℕ × Job → Option (ℕ × Job × ℕ × Running)
task_with serial job = option_map (λ task. (job.0, job.1, task.0, task.1)) (find (has_serial serial) job.1.running)

-- the running task that a serial names: in the least job that runs one, the least
abbrev pub running_with : List (ℕ × Job) → ℕ → Option (ℕ × Job × ℕ × Running)
running_with jobs serial = option_and_then (task_with serial) (find (runs_serial serial) jobs)

-- the first running task with a serial that a walk over all jobs and their running tasks meets
abbrev pub met_with : List (ℕ × Job) → ℕ → Option (ℕ × Job × ℕ × Running)
met_with [] serial = None
met_with (job ∷ jobs) serial = elim (find (has_serial serial) job.1.running) [
  | Some task ↦ Some (job.0, job.1, task.0, task.1)
  | None ↦ met_with jobs serial
]
