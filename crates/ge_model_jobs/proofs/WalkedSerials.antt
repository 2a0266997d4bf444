-- The running task of a serial is the first that a walk over all jobs and their running tasks meets.
use Rattle.std.proofs.Common.{◌≡◌, ℕ, ◌||◌, Bool, true, false, cond, List, [], ◌∷◌, find, Option, Some, None, is_some, option_map, option_and_then, refl, sym, subst}
use Rattle.std.specs.Prelude.{IfSome}
use Rattle.std.specs.List.{list_any}
use Rattle.std.proofs.lemmas.Bool.{true≢false}
use Rattle.ge_model_rows.specs.JobRows.{Job, Running}
use Rattle.ge_collections.specs.Keyed.{at_number}
use Rattle.ge_model_jobs.specs.Serials.{met_with, has_serial, runs_serial, task_with, running_with}
use Rattle.ge_model_jobs.specs.Orderly.{KeysFrom, IsOrderly, AllOrderly}
use Rattle.ge_model_jobs.proofs.Keys.{IfAt, found_at}
use Rattle.ge_model_jobs.proofs.Orderly.{IfOrderly, there_orderly}

some_found : {A : Type 0} (test : A → Bool) (rows : List A) → is_some (find test rows) ≡ list_any test rows
some_found test [] = refl
some_found test (row ∷ rows) = by (test row) (some_found test rows)
  where
    by : (here : Bool) → is_some (find test rows) ≡ list_any test rows → is_some (cond here (Some row) (find test rows)) ≡ (here || list_any test rows)
    by true again = refl
    by false again = again

pub first_met : (jobs : List (ℕ × Job)) (serial : ℕ) → running_with jobs serial ≡ met_with jobs serial
first_met [] serial = refl
first_met (job ∷ jobs) serial = by (runs_serial serial job) (find (has_serial serial) job.1.running) refl (some_found (has_serial serial) job.1.running) (first_met jobs serial)
  where
    by : (runs : Bool) (found : Option (ℕ × Running)) → find (has_serial serial) job.1.running ≡ found → is_some found ≡ runs → running_with jobs serial ≡ met_with jobs serial
        → option_and_then (task_with serial) (cond runs (Some job) (find (runs_serial serial) jobs))
        ≡ elim found as (λ x. Option (ℕ × Job × ℕ × Running)) [ Some task ↦ Some (job.0, job.1, task.0, task.1) | None ↦ met_with jobs serial ]
    by true (Some task) is some again = λ i. option_map (λ task. (job.0, job.1, task.0, task.1)) (is i)
    by true None is some again = absurd (true≢false (sym some))
    by false (Some task) is some again = absurd (true≢false some)
    by false None is some again = again

-- a serial is that of a running task where some job runs a task with it
pub serial_borne : (jobs : List (ℕ × Job)) (serial : ℕ) → is_some (running_with jobs serial) ≡ is_some (find (runs_serial serial) jobs)
serial_borne [] serial = refl
serial_borne (job ∷ jobs) serial = by (runs_serial serial job) (find (has_serial serial) job.1.running) refl (some_found (has_serial serial) job.1.running) (serial_borne jobs serial)
  where
    by : (runs : Bool) (found : Option (ℕ × Running)) → find (has_serial serial) job.1.running ≡ found → is_some found ≡ runs
        → is_some (running_with jobs serial) ≡ is_some (find (runs_serial serial) jobs)
        → is_some (option_and_then (task_with serial) (cond runs (Some job) (find (runs_serial serial) jobs))) ≡ is_some (cond runs (Some job) (find (runs_serial serial) jobs))
    by true (Some task) is some again = λ i. is_some {T = ℕ × Job × ℕ × Running} (option_map (λ task. (job.0, job.1, task.0, task.1)) (is i))
    by true None is some again = absurd (true≢false (sym some))
    by false found is some again = again

-- a table has a job at its number, and the job a running task
abbrev pub AreThere : List (ℕ × Job) → ℕ × Job × ℕ × Running → Type 0
AreThere jobs found = (at_number jobs found.0 ≡ Some found.1) × (at_number found.1.running found.2 ≡ Some found.3)

-- so it is with the task of a serial, where jobs and their running tasks stand by number
pub stands_there : (jobs : List (ℕ × Job)) (serial : ℕ) → KeysFrom 0 jobs → AllOrderly jobs → IfSome (running_with jobs serial) (AreThere jobs)
stands_there jobs serial keys all = by (find (runs_serial serial) jobs) (found_at (runs_serial serial) 0 jobs keys)
  where
    by_task : (job : ℕ × Job) → at_number jobs job.0 ≡ Some job.1 → (found : Option (ℕ × Running)) → IfAt 0 job.1.running found
        → IfSome (option_map (λ task. (job.0, job.1, task.0, task.1)) found) (AreThere jobs)
    by_task job at None is = tt
    by_task job at (Some task) is = (at, is.1)

    by : (found : Option (ℕ × Job)) → IfAt 0 jobs found
        → IfSome (option_and_then (task_with serial) found) (AreThere jobs)
    by None is = tt
    by (Some job) is =
        let one : IsOrderly job.1 = subst IfOrderly is.1 (there_orderly jobs job.0 all) in
        by_task job is.1 (find (has_serial serial) job.1.running) (found_at (has_serial serial) 0 job.1.running one.keys)
