-- The end of a serial takes no other serial from those that run.
use Rattle.std.proofs.Common.{◌≡◌, ℕ, ◌==◌, ◌&&◌, Bool, true, false, if◌then◌else◌, List, [], ◌∷◌, length, Option, Some, None, is_some, refl, ap, sym, ◌∙◌, subst, arith, true≢false}
use Rattle.std.specs.Prelude.{find, option_map, option_and_then}
use Rattle.std.proofs.lemmas.Bool.{eqb-true, eq-eqb, ne_eqb}
use Rattle.ge_collections.specs.Keyed.{at_number, drop_number}
use Rattle.ge_model_rows.specs.JobRows.{Job, Running}
use Rattle.ge_model_rows.specs.Pieces.{is_empty}
use Rattle.ge_model_jobs.specs.declared.After.{After}
use Rattle.ge_model_jobs.specs.Altering.{change_job}
use Rattle.ge_model_jobs.specs.Ending.{has_no_task, lose_tasks, without_ended, runs_in, ended}
use Rattle.ge_model_jobs.specs.Orderly.{KeysFrom, AllOrderly}
use Rattle.ge_model_jobs.specs.Serials.{has_serial, runs_serial, task_with, running_with}
use Rattle.ge_model_jobs.specs.Soundness.{serial_of, job_serials, serials_of}
use Rattle.ge_model_world.specs.Laws.{Has}
use Rattle.ge_model_world.specs.Laws.Has.{here, there}
use Rattle.ge_model_world.proofs.Lists.{has_map, map_has, one_row}
use Rattle.ge_world_laws.proofs.Elements.{found_has, flat_has, has_flat, drop_has, change_other, change_there, row_at}
use Rattle.ge_world_laws.proofs.Stays.{ended_takes}

abbrev pub Found : Type 0
Found = ℕ × Job × ℕ × Running

-- what a serial names runs with it
pub record IsFound (jobs : List (ℕ × Job)) (serial : ℕ) (found : Found) : Type 0 where
  pub job : Has (found.0, found.1) jobs
  pub task : Has (found.2, found.3) found.1.running
  pub same : found.3.serial ≡ serial

pub found_is : (jobs : List (ℕ × Job)) (serial : ℕ) (found : Found) → running_with jobs serial ≡ Some found → IsFound jobs serial found
found_is jobs serial found is = by (find (runs_serial serial) jobs) refl is
  where
    inner : (job : ℕ × Job) → Has job jobs → (o : Option (ℕ × Running)) → find (has_serial serial) job.1.running ≡ o → option_map (λ task. (job.0, job.1, task.0, task.1)) o ≡ Some found → IsFound jobs serial found
    inner job h None at is = cc
    inner job h (Some task) at is =
        let same : (job.0, job.1, task.0, task.1) ≡ found = cc in
        let there_is = found_has (has_serial serial) job.1.running at in
        subst (λ f. IsFound jobs serial f) same (record { job = h; task = there_is.0; same = eqb-true task.1.serial serial there_is.1 })

    by : (o : Option (ℕ × Job)) → find (runs_serial serial) jobs ≡ o → option_and_then (task_with serial) o ≡ Some found → IsFound jobs serial found
    by None at is = cc
    by (Some job) at is = inner job (found_has (runs_serial serial) jobs at).0 (find (has_serial serial) job.1.running) refl is

-- a list with an element isn't empty
some_there : {X : Type 0} {x : X} (xs : List X) → Has x xs → is_empty xs ≡ false
some_there [] h = elim h [ ]
some_there (x ∷ xs) h = ne_eqb (length (x ∷ xs)) 0 (λ e. absurd (omega arith))

-- the running tasks of a job stand by number
tasks_rise : (jobs : List (ℕ × Job)) (row : ℕ × Job) → AllOrderly jobs → Has row jobs → KeysFrom 0 row.1.running
tasks_rise [] row all h = elim h [ ]
tasks_rise (first ∷ jobs) row all here = all.0.keys
tasks_rise (first ∷ jobs) row all (there h) = tasks_rise jobs row all.1 h

-- a serial other than the one that ends, which ran, runs on
module _ (end : After) (jobs : List (ℕ × Job)) (numbers : KeysFrom 0 jobs) (all : AllOrderly jobs) (serial : ℕ) (found : Found) (is : IsFound jobs serial found) where
  abbrev change : Job → Job
  change job = without_ended end found.2 job

  abbrev left : Bool → List (ℕ × Job)
  left none = if none then drop_number jobs found.0 else change_job (without_ended end found.2) jobs found.0

  tasks : KeysFrom 0 found.1.running
  tasks = tasks_rise jobs (found.0, found.1) all is.job

  job_at : at_number jobs found.0 ≡ Some found.1
  job_at = row_at 0 jobs found.0 found.1 numbers is.job

  task_at : at_number found.1.running found.2 ≡ Some found.3
  task_at = row_at 0 found.1.running found.2 found.3 tasks is.task

  -- the job loses the task, or leaves the table where it has no other
  left_is : ended jobs (record { job = found.0; task = found.2 }) end ≡ left (has_no_task (change found.1))
  left_is =
      ap (λ b. if b then lose_tasks (without_ended end found.2) jobs found.0 else jobs) (ap (λ j. runs_in j found.2) job_at ∙ ap is_some task_at)
      ∙ ap (λ (o : Option Job). elim o as (λ x. List (ℕ × Job)) [ None ↦ jobs | Some job ↦ if has_no_task (without_ended end found.2 job) then drop_number jobs found.0 else change_job (without_ended end found.2) jobs found.0 ]) job_at

  -- a job with another number stays
  other_job : (row : ℕ × Job) → (row.0 ≡ found.0 → ⊥) → Has row jobs → (none : Bool) → Has row (left none)
  other_job row other h true = drop_has jobs found.0 other h
  other_job row other h false = change_other (without_ended end found.2) jobs found.0 other h

  -- another task of its job runs on, so the job stays
  same_job : (task : ℕ × Running) → (task.0 ≡ found.2 → ⊥) → Has task found.1.running → (none : Bool) → has_no_task (change found.1) ≡ none → Has (task.1.serial) (serials_of (left none))
  same_job task other h none empty = by none empty
    where
      rest : Has task (change found.1).running
      rest = subst (λ tasks. Has task tasks) (sym (ended_takes end found.2 found.1)) (drop_has found.1.running found.2 other h)

      some : is_empty (change found.1).running ≡ false
      some = some_there (change found.1).running rest

      last : (x y : Bool) → (x && y && false) ≡ false
      last true true = refl
      last true false = refl
      last false y = refl

      by : (none : Bool) → has_no_task (change found.1) ≡ none → Has (task.1.serial) (serials_of (left none))
      by true empty = absurd (true≢false (sym empty ∙ ap (λ z. is_empty (change found.1).queued && is_empty (change found.1).broken && z) some ∙ last (is_empty (change found.1).queued) (is_empty (change found.1).broken)))
      by false empty = flat_has job_serials (found.0, change found.1) (left false) (change_there (without_ended end found.2) 0 jobs found.0 numbers is.job) (map_has serial_of (change found.1).running rest)

  pub runs_on : (s : ℕ) → (s ≡ serial → ⊥) → Has s (serials_of jobs) → Has s (serials_of (ended jobs (record { job = found.0; task = found.2 }) end))
  runs_on s other h =
      let row = has_flat job_serials jobs h in
      let task = has_map serial_of row.0.1.running row.2 in
      subst (λ js. Has s (serials_of js)) (sym left_is) (by row.0 task.0 row.1 task.1 task.2 (row.0.0 == found.0) refl)
    where
      by : (row : ℕ × Job) (task : ℕ × Running) → Has row jobs → Has task row.1.running → task.1.serial ≡ s → (b : Bool) → (row.0 == found.0) ≡ b → Has s (serials_of (left (has_no_task (change found.1))))
      by row task h g same false apart =
          flat_has job_serials row (left (has_no_task (change found.1))) (other_job row (λ e. true≢false (sym (eq-eqb row.0 found.0 e) ∙ apart)) h (has_no_task (change found.1)))
          (subst (λ n. Has n (job_serials row)) same (map_has serial_of row.1.running g))
      by row task h g same true there_is =
          let number : row.0 ≡ found.0 = eqb-true row.0 found.0 there_is in
          let job : row.1 ≡ found.1 = one_row 0 jobs found.0 row.1 found.1 numbers (subst (λ n. Has {X = ℕ × Job} (n, row.1) jobs) number h) is.job in
          let here_is : Has task found.1.running = subst (λ j. Has task j.running) job g in
          let not_it : task.0 ≡ found.2 → ⊥ = λ e.
          let run : task.1 ≡ found.3 = one_row 0 found.1.running found.2 task.1 found.3 tasks (subst (λ n. Has {X = ℕ × Running} (n, task.1) found.1.running) e here_is) is.task in
          other (sym same ∙ ap (λ r. r.serial) run ∙ is.same) in
          subst (λ n. Has n (serials_of (left (has_no_task (change found.1))))) same
          (same_job task not_it here_is (has_no_task (change found.1)) refl)
