-- What qdel tells: how many tasks it removes and how many it marks, by computation.
use Rattle.std.specs.Prelude.{◌≡◌, ℕ, true, false, List, [], ◌∷◌, Some, None, codes, refl}
use Rattle.std.specs.Fmt.{digits}
use Rattle.ge_model_rows.specs.ClusterRows.{Cluster}
use Rattle.ge_model_rows.specs.EntryRows.{Pick}
use Rattle.ge_model_rows.specs.JobRows.{Job, Running}
use Rattle.ge_model_rows.specs.TaskRows.{TaskSpan}
use Rattle.ge_model_rows.specs.Complexes.{opening}
use Rattle.ge_model_jobs.specs.Picks.{picked_tasks}
use Rattle.ge_model_jobs.proofs.Samples.{span, array_job, running, with_jobs}
use Rattle.ge_model_core.specs.Deleting.{removed_line}
use Rattle.ge_model_core.specs.Targets.{named_jobs}

-- a task that runs nowhere
abbrev runs : ℕ → ℕ × Running
runs number = (number, running number 0 [])

-- a job with these tasks that wait, are in error and run
abbrev job : List TaskSpan → List TaskSpan → List (ℕ × Running) → Job
job waiting failed started = record (array_job 1 (span 1 9 1)) { queued = waiting; broken = failed; running = started }

-- tasks 1, 3 and 5 wait, 2 is in error, 4 and 7 run
abbrev mixed : Job
mixed = job (span 1 5 2 ∷ []) (span 2 2 1 ∷ []) (runs 4 ∷ runs 7 ∷ [])

-- tasks 3 and 4 wait, and 4 runs too, which no run brings about
abbrev twice : Job
twice = job (span 3 4 1 ∷ []) [] (runs 4 ∷ [])

each_in_one_place : removed_line false ((mixed, picked_tasks mixed None) ∷ []) ≡ codes "removed 4 marked 2"
unfolding digits
each_in_one_place = refl

by_force : removed_line true ((mixed, picked_tasks mixed None) ∷ []) ≡ codes "removed 6 marked 0"
unfolding digits
by_force = refl

-- one that waits and runs is taken from the waiting ones, and marked
waits_and_runs : removed_line false ((twice, picked_tasks twice None) ∷ []) ≡ codes "removed 2 marked 1"
unfolding digits
waits_and_runs = refl

-- by force it counts once
waits_and_runs_by_force : removed_line true ((twice, picked_tasks twice None) ∷ []) ≡ codes "removed 2 marked 0"
unfolding digits
waits_and_runs_by_force = refl

-- job 1 is named twice and once more behind job 2, which isn't there, and job 3: tasks 1 to 4 and 7 of job 1, all of job 3
unfoldable two_jobs : Cluster
unfolding with_jobs opening
two_jobs = with_jobs ((1, mixed) ∷ (3, record twice { number = 3 }) ∷ [])

abbrev many_targets : List Pick
many_targets = record { job = 1; tasks = Some (span 1 3 1 ∷ []) } ∷ record { job = 3; tasks = None } ∷ record { job = 2; tasks = None }
    ∷ record { job = 1; tasks = Some (span 2 4 2 ∷ []) } ∷ record { job = 3; tasks = Some (span 4 4 1 ∷ []) } ∷ record { job = 1; tasks = Some (span 7 90 1 ∷ []) } ∷ []

each_job_once : named_jobs two_jobs many_targets ≡ (mixed, span 1 4 1 ∷ span 7 7 1 ∷ []) ∷ (record twice { number = 3 }, span 3 4 1 ∷ []) ∷ []
unfolding two_jobs with_jobs opening
each_job_once = refl

each_task_counted_once : removed_line false (named_jobs two_jobs many_targets) ≡ codes "removed 5 marked 3"
unfolding two_jobs with_jobs opening digits
each_task_counted_once = refl

each_task_counted_once_by_force : removed_line true (named_jobs two_jobs many_targets) ≡ codes "removed 7 marked 0"
unfolding two_jobs with_jobs opening digits
each_task_counted_once_by_force = refl
