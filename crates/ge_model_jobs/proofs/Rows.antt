-- Worked rows: eligible tasks, running tasks by serial, and what entries make of jobs.
use Rattle.std.specs.Prelude.{◌≡◌, ◌^◌, ◌-◌, true, false, fold, codes, pos, List, [], ◌∷◌, Some, None, refl}
use Rattle.ge_model_rows.specs.ClusterRows.{opening_cluster, default_sched}
use Rattle.ge_model_rows.specs.EntryRows.{Entry, Submit, Alter, Hold, Release, Delete, Clear, End}
use Rattle.ge_model_rows.specs.EntryRows.{Run}
use Rattle.ge_model_rows.specs.JobRows.{Job}
use Rattle.ge_model_jobs.specs.Holds.{is_live_task, live_tasks, holds_of, eligible_tasks}
use Rattle.ge_model_jobs.specs.Picks.{picked_tasks}
use Rattle.ge_model_jobs.specs.Serials.{running_with}
use Rattle.ge_model_jobs.specs.Applying.{after_entry, changes_in_full}
use Rattle.ge_model_jobs.proofs.Samples.{span, array_job, plain_job, since, dying, start, line, no_patch, cluster, at}

-- a job of 75000 tasks
abbrev wide : Job
wide = array_job 1 (span 1 75000 1)

-- one with tasks that wait, are in error and run
abbrev mixed : Job
mixed = record (array_job 1 (span 1 9 1)) { queued = span 1 5 2 ∷ []; broken = span 2 2 1 ∷ []; running = since 4 3 0 ∷ since 7 5 0 ∷ [] }

-- live tasks, and those that a target names

all_live : live_tasks mixed ≡ span 1 5 1 ∷ span 7 7 1 ∷ []
all_live = refl

six_is_gone : is_live_task mixed 6 ≡ false
six_is_gone = refl

whole_target : picked_tasks mixed None ≡ span 1 5 1 ∷ span 7 7 1 ∷ []
whole_target = refl

target_past_the_job : picked_tasks mixed (Some (span 4 80000 1 ∷ [])) ≡ span 4 5 1 ∷ span 7 7 1 ∷ []
target_past_the_job = refl

-- eligible tasks

first_three : eligible_tasks ((1, record wide { queued = span 2 75000 2 ∷ [] }) ∷ []) 1 0 3 ≡ 2 ∷ 4 ∷ 6 ∷ []
unfolding eligible_tasks
first_three = refl

no_bound : eligible_tasks ((1, mixed) ∷ []) 1 0 0 ≡ 1 ∷ 3 ∷ 5 ∷ []
unfolding eligible_tasks
no_bound = refl

not_there : eligible_tasks ((1, mixed) ∷ []) 2 0 0 ≡ []
unfolding eligible_tasks
not_there = refl

held_by_a_bit : eligible_tasks ((1, record mixed { hold = 4 }) ∷ []) 1 0 0 ≡ []
unfolding eligible_tasks
held_by_a_bit = refl

held_by_a_job : eligible_tasks ((1, mixed) ∷ (2, record mixed { after = 3 ∷ 1 ∷ [] }) ∷ []) 2 0 0 ≡ []
unfolding eligible_tasks
held_by_a_job = refl

predecessor_ended : eligible_tasks ((1, mixed) ∷ (2, record mixed { after = 3 ∷ [] }) ∷ []) 2 0 0 ≡ 1 ∷ 3 ∷ 5 ∷ []
unfolding eligible_tasks
predecessor_ended = refl

-- -a keeps a task back while its moment is to come
at_its_moment : eligible_tasks ((1, record mixed { not_before = 20 }) ∷ []) 1 20 1 ≡ 1 ∷ []
unfolding eligible_tasks
at_its_moment = refl

before_its_moment : eligible_tasks ((1, record mixed { not_before = 20 }) ∷ []) 1 19 1 ≡ []
unfolding eligible_tasks
before_its_moment = refl

-- each task waits for the task of its number alone
task_by_task : eligible_tasks ((1, mixed) ∷ (2, record (array_job 2 (span 1 9 1)) { after_each = 1 ∷ [] }) ∷ []) 2 0 2 ≡ 6 ∷ 8 ∷ []
unfolding eligible_tasks
task_by_task = refl

hold_of_no_job : holds_of ((1, record mixed { hold = 4 }) ∷ []) 2 ≡ 0
hold_of_no_job = refl

-- a serial that two tasks have names the one of the least job
least_job : running_with ((1, mixed) ∷ (2, mixed) ∷ []) 5 ≡ Some (1, mixed, 7, (since 7 5 0).1)
least_job = refl

no_such_serial : running_with ((1, mixed) ∷ []) 4 ≡ None
no_such_serial = refl

-- a job of 75000 tasks is submitted, its first task starts, and another one is deleted
wide_job_goes_on : fold after_entry (cluster [])
    (at 1 (Submit wide) ∷ at 2 (Run (start 1 1 9 ∷ start 1 1 10 ∷ start 2 1 11 ∷ [])) ∷ at 3 (Delete (record { job = 1; tasks = Some (span 500 500 1 ∷ []) } ∷ []) false) ∷ [])
    ≡ record (cluster ((1, record wide { queued = span 2 499 1 ∷ span 501 75000 1 ∷ []; running = since 1 9 2 ∷ [] }) ∷ [])) { last = 3; last_run = 2; next_job = 2; next_serial = 12 }
unfolding changes_in_full cluster
wide_job_goes_on = refl

-- the last numbers that a job and a serial may have
last_numbers : fold after_entry (cluster []) (at 1 (Submit (plain_job (2 ^ 32 - 1))) ∷ at 2 (Run (start 7 1 (2 ^ 64 - 1) ∷ [])) ∷ [])
    ≡ record (cluster ((2 ^ 32 - 1, plain_job (2 ^ 32 - 1)) ∷ [])) { last = 2; last_run = 2; next_job = 2 ^ 32 - 1; next_serial = 2 ^ 64 - 1 }
unfolding changes_in_full cluster
last_numbers = refl

run_without_starts : after_entry (cluster []) (at 7 (Run [])) ≡ record (cluster []) { last = 7; last_run = 7 }
unfolding changes_in_full cluster
run_without_starts = refl

-- the jobs of two array commands, their starts and ends: what waits of the second one waits for the first
two_arrays : List Entry
two_arrays = at 0 (Submit (array_job 1 (span 1 10 3))) ∷ at 0 (Submit (record (array_job 2 (span 1 10 3)) { after_each = 1 ∷ [] }))
    ∷ at 0 (Delete (record { job = 1; tasks = Some (span 4 4 1 ∷ []) } ∷ []) false) ∷ at 0 (Run (start 1 1 1 ∷ start 1 7 2 ∷ []))
    ∷ at 5 (End 1 99 0 0 0) ∷ at 5 (Run (start 1 1 3 ∷ [])) ∷ at 6 (End 3 100 0 0 0) ∷ []

arrays_after : fold after_entry opening_cluster two_arrays ≡ record opening_cluster {
  last = 6;
  last_run = 5;
  next_job = 3;
  next_serial = 4;
  jobs = (1, record (array_job 1 (span 1 10 3)) { queued = span 10 10 1 ∷ []; broken = span 1 1 1 ∷ []; running = since 7 2 0 ∷ [] })
      ∷ (2, record (array_job 2 (span 1 10 3)) { after_each = 1 ∷ [] }) ∷ [];
  usage = ((codes "ann", [], 0), 0) ∷ [];
  lines = line 1 1 0 5 99 ∷ line 1 1 5 6 100 ∷ [];
}
unfolding two_arrays changes_in_full opening_cluster default_sched
arrays_after = refl

four_is_eligible : eligible_tasks (fold after_entry opening_cluster two_arrays).jobs 2 6 50 ≡ 4 ∷ []
unfolding two_arrays eligible_tasks changes_in_full opening_cluster default_sched
four_is_eligible = refl

-- the end of a job's last task takes the job out of the table; so does that of a marked task, whatever its exit
last_task_ends : after_entry (cluster ((3, record (plain_job 3) { queued = []; running = since 1 4 10 ∷ [] }) ∷ [])) (at 20 (End 4 0 0 0 0))
    ≡ record (cluster []) { last = 20; usage = ((codes "ann", [], 0), 0) ∷ []; lines = line 3 0 10 20 0 ∷ [] }
unfolding changes_in_full cluster
last_task_ends = refl

marked_task_ends : after_entry (cluster ((3, record (array_job 3 (span 1 2 1)) { queued = span 2 2 1 ∷ []; running = dying 1 4 10 ∷ [] }) ∷ [])) (at 20 (End 4 99 0 0 0))
    ≡ record (cluster ((3, record (array_job 3 (span 1 2 1)) { queued = span 2 2 1 ∷ [] }) ∷ [])) { last = 20; usage = ((codes "ann", [], 0), 0) ∷ []; lines = line 3 1 10 20 99 ∷ [] }
unfolding changes_in_full cluster
marked_task_ends = refl

-- a number that no set holds can't wait again
task_of_number_0_ends : after_entry (cluster ((3, record mixed { running = since 0 4 10 ∷ [] }) ∷ [])) (at 20 (End 4 99 0 0 0))
    ≡ record (cluster ((3, record mixed { running = [] }) ∷ [])) { last = 20; usage = ((codes "ann", [], 0), 0) ∷ []; lines = line 3 0 10 20 99 ∷ [] }
unfolding changes_in_full cluster
task_of_number_0_ends = refl

end_of_nothing : after_entry (cluster ((1, mixed) ∷ [])) (at 20 (End 8 0 0 0 0)) ≡ record (cluster ((1, mixed) ∷ [])) { last = 20 }
unfolding changes_in_full cluster
end_of_nothing = refl

-- waiting tasks and those in error are gone, running ones are marked
deleted : after_entry (cluster ((1, mixed) ∷ [])) (at 20 (Delete (record { job = 1; tasks = Some (span 1 4 1 ∷ []) } ∷ record { job = 6; tasks = None } ∷ []) false))
    ≡ record (cluster ((1, record mixed { queued = span 5 5 1 ∷ []; broken = []; running = dying 4 3 0 ∷ since 7 5 0 ∷ [] }) ∷ [])) { last = 20 }
unfolding changes_in_full cluster
deleted = refl

-- by force the lines come by job, then task, however the targets are written; usage isn't counted
deleted_by_force : after_entry (cluster ((1, mixed) ∷ (2, record (plain_job 2) { queued = []; running = since 1 6 3 ∷ [] }) ∷ []))
    (at 20 (Delete (record { job = 2; tasks = None } ∷ record { job = 1; tasks = Some (span 7 7 1 ∷ []) } ∷ record { job = 1; tasks = Some (span 1 4 3 ∷ []) } ∷ []) true))
    ≡ record (cluster ((1, record mixed { queued = span 3 5 2 ∷ []; running = [] }) ∷ [])) {
      last = 20;
      lines = record (line 1 4 0 20 0) { failed = 1 } ∷ record (line 1 7 0 20 0) { failed = 1 } ∷ record (line 2 0 3 20 0) { failed = 1 } ∷ [];
    }
unfolding changes_in_full cluster
deleted_by_force = refl

-- tasks in error wait again; the others stay
cleared_all : after_entry (cluster ((1, mixed) ∷ [])) (at 20 (Clear (record { job = 1; tasks = None } ∷ record { job = 2; tasks = None } ∷ [])))
    ≡ record (cluster ((1, record mixed { queued = span 1 3 1 ∷ span 5 5 1 ∷ []; broken = [] }) ∷ [])) { last = 20 }
unfolding changes_in_full cluster
cleared_all = refl

cleared_none : after_entry (cluster ((1, mixed) ∷ [])) (at 20 (Clear (record { job = 1; tasks = Some (span 3 9 1 ∷ []) } ∷ []))) ≡ record (cluster ((1, mixed) ∷ [])) { last = 20 }
unfolding changes_in_full cluster
cleared_none = refl

-- hold bits are set and taken each alone
held_by_user_and_system : after_entry (cluster ((1, record mixed { hold = 3 }) ∷ [])) (at 20 (Hold (1 ∷ 2 ∷ []) 5)) ≡ record (cluster ((1, record mixed { hold = 7 }) ∷ [])) { last = 20 }
unfolding changes_in_full cluster
held_by_user_and_system = refl

freed_of_user_and_system : after_entry (cluster ((1, record mixed { hold = 3 }) ∷ [])) (at 20 (Release (1 ∷ []) 5)) ≡ record (cluster ((1, record mixed { hold = 2 }) ∷ [])) { last = 20 }
unfolding changes_in_full cluster
freed_of_user_and_system = refl

-- later patches of one job win; what they don't give stays
altered_twice : after_entry (cluster ((1, mixed) ∷ []))
    (at 20 (Alter ((1, record no_patch { priority = Some (pos 5); after = Some (4 ∷ []) }) ∷ (2, no_patch) ∷ (1, record no_patch { priority = Some (pos 6) }) ∷ [])))
    ≡ record (cluster ((1, record mixed { priority = pos 6; after = 4 ∷ [] }) ∷ [])) { last = 20 }
unfolding changes_in_full cluster
altered_twice = refl
