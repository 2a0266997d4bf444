-- What an entry of a plan keeps: what runs keeps its host, the next serial never falls and stays in range, and accounting lines only grow.
use Rattle.std.proofs.Common.{◌≡◌, ◌⊎◌, inl, inr, ℕ, ◌+◌, ◌^◌, ◌≤◌, Bool, List, [], ◌∷◌, ◌++◌, length, fold, Option, Some, None, refl, sym, subst, arith}
use Rattle.ge_limits.specs.Limits as limit
use Rattle.ge_collections.specs.Keyed.{at_number}
use Rattle.ge_model_rows.specs.ClusterRows.{Cluster}
use Rattle.ge_model_rows.specs.EntryRows.{Entry, Change, Item, ObjectKind}
use Rattle.ge_model_rows.specs.JobRows.{Job, Running}
use Rattle.ge_model_rows.specs.ScheduleRows.{Start}
use Rattle.ge_model_rows.specs.TaskRows.{TaskSpan}
use Rattle.ge_model_jobs.specs.Altering.{change_job, patched, alter_job, held, freed, with_job, with_altered, with_held, with_freed}
use Rattle.ge_model_jobs.specs.Configuring.{with_item, without_item, with_load}
use Rattle.ge_model_jobs.specs.Ending.{after_exit, end_task, with_end, delete_from, forced_lines, lose_tasks, without_picked, cleared, clear_from, with_deleted, with_cleared}
use Rattle.ge_model_jobs.specs.Picks.{joined_picks}
use Rattle.ge_model_jobs.specs.Serials.{running_with}
use Rattle.ge_model_jobs.specs.Starting.{serial_past, start_task, with_run}
use Rattle.ge_model_jobs.specs.Applying.{after_change, after_entry}
use Rattle.ge_model_jobs.proofs.Orderly.{item_jobs, dropped_jobs}
use Rattle.ge_soundness.proofs.Brought.{Fits}
use Rattle.ge_soundness.proofs.Starts.{AreNumbered, serial_past_all}
use Rattle.ge_model_world.specs.Laws.{Has, Post}
use Rattle.ge_world_laws.specs.Product.{posts_of}
use Rattle.ge_world_laws.proofs.Stays.{Stays, stays_same, folded_stays, same_stays, put_stays, ended_stays, deleted_stays, started_stays}

-- ---- what runs, and the next serial

pub record Goes (c after : Cluster) : Type 0 where
  pub stays : Stays c.next_serial c.jobs after.jobs
  pub grows : c.next_serial ≤ after.next_serial
  pub in_range : c.next_serial ≤ limit.last_serial + 1 → after.next_serial ≤ limit.last_serial + 1

-- the next serial stays
goes : (c after : Cluster) → after.next_serial ≡ c.next_serial → Stays c.next_serial c.jobs after.jobs → Goes c after
goes c after same stays = record { stays = stays; grows = omega (arith, same); in_range = λ before. omega (arith, same, before) }

-- and the jobs stay too
goes_on : (c after : Cluster) → after.next_serial ≡ c.next_serial → after.jobs ≡ c.jobs → Goes c after
goes_on c after same jobs = goes c after same (subst (λ js. Stays c.next_serial c.jobs js) (sym jobs) (stays_same c.next_serial c.jobs))

item_serial : (moment : ℕ) (c : Cluster) (object : Item) → (with_item moment c object).next_serial ≡ c.next_serial
unfolding with_item
item_serial moment c (Item.Sched sched) = refl
item_serial moment c _ = refl

dropped_serial : (c : Cluster) (sort : ObjectKind) (name : List ℕ) → (without_item c sort name).next_serial ≡ c.next_serial
unfolding without_item
dropped_serial c ObjectKind.Sched name = refl
dropped_serial c _ name = refl

-- tasks of one job are deleted, and then of others
delete_goes : (moment : ℕ) (force : Bool) (c : Cluster) (named : ℕ × Option (List TaskSpan)) → Goes c (delete_from moment force c named)
delete_goes moment force c named = by (at_number c.jobs named.0)
  where
    by : (found : Option Job)
        → Goes c (elim found as (λ x. Cluster) [
          | None ↦ c
          | Some job ↦ record c {
            jobs = lose_tasks (without_picked force named.1) c.jobs named.0;
            lines = c.lines ++ forced_lines moment force named.0 job named.1;
          }
        ])
    by None = goes_on c c refl refl
    by (Some job) = goes c _ refl (deleted_stays c.next_serial force named.1 c.jobs named.0)

goes_then : {first second third : Cluster} → Goes first second → Goes second third → Goes first third
goes_then {first} {second} {third} p q =
    let low : first.next_serial ≤ second.next_serial = p.grows in
    let high : second.next_serial ≤ third.next_serial = q.grows in
    record {
      stays = λ post h. by post (q.stays post h);
      grows = omega (arith, low, high);
      in_range = λ before. q.in_range (p.in_range before);
    }
  where
    by : (post : Post) → Has post (posts_of second.jobs) ⊎ (second.next_serial ≤ post.0) → Has post (posts_of first.jobs) ⊎ (first.next_serial ≤ post.0)
    by post (inl old) = p.stays post old
    by post (inr late) = let low : first.next_serial ≤ second.next_serial = p.grows in inr (omega (arith, low, late))

deleted_goes : (moment : ℕ) (force : Bool) (rows : List (ℕ × Option (List TaskSpan))) (c : Cluster) → Goes c (fold (delete_from moment force) c rows)
deleted_goes moment force [] c = goes_on c c refl refl
deleted_goes moment force (named ∷ rows) c = goes_then (delete_goes moment force c named) (deleted_goes moment force rows (delete_from moment force c named))

-- the task of a serial ends
end_goes : (moment : ℕ) (c : Cluster) (serial exit cpu mem io : ℕ) → Goes c (with_end moment c serial exit cpu mem io)
unfolding with_end
end_goes moment c serial exit cpu mem io = by (running_with c.jobs serial)
  where
    by : (found : Option (ℕ × Job × ℕ × Running))
        → Goes c (elim found as (λ x. Cluster) [
          | None ↦ c
          | Some found ↦ end_task moment c found.0 found.1 found.2 found.3 (record { failed = 0; exit = exit; cpu = cpu; mem = mem; io = io })
        ])
    by None = goes_on c c refl refl
    by (Some found) = goes c _ refl (ended_stays c.next_serial c.jobs (record { job = found.0; task = found.2 }) (after_exit exit found.3))

-- a run starts tasks
run_goes : (moment : ℕ) (c : Cluster) (starts : List Start) → AreNumbered c.next_serial starts → Goes c (with_run moment c starts)
unfolding with_run
run_goes moment c starts numbered = by starts numbered (serial_past_all starts c.next_serial numbered.follow numbered.in_range) (started_stays c.next_serial c.next_serial moment c.jobs starts (omega arith) numbered.follow)
  where
    within : (n : ℕ) (starts : List Start) → n ≤ limit.last_serial + 1 → (1 ≤ length starts → n + length starts ≤ 2 ^ 48) → n + length starts ≤ limit.last_serial + 1
    within n [] before fits = omega (arith, before)
    within n (start ∷ starts) before fits = let all = fits (omega arith) in omega (arith, all)

    by : (starts : List Start) → AreNumbered c.next_serial starts → serial_past c.next_serial starts ≡ c.next_serial + length starts → Stays c.next_serial c.jobs (fold (start_task moment) c.jobs starts)
        → Goes c (with_run moment c starts)
    by starts numbered past stays = record {
      stays = stays;
      grows = omega (arith, past);
      in_range = λ before. subst (λ n. n ≤ limit.last_serial + 1) (sym past) (within c.next_serial starts before numbered.in_range);
    }

change_goes : (moment : ℕ) (c : Cluster) (what : Change) → Fits c moment what → Goes c (after_change moment c what)
unfolding after_change with_job with_altered with_held with_freed with_deleted with_cleared with_load
change_goes moment c (Change.Submit job) fits = goes c _ refl (put_stays c.next_serial job.number job fits.idle c.jobs)
change_goes moment c (Change.Alter altered) fits =
    goes c _ refl (folded_stays c.next_serial alter_job (λ jobs one. same_stays c.next_serial one.0 (patched one.1) (λ job. refl) jobs) altered c.jobs)
change_goes moment c (Change.Hold numbers bits) fits =
    goes c _ refl (folded_stays c.next_serial (change_job (held bits)) (λ jobs n. same_stays c.next_serial n (held bits) (λ job. refl) jobs) numbers c.jobs)
change_goes moment c (Change.Release numbers bits) fits =
    goes c _ refl (folded_stays c.next_serial (change_job (freed bits)) (λ jobs n. same_stays c.next_serial n (freed bits) (λ job. refl) jobs) numbers c.jobs)
change_goes moment c (Change.Delete picks force) fits = deleted_goes moment force (joined_picks picks) c
change_goes moment c (Change.Clear picks) fits =
    goes c _ refl (folded_stays c.next_serial clear_from (λ jobs one. same_stays c.next_serial one.0 (cleared one.1) (λ job. refl) jobs) (joined_picks picks) c.jobs)
change_goes moment c (Change.Put object) fits = goes_on c (with_item moment c object) (item_serial moment c object) (item_jobs moment c object)
change_goes moment c (Change.Drop key) fits = goes_on c (without_item c key.kind key.name) (dropped_serial c key.kind key.name) (dropped_jobs c key.kind key.name)
change_goes moment c (Change.Load host report) fits = goes_on c _ refl refl
change_goes moment c (Change.End serial exit cpu mem io) fits = end_goes moment c serial exit cpu mem io
change_goes moment c (Change.Run starts) fits = run_goes moment c starts fits
change_goes moment c (Change.Book advance) fits = goes_on c _ refl refl
change_goes moment c (Change.Unbook numbers) fits = goes_on c _ refl refl

pub entry_goes : (c : Cluster) (entry : Entry) → Fits c entry.moment entry.change → Goes c (after_entry c entry)
unfolding after_entry
entry_goes c entry fits =
    let after = change_goes entry.moment c entry.change fits in record { stays = after.stays; grows = after.grows; in_range = after.in_range }
