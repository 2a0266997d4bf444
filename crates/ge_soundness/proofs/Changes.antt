-- Every kind of change keeps a sound cluster sound, and its jobs in order.
use Rattle.std.proofs.Common.{◌≡◌, ℕ, ◌+◌, ◌≤◌, Bool, true, false, if◌then◌else◌, List, [], ◌∷◌, ◌++◌, length, fold, Option, Some, None, refl, sym, subst, ◌∙◌, arith}
use Rattle.std.specs.Prelude.{IsTrue, IfSome}
use Rattle.std.specs.BTreeMap.{is_at}
use Rattle.std.specs.Ordering.{nat_cmp}
use Rattle.ge_collections.specs.Keyed.{at_number, put_number}
use Rattle.ge_model_rows.specs.ClusterRows.{Cluster}
use Rattle.ge_model_rows.specs.EntryRows.{Change, Item, ObjectKind, Patch}
use Rattle.ge_model_rows.specs.JobRows.{Job, Running}
use Rattle.ge_model_rows.specs.ScheduleRows.{Start}
use Rattle.ge_model_rows.specs.TaskRows.{TaskId, TaskSpan}
use Rattle.ge_model_jobs.specs.Soundness.{IsSound, IsBooked, has_advance}
use Rattle.ge_soundness.proofs.Opening.{jobs_are_sound, sound_from_jobs, job_added}
use Rattle.ge_soundness.proofs.Lists.{all_put}
use Rattle.ge_soundness.proofs.Starts.{AreNumbered}
use Rattle.ge_soundness.proofs.Starts.{AreSound, serial_past_all}
use Rattle.ge_model_jobs.specs.declared.After.{After}
use Rattle.ge_model_jobs.specs.Serials.{running_with}
use Rattle.ge_model_jobs.specs.Picks.{joined_picks}
use Rattle.ge_model_jobs.specs.Altering.{change_job, patched, alter_job, held, freed, number_after}
use Rattle.ge_model_jobs.specs.Starting.{start_task, serial_past, started as started_jobs}
use Rattle.ge_model_jobs.specs.Ending.{lose_tasks, without_ended, runs_in, ended, after_exit, end_task, with_end, without_picked, forced_lines, delete_from, cleared, clear_from}
use Rattle.ge_model_jobs.specs.Configuring.{with_item, without_item}
use Rattle.ge_model_jobs.specs.Applying.{after_entry, changes_in_full}
use Rattle.ge_model_jobs.specs.Orderly.{KeysFrom, IsOrderly, IsOrdered, AllOrderly}
use Rattle.ge_model_jobs.proofs.Keys.{at_has, put_rises}
use Rattle.ge_model_jobs.proofs.Places.{IsPick}
use Rattle.ge_model_jobs.proofs.Orderly.{put_orderly, item_jobs, dropped_jobs, AreJoined, picks_joined, IfOrderly, there_orderly}
use Rattle.ge_soundness.proofs.Brought.{Fits, IsNew}
use Rattle.ge_soundness.proofs.ChangesJobs.{Follows, follows_fields, cleared_follows, cleared_has, deleted_follows, exit_follows}
use Rattle.ge_soundness.proofs.ChangesTables.{AreKept, Stems, stems_same, stems_then, stems_orderly, stems_kept, changed_stems, lost_stems}
use Rattle.ge_soundness.proofs.ChangesStarts.{starts_kept}
use Rattle.ge_soundness.proofs.ChangesBookings.{AreIn, stems_in, run_booked, more_booked, fewer_booked, dropped_rise, left_rise, put_rise}

-- ---- a cluster and its jobs

-- a sound cluster's jobs, at a later moment
jobs_kept : (c : Cluster) (moment : ℕ) → c.last ≤ moment → IsSound c → IsOrdered c → AreKept c.next_job moment c.next_serial c.jobs
jobs_kept c moment later sound ordered = record { sound = jobs_are_sound c moment sound later; orderly = ordered.jobs; keys = ordered.numbers }

-- a cluster whose jobs and advance reservations are sound and stand in order
cluster_kept : (c : Cluster) → 1 ≤ c.next_serial → AreKept c.next_job c.last c.next_serial c.jobs → IsBooked c → KeysFrom 0 c.advances → IsSound c × IsOrdered c
cluster_kept c next jobs booked keys = (sound_from_jobs c next jobs.sound booked, record { numbers = jobs.keys; jobs = jobs.orderly; advances = keys })

-- a cluster whose jobs stem from those of another one, with the same next numbers and serial and the same advance reservations
pub record Comes (c after : Cluster) : Type 0 where
  pub next_job : after.next_job ≡ c.next_job
  pub next_serial : after.next_serial ≡ c.next_serial
  pub next_advance : after.next_advance ≡ c.next_advance
  pub advances : after.advances ≡ c.advances
  pub jobs : Stems c.jobs after.jobs

-- it is sound where the other one is
comes_kept : (c after : Cluster) (moment : ℕ) → c.last ≤ moment → Comes c after → IsSound c → IsOrdered c → IsSound (record after { last = moment }) × IsOrdered (record after { last = moment })
comes_kept c after moment later comes sound ordered =
    cluster_kept (record after { last = moment }) (rw comes.next_serial sound.next)
    (rw (comes.next_job, comes.next_serial) (stems_kept c.next_job moment c.next_serial comes.jobs (jobs_kept c moment later sound ordered)))
    (record {
      next = rw comes.next_advance sound.booked.next;
      advances = rw (comes.next_advance, comes.advances) sound.booked.advances;
      jobs = rw comes.advances (stems_in c.advances comes.jobs sound.booked.jobs);
    })
    (rw comes.advances ordered.advances)

-- nothing changes
comes_same : (c : Cluster) → AllOrderly c.jobs → Comes c c
comes_same c all = record { next_job = refl; next_serial = refl; next_advance = refl; advances = refl; jobs = stems_same c.jobs all }

-- one change after the other
comes_then : {first second third : Cluster} → Comes first second → Comes second third → Comes first third
comes_then p q = record {
  next_job = q.next_job ∙ p.next_job;
  next_serial = q.next_serial ∙ p.next_serial;
  next_advance = q.next_advance ∙ p.next_advance;
  advances = q.advances ∙ p.advances;
  jobs = stems_then p.jobs q.jobs;
}

-- ---- what is configured

-- the next numbers, the next serial and the advance reservations stay
record Stays (c after : Cluster) : Type 0 where
  next_job : after.next_job ≡ c.next_job
  next_serial : after.next_serial ≡ c.next_serial
  next_advance : after.next_advance ≡ c.next_advance
  advances : after.advances ≡ c.advances

stays_comes : (c after : Cluster) → Stays c after → Stems c.jobs after.jobs → Comes c after
stays_comes c after stays jobs = record { next_job = stays.next_job; next_serial = stays.next_serial; next_advance = stays.next_advance; advances = stays.advances; jobs = jobs }

item_next : (moment : ℕ) (c : Cluster) (object : Item) → Stays c (with_item moment c object)
unfolding with_item
item_next moment c (Item.Complexes rows) = record { next_job = refl; next_serial = refl; next_advance = refl; advances = refl }
item_next moment c _ = record { next_job = refl; next_serial = refl; next_advance = refl; advances = refl }

dropped_next : (c : Cluster) (sort : ObjectKind) (name : List ℕ) → Stays c (without_item c sort name)
unfolding without_item
dropped_next c ObjectKind.Complexes name = record { next_job = refl; next_serial = refl; next_advance = refl; advances = refl }
dropped_next c _ name = record { next_job = refl; next_serial = refl; next_advance = refl; advances = refl }

-- an object is put, or removed
item_comes : (moment : ℕ) (c : Cluster) (object : Item) → AllOrderly c.jobs → Comes c (with_item moment c object)
item_comes moment c object all = stays_comes c _ (item_next moment c object) (subst (Stems c.jobs) (sym (item_jobs moment c object)) (stems_same c.jobs all))

dropped_comes : (c : Cluster) (sort : ObjectKind) (name : List ℕ) → AllOrderly c.jobs → Comes c (without_item c sort name)
dropped_comes c sort name all = stays_comes c _ (dropped_next c sort name) (subst (Stems c.jobs) (sym (dropped_jobs c sort name)) (stems_same c.jobs all))

-- ---- jobs altered, held and released

-- changes one after the other, each of which leaves jobs that follow
folded_stems : {A : Type 0} (step : List (ℕ × Job) → A → List (ℕ × Job)) → ((jobs : List (ℕ × Job)) (one : A) → AllOrderly jobs → Stems jobs (step jobs one))
    → (items : List A) (jobs : List (ℕ × Job)) → AllOrderly jobs → Stems jobs (fold step jobs items)
folded_stems step stems [] jobs all = stems_same jobs all
folded_stems step stems (one ∷ items) jobs all = let first = stems jobs one all in stems_then first (folded_stems step stems items (step jobs one) (stems_orderly first))

-- qalter
altered_stems : (altered : List (ℕ × Patch)) (jobs : List (ℕ × Job)) → AllOrderly jobs → Stems jobs (fold alter_job jobs altered)
altered_stems = folded_stems alter_job
    (λ jobs one all. changed_stems (is_at (nat_cmp one.0)) (patched one.1) (λ number job orderly. (follows_fields job (patched one.1 job) refl refl refl refl refl refl orderly, λ has. has)) jobs all)

-- qhold
held_stems : (bits : ℕ) (numbers : List ℕ) (jobs : List (ℕ × Job)) → AllOrderly jobs → Stems jobs (fold (change_job (held bits)) jobs numbers)
held_stems bits = folded_stems (change_job (held bits))
    (λ jobs n all. changed_stems (is_at (nat_cmp n)) (held bits) (λ number job orderly. (follows_fields job (held bits job) refl refl refl refl refl refl orderly, λ has. has)) jobs all)

-- qrls
freed_stems : (bits : ℕ) (numbers : List ℕ) (jobs : List (ℕ × Job)) → AllOrderly jobs → Stems jobs (fold (change_job (freed bits)) jobs numbers)
freed_stems bits = folded_stems (change_job (freed bits))
    (λ jobs n all. changed_stems (is_at (nat_cmp n)) (freed bits) (λ number job orderly. (follows_fields job (freed bits job) refl refl refl refl refl refl orderly, λ has. has)) jobs all)

-- ---- tasks cleared, deleted and ended

-- tasks in error wait again
cleared_stems : (rows : List (ℕ × Option (List TaskSpan))) (jobs : List (ℕ × Job)) → AreJoined rows → AllOrderly jobs → Stems jobs (fold clear_from jobs rows)
cleared_stems [] jobs fit all = stems_same jobs all
cleared_stems (named ∷ rows) jobs fit all = stems_then first (cleared_stems rows (clear_from jobs named) fit.1 (stems_orderly first))
  where
    first : Stems jobs (clear_from jobs named)
    first = changed_stems (is_at (nat_cmp named.0)) (cleared named.1)
        (λ number job one. (cleared_follows named.1 job fit.0 one, cleared_has number named.1 job fit.0 one)) jobs all

-- a change of one job that each job follows, where the job is there
some_follows : (change : Job → Job) → ((job : Job) → IsOrderly job → Follows job (change job)) → (found : Option Job) → IfOrderly found → IfSome found (λ job. Follows job (change job))
some_follows change follows None is = tt
some_follows change follows (Some job) is = follows job is

-- tasks of one job are deleted
delete_comes : (moment : ℕ) (force : Bool) (c : Cluster) (named : ℕ × Option (List TaskSpan)) → IsPick named.1 → AllOrderly c.jobs → Comes c (delete_from moment force c named)
delete_comes moment force c named fit all = by (at_number c.jobs named.0)
  where
    by : (found : Option Job)
        → Comes c (elim found as (λ x. Cluster) [
          | None ↦ c
          | Some job ↦ record c {
            jobs = lose_tasks (without_picked force named.1) c.jobs named.0;
            lines = c.lines ++ forced_lines moment force named.0 job named.1;
          }
        ])
    by None = comes_same c all
    by (Some job) = record {
      next_job = refl;
      next_serial = refl;
      next_advance = refl;
      advances = refl;
      jobs = lost_stems (without_picked force named.1) named.0 c.jobs
          (some_follows (without_picked force named.1) (λ job one. deleted_follows force named.1 job fit one) (at_number c.jobs named.0) (there_orderly c.jobs named.0 all)) all;
    }

-- tasks are deleted, job by job
deleted_comes : (moment : ℕ) (force : Bool) (rows : List (ℕ × Option (List TaskSpan))) (c : Cluster) → AreJoined rows → AllOrderly c.jobs → Comes c (fold (delete_from moment force) c rows)
deleted_comes moment force [] c fit all = comes_same c all
deleted_comes moment force (named ∷ rows) c fit all =
    let first = delete_comes moment force c named fit.0 all in
    comes_then first (deleted_comes moment force rows (delete_from moment force c named) fit.1 (stems_orderly first.jobs))

-- a task of a table ends
end_stems : (jobs : List (ℕ × Job)) (id : TaskId) (end : After) → AllOrderly jobs → Stems jobs (ended jobs id end)
end_stems jobs id end all = by (runs_in (at_number jobs id.job) id.task) refl
  where
    there : (found : Option Job) → IfOrderly found → runs_in found id.task ≡ true → IfSome found (λ job. Follows job (without_ended end id.task job))
    there None one runs = tt
    there (Some job) one runs = exit_follows end id.task job (sym (at_has id.task job.running) ∙ runs) one

    by : (runs : Bool) → runs_in (at_number jobs id.job) id.task ≡ runs → Stems jobs (if runs then lose_tasks (without_ended end id.task) jobs id.job else jobs)
    by true runs = lost_stems (without_ended end id.task) id.job jobs (there (at_number jobs id.job) (there_orderly jobs id.job all) runs) all
    by false runs = stems_same jobs all

-- the task of a serial ends
ended_comes : (moment : ℕ) (c : Cluster) (serial exit cpu mem io : ℕ) → AllOrderly c.jobs → Comes c (with_end moment c serial exit cpu mem io)
unfolding with_end
ended_comes moment c serial exit cpu mem io all = by (running_with c.jobs serial)
  where
    by : (found : Option (ℕ × Job × ℕ × Running))
        → Comes c (elim found as (λ x. Cluster) [
          | None ↦ c
          | Some found ↦ end_task moment c found.0 found.1 found.2 found.3 (record { failed = 0; exit = exit; cpu = cpu; mem = mem; io = io })
        ])
    by None = comes_same c all
    by (Some found) = record {
      next_job = refl;
      next_serial = refl;
      next_advance = refl;
      advances = refl;
      jobs = end_stems c.jobs (record { job = found.0; task = found.2 }) (after_exit exit found.3) all;
    }

-- ---- jobs submitted and started

-- a job is submitted
submitted_kept : (c : Cluster) (moment : ℕ) (job : Job) → c.last ≤ moment → IsNew c moment job → IsSound c → IsOrdered c
    → AreKept (number_after job.number) moment c.next_serial (put_number c.jobs job.number job)
submitted_kept c moment job later new sound ordered =
    let next : job.number + 1 ≡ number_after job.number = omega (arith, new.number, new.in_range) in
    let before : AreSound job.number moment c.next_serial c.jobs = rw new.number (jobs_are_sound c moment sound later) in
    record {
      sound = subst (λ n. AreSound n moment c.next_serial (put_number c.jobs job.number job)) next
          (job_added job.number moment c.next_serial job c.jobs before new.tasks new.spans new.orderly.places new.idle new.submitted);
      orderly = put_orderly c.jobs job.number job new.orderly ordered.jobs;
      keys = put_rises 0 job.number c.jobs job (omega arith) ordered.numbers;
    }

-- tasks start
run_kept : (c : Cluster) (moment : ℕ) (starts : List Start) → c.last ≤ moment → AreNumbered c.next_serial starts → IsSound c → IsOrdered c
    → (1 ≤ serial_past c.next_serial starts) × AreKept c.next_job moment (serial_past c.next_serial starts) (fold (start_task moment) c.jobs starts)
run_kept c moment starts later numbered sound ordered =
    let past : serial_past c.next_serial starts ≡ c.next_serial + length starts = serial_past_all starts c.next_serial numbered.follow numbered.in_range in
    let jobs = starts_kept c.next_job moment starts c.next_serial c.jobs sound.next numbered.follow (jobs_kept c moment later sound ordered) in
    (omega (arith, past, sound.next), subst (λ n. AreKept c.next_job moment n (fold (start_task moment) c.jobs starts)) (sym past) jobs)

-- the job that is submitted joined no advance reservation, or one that is there
joined_put : (c : Cluster) (job : Job) → {moment : ℕ} → IsNew c moment job → IsSound c → AreIn c.advances (put_number c.jobs job.number job)
joined_put c job new sound = all_put (λ job. IsTrue (has_advance c.advances job)) job.number job (λ key. new.joined) c.jobs sound.booked.jobs

-- ---- an entry

-- a sound cluster is sound after each entry whose change brings what it must, and its jobs stay in order
pub kept : (c : Cluster) (moment : ℕ) (what : Change) → c.last ≤ moment → Fits c moment what → IsSound c → IsOrdered c
    → IsSound (after_entry c (record { moment = moment; change = what })) × IsOrdered (after_entry c (record { moment = moment; change = what }))
unfolding changes_in_full
kept c moment (Change.Submit job) later fits sound ordered =
    cluster_kept _ sound.next (submitted_kept c moment job later fits sound ordered) (record { next = sound.booked.next; advances = sound.booked.advances; jobs = joined_put c job fits sound }) ordered.advances
kept c moment (Change.Alter altered) later fits sound ordered =
    comes_kept c (record c { jobs = fold alter_job c.jobs altered }) moment later (record { next_job = refl; next_serial = refl; next_advance = refl; advances = refl; jobs = altered_stems altered c.jobs ordered.jobs }) sound ordered
kept c moment (Change.Hold numbers bits) later fits sound ordered =
    comes_kept c (record c { jobs = fold (change_job (held bits)) c.jobs numbers }) moment later (record { next_job = refl; next_serial = refl; next_advance = refl; advances = refl; jobs = held_stems bits numbers c.jobs ordered.jobs }) sound ordered
kept c moment (Change.Release numbers bits) later fits sound ordered =
    comes_kept c (record c { jobs = fold (change_job (freed bits)) c.jobs numbers }) moment later (record { next_job = refl; next_serial = refl; next_advance = refl; advances = refl; jobs = freed_stems bits numbers c.jobs ordered.jobs }) sound ordered
kept c moment (Change.Delete picks force) later fits sound ordered =
    comes_kept c _ moment later (deleted_comes moment force (joined_picks picks) c (picks_joined picks fits) ordered.jobs) sound ordered
kept c moment (Change.Clear picks) later fits sound ordered =
    comes_kept c (record c { jobs = fold clear_from c.jobs (joined_picks picks) }) moment later (record { next_job = refl; next_serial = refl; next_advance = refl; advances = refl; jobs = cleared_stems (joined_picks picks) c.jobs (picks_joined picks fits) ordered.jobs }) sound ordered
kept c moment (Change.Put object) later fits sound ordered = comes_kept c _ moment later (item_comes moment c object ordered.jobs) sound ordered
kept c moment (Change.Drop key) later fits sound ordered = comes_kept c _ moment later (dropped_comes c key.kind key.name ordered.jobs) sound ordered
kept c moment (Change.Load host report) later fits sound ordered = cluster_kept _ sound.next (jobs_kept c moment later sound ordered) (record { next = sound.booked.next; advances = sound.booked.advances; jobs = sound.booked.jobs }) ordered.advances
kept c moment (Change.End serial exit cpu mem io) later fits sound ordered =
    comes_kept c _ moment later (ended_comes moment c serial exit cpu mem io ordered.jobs) sound ordered
kept c moment (Change.Run starts) later fits sound ordered =
    let run = run_kept c moment starts later fits sound ordered in
    cluster_kept _ run.0 run.1 (run_booked c sound.booked moment starts _ refl refl refl) (left_rise moment (started_jobs moment c starts) c.advances ordered.advances)
kept c moment (Change.Book advance) later fits sound ordered =
    cluster_kept _ sound.next (jobs_kept c moment later sound ordered) (more_booked c sound.booked advance _ fits.0 refl refl refl) (put_rise c.next_advance advance c.advances ordered.advances)
kept c moment (Change.Unbook numbers) later fits sound ordered =
    cluster_kept _ sound.next (jobs_kept c moment later sound ordered) (fewer_booked c sound.booked numbers _ ordered.advances fits refl refl refl) (dropped_rise numbers c.advances ordered.advances)
