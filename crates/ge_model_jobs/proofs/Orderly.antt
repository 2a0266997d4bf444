-- An entry leaves all jobs orderly: their sets in the form, their running tasks by number, each task in one place.
use Rattle.std.proofs.Common.{◌≡◌, ℕ, ◌≤◌, ◌==◌, Bool, true, false, cond, if◌then◌else◌, List, [], ◌∷◌, ◌++◌, fold, Option, Some, None, refl, sym, subst, ◌∙◌, arith, nat_cmp, Ordering, Less, Equal, Greater}
use Rattle.std.specs.Prelude.{IfSome}
use Rattle.std.specs.BTreeMap.{is_at}
use Rattle.std.specs.Ordering.{is_eq, match_ordering}
use Rattle.ge_collections.specs.Changed.{change_value}
use Rattle.ge_collections.specs.Keyed.{at_number, put_number, drop_number}
use Rattle.ge_model_rows.specs.ClusterRows.{Cluster}
use Rattle.ge_model_rows.specs.EntryRows.{Change, Item, ObjectKind, Pick, Patch}
use Rattle.ge_model_rows.specs.JobRows.{Job, Running}
use Rattle.ge_model_rows.specs.ScheduleRows.{Start}
use Rattle.ge_model_rows.specs.TaskRows.{TaskId, TaskSpan}
use Rattle.ge_model_rows.proofs.Together.{union_form}
use Rattle.ge_model_jobs.specs.declared.After.{After}
use Rattle.ge_model_jobs.specs.declared.After.TheVariants as after
use Rattle.ge_model_jobs.specs.Serials.{running_with}
pub use Rattle.ge_model_jobs.specs.Picks.{ArePicks}
use Rattle.ge_model_jobs.specs.Picks.{both_named, with_named, join_pick, joined_picks}
use Rattle.ge_model_jobs.specs.Altering.{change_job, patched, alter_job, held, freed}
use Rattle.ge_model_jobs.specs.Starting.{with_start, start_task}
use Rattle.ge_model_jobs.specs.Ending.{has_no_task, lose_tasks, gone, again, moved, without_ended, runs_in, ended, after_exit, end_task, with_end, without_picked, forced_lines, delete_from, cleared, clear_from}
use Rattle.ge_model_jobs.specs.Configuring.{with_item, without_item}
use Rattle.ge_model_jobs.specs.Applying.{after_entry, changes_in_full}
use Rattle.ge_model_jobs.specs.Orderly.{has_key, IsOrderly, AllOrderly}
use Rattle.ge_model_jobs.proofs.Keys.{at_has}
use Rattle.ge_model_jobs.proofs.Places.{IsPick, start_keeps, gone_keeps, again_keeps, in_error_keeps, deleted_keeps, cleared_keeps}

-- ---- tables of jobs

pub changed_orderly : (test : ℕ → Bool) (change : Job → Job) → ((job : Job) → IsOrderly job → IsOrderly (change job)) → (jobs : List (ℕ × Job)) → AllOrderly jobs
    → AllOrderly (change_value test change jobs)
changed_orderly test change keeps [] all = tt
changed_orderly test change keeps (row ∷ rows) (one, all) = by (test row.0) (changed_orderly test change keeps rows all)
  where
    by : (here : Bool) → AllOrderly (change_value test change rows) → AllOrderly (cond here ((row.0, change row.1) ∷ rows) (row ∷ change_value test change rows))
    by true again = (keeps row.1 one, all)
    by false again = (one, again)

pub put_orderly : (jobs : List (ℕ × Job)) (number : ℕ) (job : Job) → IsOrderly job → AllOrderly jobs → AllOrderly (put_number jobs number job)
put_orderly [] number job one all = (one, tt)
put_orderly (row ∷ rows) number job one (first, all) = by (nat_cmp number row.0) (put_orderly rows number job one all)
  where
    by : (order : Ordering) → AllOrderly (put_number rows number job)
        → AllOrderly (match_ordering order ((number, job) ∷ row ∷ rows) ((row.0, job) ∷ rows) (row ∷ put_number rows number job))
    by Less again = (one, (first, all))
    by Equal again = (one, all)
    by Greater again = (first, again)

drop_orderly : (jobs : List (ℕ × Job)) (number : ℕ) → AllOrderly jobs → AllOrderly (drop_number jobs number)
drop_orderly [] number all = tt
drop_orderly (row ∷ rows) number (first, all) = by (nat_cmp number row.0) (drop_orderly rows number all)
  where
    by : (order : Ordering) → AllOrderly (drop_number rows number) → AllOrderly (cond (is_eq order) rows (row ∷ drop_number rows number))
    by Less again = (first, again)
    by Equal again = all
    by Greater again = (first, again)

-- the job under a number, if it is there, is changed
at_orderly : (change : Job → Job) (number : ℕ) (jobs : List (ℕ × Job)) → IfSome (at_number jobs number) (λ job. IsOrderly (change job)) → AllOrderly jobs → AllOrderly (change_job change jobs number)
at_orderly change number [] is all = tt
at_orderly change number (row ∷ rows) is (first, all) = by (is_at (nat_cmp number) row.0) (λ later. at_orderly change number rows later all) is
  where
    by : (here : Bool) → (IfSome (at_number rows number) (λ job. IsOrderly (change job)) → AllOrderly (change_job change rows number))
        → IfSome (cond here (Some row.1) (at_number rows number)) (λ job. IsOrderly (change job)) → AllOrderly (cond here ((row.0, change row.1) ∷ rows) (row ∷ change_job change rows number))
    by true again is = (is, all)
    by false again is = (first, again is)

lost_orderly : (change : Job → Job) (number : ℕ) (jobs : List (ℕ × Job)) → IfSome (at_number jobs number) (λ job. IsOrderly (change job)) → AllOrderly jobs → AllOrderly (lose_tasks change jobs number)
lost_orderly change number jobs is all = by (at_number jobs number)
  where
    left : (none : Bool) → AllOrderly (if none then drop_number jobs number else change_job change jobs number)
    left true = drop_orderly jobs number all
    left false = at_orderly change number jobs is all

    by : (found : Option Job) → AllOrderly (elim found as (λ x. List (ℕ × Job)) [ None ↦ jobs | Some job ↦ if has_no_task (change job) then drop_number jobs number else change_job change jobs number ])
    by None = all
    by (Some job) = left (has_no_task (change job))

-- a job of a table, if it is there
abbrev pub IfOrderly : Option Job → Type 0
IfOrderly None = Unit {0}
IfOrderly (Some job) = IsOrderly job

pub there_orderly : (jobs : List (ℕ × Job)) (number : ℕ) → AllOrderly jobs → IfOrderly (at_number jobs number)
there_orderly [] number all = tt
there_orderly (row ∷ rows) number (first, all) = by (is_at (nat_cmp number) row.0) (there_orderly rows number all)
  where
    by : (here : Bool) → IfOrderly (at_number rows number) → IfOrderly (cond here (Some row.1) (at_number rows number))
    by true again = first
    by false again = again

-- ---- jobs submitted, altered, held, released and started

pub same_places : (job new : Job) → new.queued ≡ job.queued → new.broken ≡ job.broken → new.running ≡ job.running → IsOrderly job → IsOrderly new
same_places job new p q r one = record {
  waiting = rw p one.waiting;
  broken = rw q one.broken;
  keys = rw r one.keys;
  places = λ t. rw (p, q, r) (one.places t);
}

altered_orderly : (jobs : List (ℕ × Job)) (altered : List (ℕ × Patch)) → AllOrderly jobs → AllOrderly (fold alter_job jobs altered)
altered_orderly jobs [] all = all
altered_orderly jobs (one ∷ altered) all =
    altered_orderly (alter_job jobs one) altered (changed_orderly (is_at (nat_cmp one.0)) (patched one.1) (λ job. same_places job (patched one.1 job) refl refl refl) jobs all)

held_orderly : (jobs : List (ℕ × Job)) (numbers : List ℕ) (bits : ℕ) → AllOrderly jobs → AllOrderly (fold (change_job (held bits)) jobs numbers)
held_orderly jobs [] bits all = all
held_orderly jobs (n ∷ numbers) bits all =
    held_orderly (change_job (held bits) jobs n) numbers bits (changed_orderly (is_at (nat_cmp n)) (held bits) (λ job. same_places job (held bits job) refl refl refl) jobs all)

freed_orderly : (jobs : List (ℕ × Job)) (numbers : List ℕ) (bits : ℕ) → AllOrderly jobs → AllOrderly (fold (change_job (freed bits)) jobs numbers)
freed_orderly jobs [] bits all = all
freed_orderly jobs (n ∷ numbers) bits all =
    freed_orderly (change_job (freed bits) jobs n) numbers bits (changed_orderly (is_at (nat_cmp n)) (freed bits) (λ job. same_places job (freed bits job) refl refl refl) jobs all)

started_orderly : (moment : ℕ) (jobs : List (ℕ × Job)) (starts : List Start) → AllOrderly jobs → AllOrderly (fold (start_task moment) jobs starts)
started_orderly moment jobs [] all = all
started_orderly moment jobs (start ∷ starts) all =
    started_orderly moment (start_task moment jobs start) starts
    (changed_orderly (is_at (nat_cmp start.task.job)) (with_start moment start) (λ job one. (start_keeps moment start job one).0) jobs all)

-- ---- tasks deleted and cleared

pub both_fit : (first tasks : Option (List TaskSpan)) → IsPick first → IsPick tasks → IsPick (both_named first tasks)
both_fit None tasks one two = tt
both_fit (Some first) None one two = tt
both_fit (Some first) (Some tasks) one two = union_form first tasks one two

-- so are those of picks that are joined
abbrev pub AreJoined : List (ℕ × Option (List TaskSpan)) → Type 0
AreJoined [] = Unit {0}
AreJoined (named ∷ rows) = IsPick named.1 × AreJoined rows

abbrev pub IfJoined : Option (Option (List TaskSpan)) → Type 0
IfJoined None = Unit {0}
IfJoined (Some tasks) = IsPick tasks

pub there_joined : (rows : List (ℕ × Option (List TaskSpan))) (number : ℕ) → AreJoined rows → IfJoined (at_number rows number)
there_joined [] number all = tt
there_joined (row ∷ rows) number (first, all) = by (is_at (nat_cmp number) row.0) (there_joined rows number all)
  where
    by : (here : Bool) → IfJoined (at_number rows number) → IfJoined (cond here (Some row.1) (at_number rows number))
    by true again = first
    by false again = again

pub put_joined : (rows : List (ℕ × Option (List TaskSpan))) (number : ℕ) (tasks : Option (List TaskSpan)) → IsPick tasks → AreJoined rows → AreJoined (put_number rows number tasks)
put_joined [] number tasks one all = (one, tt)
put_joined (row ∷ rows) number tasks one (first, all) = by (nat_cmp number row.0) (put_joined rows number tasks one all)
  where
    by : (order : Ordering) → AreJoined (put_number rows number tasks)
        → AreJoined (match_ordering order ((number, tasks) ∷ row ∷ rows) ((row.0, tasks) ∷ rows) (row ∷ put_number rows number tasks))
    by Less again = (one, (first, all))
    by Equal again = (one, all)
    by Greater again = (first, again)

pub with_fit : (found : Option (Option (List TaskSpan))) (tasks : Option (List TaskSpan)) → IfJoined found → IsPick tasks → IsPick (with_named found tasks)
with_fit None tasks one fit = fit
with_fit (Some so_far) tasks one fit = both_fit so_far tasks one fit

more_joined : (rows : List (ℕ × Option (List TaskSpan))) (picks : List Pick) → ArePicks picks → AreJoined rows → AreJoined (fold join_pick rows picks)
more_joined rows [] fit all = all
more_joined rows (pick ∷ picks) (first, fit) all =
    more_joined (join_pick rows pick) picks fit (put_joined rows pick.job _ (with_fit (at_number rows pick.job) pick.tasks (there_joined rows pick.job all) first) all)

pub picks_joined : (picks : List Pick) → ArePicks picks → AreJoined (joined_picks picks)
picks_joined picks fit = more_joined [] picks fit tt

-- a change of one job that keeps orderly ones so, where the job is there
some_orderly : (change : Job → Job) → ((job : Job) → IsOrderly job → IsOrderly (change job)) → (found : Option Job) → IfOrderly found → IfSome found (λ job. IsOrderly (change job))
some_orderly change keeps None is = tt
some_orderly change keeps (Some job) is = keeps job is

delete_orderly : (moment : ℕ) (force : Bool) (c : Cluster) (named : ℕ × Option (List TaskSpan)) → IsPick named.1 → AllOrderly c.jobs → AllOrderly (delete_from moment force c named).jobs
delete_orderly moment force c named fit all = by (at_number c.jobs named.0)
  where
    by : (found : Option Job)
        → AllOrderly (elim found as (λ x. Cluster) [
          | None ↦ c
          | Some job ↦ record c {
            jobs = lose_tasks (without_picked force named.1) c.jobs named.0;
            lines = c.lines ++ forced_lines moment force named.0 job named.1;
          }
        ]).jobs
    by None = all
    by (Some job) =
        lost_orderly (without_picked force named.1) named.0 c.jobs
        (some_orderly (without_picked force named.1) (λ job one. (deleted_keeps force named.1 job fit one).0) (at_number c.jobs named.0) (there_orderly c.jobs named.0 all)) all

deleted_orderly : (moment : ℕ) (force : Bool) (c : Cluster) (rows : List (ℕ × Option (List TaskSpan))) → AreJoined rows → AllOrderly c.jobs
    → AllOrderly (fold (delete_from moment force) c rows).jobs
deleted_orderly moment force c [] fit all = all
deleted_orderly moment force c (named ∷ rows) (first, fit) all =
    deleted_orderly moment force (delete_from moment force c named) rows fit (delete_orderly moment force c named first all)

cleared_orderly : (jobs : List (ℕ × Job)) (rows : List (ℕ × Option (List TaskSpan))) → AreJoined rows → AllOrderly jobs → AllOrderly (fold clear_from jobs rows)
cleared_orderly jobs [] fit all = all
cleared_orderly jobs (named ∷ rows) (first, fit) all =
    cleared_orderly (clear_from jobs named) rows fit
    (changed_orderly (is_at (nat_cmp named.0)) (cleared named.1) (λ job one. (cleared_keeps named.1 job first one).0) jobs all)

-- ---- tasks that end

exit_orderly : (end : After) (task : ℕ) (job : Job) → has_key task job.running ≡ true → IsOrderly job → IsOrderly (without_ended end task job)
exit_orderly end task job runs one = by (task == 0) at_least end
  where
    at_least : (task == 0) ≡ false → 1 ≤ task
    at_least h = grind arith

    by : (none : Bool) → (none ≡ false → 1 ≤ task) → (end : After) → IsOrderly (if none then gone task job else moved end task job)
    by true h end = (gone_keeps task job one).0
    by false h after.Gone = (gone_keeps task job one).0
    by false h after.Again = (again_keeps task job (h refl) runs one).0
    by false h after.Broken = (in_error_keeps task job (h refl) runs one).0

-- a task of a table ends
end_orderly : (jobs : List (ℕ × Job)) (id : TaskId) (after : After) → AllOrderly jobs → AllOrderly (ended jobs id after)
end_orderly jobs id after all = by (runs_in (at_number jobs id.job) id.task) refl
  where
    there : (found : Option Job) → IfOrderly found → runs_in found id.task ≡ true → IfSome found (λ job. IsOrderly (without_ended after id.task job))
    there None one runs = tt
    there (Some job) one runs = exit_orderly after id.task job (sym (at_has id.task job.running) ∙ runs) one

    by : (runs : Bool) → runs_in (at_number jobs id.job) id.task ≡ runs → AllOrderly (if runs then lose_tasks (without_ended after id.task) jobs id.job else jobs)
    by true runs = lost_orderly (without_ended after id.task) id.job jobs (there (at_number jobs id.job) (there_orderly jobs id.job all) runs) all
    by false runs = all

ended_orderly : (moment : ℕ) (c : Cluster) (serial exit cpu mem io : ℕ) → AllOrderly c.jobs → AllOrderly (with_end moment c serial exit cpu mem io).jobs
unfolding with_end
ended_orderly moment c serial exit cpu mem io all = by (running_with c.jobs serial)
  where
    by : (found : Option (ℕ × Job × ℕ × Running))
        → AllOrderly (elim found as (λ x. Cluster) [
          | None ↦ c
          | Some found ↦ end_task moment c found.0 found.1 found.2 found.3 (record { failed = 0; exit = exit; cpu = cpu; mem = mem; io = io })
        ]).jobs
    by None = all
    by (Some found) = end_orderly c.jobs (record { job = found.0; task = found.2 }) (after_exit exit found.3) all

-- ---- what is configured

pub item_jobs : (moment : ℕ) (c : Cluster) (object : Item) → (with_item moment c object).jobs ≡ c.jobs
unfolding with_item
item_jobs moment c (Item.Complexes rows) = refl
item_jobs moment c _ = refl

pub dropped_jobs : (c : Cluster) (sort : ObjectKind) (name : List ℕ) → (without_item c sort name).jobs ≡ c.jobs
unfolding without_item
dropped_jobs c ObjectKind.Complexes name = refl
dropped_jobs c _ name = refl

-- ---- an entry

-- what a change brings is in the form
abbrev pub Brings : Change → Type 0
Brings (Change.Submit job) = IsOrderly job
Brings (Change.Delete picks force) = ArePicks picks
Brings (Change.Clear picks) = ArePicks picks
Brings other = Unit {0}

-- after an entry all jobs are orderly
pub orderly_after : (c : Cluster) (moment : ℕ) (what : Change) → Brings what → AllOrderly c.jobs → AllOrderly (after_entry c (record { moment = moment; change = what })).jobs
unfolding changes_in_full
orderly_after c moment (Change.Submit job) brings all = put_orderly c.jobs job.number job brings all
orderly_after c moment (Change.Alter altered) brings all = altered_orderly c.jobs altered all
orderly_after c moment (Change.Hold numbers bits) brings all = held_orderly c.jobs numbers bits all
orderly_after c moment (Change.Release numbers bits) brings all = freed_orderly c.jobs numbers bits all
orderly_after c moment (Change.Delete picks force) brings all = deleted_orderly moment force c (joined_picks picks) (picks_joined picks brings) all
orderly_after c moment (Change.Clear picks) brings all = cleared_orderly c.jobs (joined_picks picks) (picks_joined picks brings) all
orderly_after c moment (Change.Put object) brings all = subst AllOrderly (sym (item_jobs moment c object)) all
orderly_after c moment (Change.Drop key) brings all = subst AllOrderly (sym (dropped_jobs c key.kind key.name)) all
orderly_after c moment (Change.Load host report) brings all = all
orderly_after c moment (Change.End serial exit cpu mem io) brings all = ended_orderly moment c serial exit cpu mem io all
orderly_after c moment (Change.Run starts) brings all = started_orderly moment c.jobs starts all
orderly_after c moment (Change.Book advance) brings all = all
orderly_after c moment (Change.Unbook numbers) brings all = all
