-- Tables of jobs before and after a change: each job that stays follows the one under its number, others are gone.
use Rattle.std.proofs.Common.{◌≡◌, ℕ, ◌+◌, ◌≤◌, ◌<◌, Bool, true, false, cond, if◌then◌else◌, List, [], ◌∷◌, Option, Some, None, refl, sym, subst, arith, nat_cmp}
use Rattle.std.specs.Prelude.{IfSome}
use Rattle.std.specs.BTreeMap.{is_at}
use Rattle.std.specs.List.{AllByRecursion}
use Rattle.ge_collections.specs.Changed.{change_value}
use Rattle.ge_collections.specs.Keyed.{at_number, drop_number}
use Rattle.ge_model_rows.specs.JobRows.{Job}
use Rattle.ge_model_jobs.specs.Soundness.{HasTask, IsSpanned, IsParted, HasStarted, is_in_span, job_serials, serials_of}
use Rattle.ge_soundness.proofs.Starts.{AreSound}
use Rattle.ge_model_jobs.specs.Altering.{change_job}
use Rattle.ge_model_jobs.specs.Ending.{has_no_task, lose_tasks}
use Rattle.ge_model_jobs.specs.Orderly.{KeysFrom, IsOrderly, AllOrderly}
use Rattle.ge_model_jobs.proofs.Keys.{keys_lower}
use Rattle.ge_soundness.proofs.ChangesParts.{IsPart, part_append, part_behind, part_facts, part_distinct}
use Rattle.ge_soundness.proofs.ChangesJobs.{Follows, follows_same, follows_then, has_some}

-- jobs that are sound and stand in order
pub record AreKept (number moment serial : ℕ) (jobs : List (ℕ × Job)) : Type 0 where
  pub sound : AreSound number moment serial jobs
  pub orderly : AllOrderly jobs
  pub keys : KeysFrom 0 jobs

-- orderly jobs have each task in one place
pub all_parted : (jobs : List (ℕ × Job)) → AllOrderly jobs → AllByRecursion IsParted jobs
all_parted [] all = tt
all_parted (row ∷ rows) all = (all.0.places, all_parted rows all.1)

-- the second table is the first one, where jobs changed that have tasks still, and jobs are gone
pub data Stems : List (ℕ × Job) → List (ℕ × Job) → Type 0 where
  none : Stems [] []
  kept : {row : ℕ × Job} {new : Job} {rows more : List (ℕ × Job)} → Follows row.1 new → (HasTask row → HasTask (row.0, new)) → Stems rows more → Stems (row ∷ rows) ((row.0, new) ∷ more)
  gone : {row : ℕ × Job} {rows more : List (ℕ × Job)} → Stems rows more → Stems (row ∷ rows) more

-- nothing changes
pub stems_same : (jobs : List (ℕ × Job)) → AllOrderly jobs → Stems jobs jobs
stems_same [] all = none
stems_same (row ∷ rows) all = kept (follows_same row.1 all.0) (λ has. has) (stems_same rows all.1)

-- ---- what stays of a table

-- its jobs are orderly
pub stems_orderly : {rows more : List (ℕ × Job)} → Stems rows more → AllOrderly more
stems_orderly none = tt
stems_orderly (kept follows has stems) = (follows.orderly, stems_orderly stems)
stems_orderly (gone stems) = stems_orderly stems

-- one change after the other
pub stems_then : {first second third : List (ℕ × Job)} → Stems first second → Stems second third → Stems first third
stems_then none q = q
stems_then (kept f h p) (kept g i q) = kept (follows_then f g) (λ has. i (h has)) (stems_then p q)
stems_then (kept f h p) (gone q) = gone (stems_then p q)
stems_then (gone p) q = gone (stems_then p q)

-- its numbers rise
pub stems_keys : (low : ℕ) {rows more : List (ℕ × Job)} → Stems rows more → KeysFrom low rows → KeysFrom low more
stems_keys low none keys = tt
stems_keys low (kept {row = row} follows has stems) keys = (keys.0, stems_keys (row.0 + 1) stems keys.1)
stems_keys low (gone {row = row} {more = more} stems) keys = keys_lower low (row.0 + 1) more (omega (arith, keys.0)) (stems_keys (row.0 + 1) stems keys.1)

-- a fact of each job that a job which follows has too
pub stems_facts : (P : ℕ × Job → Type 0) → ((row : ℕ × Job) (new : Job) → Follows row.1 new → (HasTask row → HasTask (row.0, new)) → P row → P (row.0, new))
    → {rows more : List (ℕ × Job)} → Stems rows more → AllByRecursion P rows → AllByRecursion P more
stems_facts P step none a = tt
stems_facts P step (kept {row = row} {new = new} follows has stems) a = (step row new follows has a.0, stems_facts P step stems a.1)
stems_facts P step (gone stems) a = stems_facts P step stems a.1

-- its serials are a part of those before
stems_serials : {rows more : List (ℕ × Job)} → Stems rows more → IsPart (serials_of rows) (serials_of more)
stems_serials none = IsPart.none
stems_serials (kept follows has stems) = part_append follows.running.serials (stems_serials stems)
stems_serials (gone {row = row} stems) = part_behind (job_serials row) (stems_serials stems)

-- a table that stems from sound jobs is sound
pub stems_kept : (number moment serial : ℕ) {rows more : List (ℕ × Job)} → Stems rows more → AreKept number moment serial rows → AreKept number moment serial more
stems_kept number moment serial {rows} {more} stems jobs = record {
  sound = record {
    numbers = stems_facts (λ job. job.0 < number) (λ row new follows has below. below) stems jobs.sound.numbers;
    tasks = stems_facts HasTask (λ row new follows has before. has before) stems jobs.sound.tasks;
    spans = stems_facts IsSpanned (λ row new follows has before n h. subst (λ span. is_in_span n span ≡ true) (sym follows.span) (before n (follows.had n h))) stems jobs.sound.spans;
    places = all_parted more (stems_orderly stems);
    serials = part_facts (λ s. (1 ≤ s) × (s < serial)) (stems_serials stems) jobs.sound.serials;
    different = part_distinct (stems_serials stems) jobs.sound.different;
    submissions = stems_facts (λ job. job.1.submitted ≤ moment) (λ row new follows has before. subst (λ at. at ≤ moment) (sym follows.submitted) before) stems jobs.sound.submissions;
    starts = stems_facts (HasStarted moment) (λ row new follows has before. follows.running.starts moment before) stems jobs.sound.starts;
  };
  orderly = stems_orderly stems;
  keys = stems_keys 0 stems jobs.keys;
}

-- ---- jobs changed where they stand, and taken out

-- one job is changed
pub changed_stems : (test : ℕ → Bool) (change : Job → Job) → ((number : ℕ) (job : Job) → IsOrderly job → Follows job (change job) × (HasTask (number, job) → HasTask (number, change job)))
    → (rows : List (ℕ × Job)) → AllOrderly rows → Stems rows (change_value test change rows)
changed_stems test change step [] all = none
changed_stems test change step (row ∷ rows) all = by (test row.0) (changed_stems test change step rows all.1)
  where
    by : (here : Bool) → Stems rows (change_value test change rows) → Stems (row ∷ rows) (cond here ((row.0, change row.1) ∷ rows) (row ∷ change_value test change rows))
    by true again = let one = step row.0 row.1 all.0 in kept one.0 one.1 (stems_same rows all.1)
    by false again = kept (follows_same row.1 all.0) (λ has. has) again

-- the job under a number loses tasks where it is there: it follows, or is taken out where it has none
pub lost_stems : (change : Job → Job) (number : ℕ) (rows : List (ℕ × Job)) → IfSome (at_number rows number) (λ job. Follows job (change job)) → AllOrderly rows → Stems rows (lose_tasks change rows number)
lost_stems change number [] follows all = none
lost_stems change number (row ∷ rows) follows (first, all) = by (is_at (nat_cmp number) row.0) (λ later. lost_stems change number rows later all) follows
  where
    here_lost : (empty : Bool) → has_no_task (change row.1) ≡ empty → Follows row.1 (change row.1)
        → Stems (row ∷ rows) (if empty then rows else (row.0, change row.1) ∷ rows)
    here_lost true is follows = gone (stems_same rows all)
    here_lost false is follows = kept follows (λ before. has_some row.0 (change row.1) follows.orderly is) (stems_same rows all)

    behind_lost : (found : Option Job)
        → Stems rows (elim found as (λ x. List (ℕ × Job)) [ None ↦ rows | Some job ↦ if has_no_task (change job) then drop_number rows number else change_job change rows number ])
        → Stems (row ∷ rows) (elim found as (λ x. List (ℕ × Job)) [ None ↦ row ∷ rows | Some job ↦ if has_no_task (change job) then row ∷ drop_number rows number else row ∷ change_job change rows number ])
    behind_lost None again = kept (follows_same row.1 first) (λ has. has) again
    behind_lost (Some job) again = either (has_no_task (change job)) again
      where
        either : (empty : Bool) → Stems rows (if empty then drop_number rows number else change_job change rows number)
            → Stems (row ∷ rows) (if empty then row ∷ drop_number rows number else row ∷ change_job change rows number)
        either true again = kept (follows_same row.1 first) (λ has. has) again
        either false again = kept (follows_same row.1 first) (λ has. has) again

    by : (here : Bool) → (IfSome (at_number rows number) (λ job. Follows job (change job)) → Stems rows (lose_tasks change rows number))
        → IfSome (cond here (Some row.1) (at_number rows number)) (λ job. Follows job (change job))
        → Stems (row ∷ rows) (elim (cond here (Some row.1) (at_number rows number)) as (λ x. List (ℕ × Job)) [
          | None ↦ row ∷ rows
          | Some job ↦ if has_no_task (change job) then cond here rows (row ∷ drop_number rows number) else cond here ((row.0, change row.1) ∷ rows) (row ∷ change_job change rows number)
        ])
    by true again follows = here_lost (has_no_task (change row.1)) refl follows
    by false again follows = behind_lost (at_number rows number) (again follows)
