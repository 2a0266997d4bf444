-- The starts of a run, one after the other: what they keep of all jobs.
use Rattle.std.proofs.Common.{◌≡◌, ℕ, ◌+◌, ◌<◌, ◌≤◌, Bool, true, false, cond, List, [], ◌∷◌, length, fold, refl, subst, ◌∙◌, arith}
use Rattle.std.specs.BTreeMap.{is_at}
use Rattle.std.specs.List.{AllByRecursion}
use Rattle.std.specs.Ordering.{nat_cmp}
use Rattle.std.proofs.lemmas.Bool.{cond_both, or_left, or_right, eq-eqb}
use Rattle.ge_collections.specs.Changed.{change_value}
use Rattle.ge_collections.specs.Keyed.{put_number}
use Rattle.ge_model_rows.specs.JobRows.{Job}
use Rattle.ge_model_rows.specs.ScheduleRows.{Start}
use Rattle.ge_model_jobs.specs.Soundness.{HasTask, IsSpanned, HasStarted, job_serials, serials_of}
use Rattle.ge_soundness.proofs.Lists.{IsJoined, joined_all, joined_distinct, joined_after, joined_before, all_changed, all_put, all_weaker}
use Rattle.ge_soundness.proofs.Lists.IsJoined.{same}
use Rattle.ge_soundness.proofs.Starts.{serials_put, waits_alone}
use Rattle.ge_soundness.proofs.Starts.{FollowOn}
use Rattle.ge_model_rows.specs.Sets.{has_number, without_number}
use Rattle.ge_model_jobs.specs.Orderly.{has_key, KeysFrom, IsOrderly, AllOrderly}
use Rattle.ge_model_jobs.specs.Starting.{running_from, with_start, start_task}
use Rattle.ge_model_jobs.proofs.Keys.{put_keys}
use Rattle.ge_model_jobs.proofs.Places.{start_keeps}
use Rattle.ge_model_jobs.proofs.Orderly.{changed_orderly}
use Rattle.ge_soundness.proofs.ChangesTables.{AreKept, all_parted}

-- the waiting task of a job runs
abbrev started : ℕ → Start → Job → Job
started moment start job = record job { queued = without_number start.task.task job.queued; running = put_number job.running start.task.task (running_from moment start) }

-- a job after a start: its waiting task runs, or nothing changed
pub after_start : (P : Job → Type 0) (moment : ℕ) (start : Start) (job : Job) → P job → (has_number start.task.task job.queued ≡ true → P (started moment start job)) → P (with_start moment start job)
after_start P moment start job before after = cond_both (has_number start.task.task job.queued) (started moment start job) job P after (λ stays. before)

-- the job has a task: the one that starts, where one does
start_has : (moment : ℕ) (start : Start) (row : ℕ × Job) → HasTask row → HasTask (row.0, with_start moment start row.1)
start_has moment start row has = after_start (λ job. HasTask (row.0, job)) moment start row.1 has (λ waits. (k, or_right _ _ runs))
  where
    k : ℕ
    k = start.task.task

    runs : has_key k (put_number row.1.running k (running_from moment start)) ≡ true
    runs = put_keys k k row.1.running (running_from moment start) ∙ or_left _ _ (eq-eqb k k refl)

-- its tasks are those of before
start_spanned : (moment : ℕ) (start : Start) (row : ℕ × Job) → IsOrderly row.1 → IsSpanned row → IsSpanned (row.0, with_start moment start row.1)
start_spanned moment start row one spanned n has = rw span (spanned n ((start_keeps moment start row.1 one).1 n has))
  where
    span : (with_start moment start row.1).span ≡ row.1.span
    span = after_start (λ job. job.span ≡ row.1.span) moment start row.1 refl (λ waits. refl)

-- its serials are those of before, with that of the start where it starts a task
start_serials : (moment : ℕ) (start : Start) (row : ℕ × Job) → IsOrderly row.1 → IsJoined start.serial (job_serials row) (job_serials (row.0, with_start moment start row.1))
start_serials moment start row one =
    after_start (λ job. IsJoined start.serial (job_serials row) (job_serials (row.0, job))) moment start row.1 same
    (λ waits. serials_put start.task.task (running_from moment start) row.1.running (waits_alone _ (has_number start.task.task row.1.broken) _ (one.places start.task.task) waits))

-- the start is at the moment
start_begins : (moment : ℕ) (start : Start) (row : ℕ × Job) → HasStarted moment row → HasStarted moment (row.0, with_start moment start row.1)
start_begins moment start row before =
    after_start (λ job. HasStarted moment (row.0, job)) moment start row.1 before
    (λ waits. all_put (λ task. task.1.start ≤ moment) start.task.task (running_from moment start) (λ key. omega arith) row.1.running before)

-- ---- all jobs

-- the tasks of all jobs stay in their spans, since an orderly job's start brings no task up
spanned_jobs : (test : ℕ → Bool) (moment : ℕ) (start : Start) (rows : List (ℕ × Job)) → AllOrderly rows → AllByRecursion IsSpanned rows → AllByRecursion IsSpanned (change_value test (with_start moment start) rows)
spanned_jobs test moment start [] all spanned = tt
spanned_jobs test moment start (row ∷ rows) all spanned = by (test row.0) (spanned_jobs test moment start rows all.1 spanned.1)
  where
    by : (here : Bool) → AllByRecursion IsSpanned (change_value test (with_start moment start) rows)
        → AllByRecursion IsSpanned (cond here ((row.0, with_start moment start row.1) ∷ rows) (row ∷ change_value test (with_start moment start) rows))
    by true again = (start_spanned moment start row all.0 spanned.0, spanned.1)
    by false again = (spanned.0, again)

-- a change in place leaves the keys
changed_keys : (low : ℕ) (test : ℕ → Bool) (change : Job → Job) (rows : List (ℕ × Job)) → KeysFrom low rows → KeysFrom low (change_value test change rows)
changed_keys low test change [] keys = tt
changed_keys low test change (row ∷ rows) keys = by (test row.0) (changed_keys (row.0 + 1) test change rows keys.1)
  where
    by : (here : Bool) → KeysFrom (row.0 + 1) (change_value test change rows) → KeysFrom low (cond here ((row.0, change row.1) ∷ rows) (row ∷ change_value test change rows))
    by true again = (keys.0, keys.1)
    by false again = (keys.0, again)

-- one more serial, at most
joined_jobs : (test : ℕ → Bool) (moment : ℕ) (start : Start) (rows : List (ℕ × Job)) → AllOrderly rows → IsJoined start.serial (serials_of rows) (serials_of (change_value test (with_start moment start) rows))
joined_jobs test moment start [] all = same
joined_jobs test moment start (row ∷ rows) all = by (test row.0) (joined_jobs test moment start rows all.1)
  where
    by : (here : Bool) → IsJoined start.serial (serials_of rows) (serials_of (change_value test (with_start moment start) rows))
        → IsJoined start.serial (serials_of (row ∷ rows)) (serials_of (cond here ((row.0, with_start moment start row.1) ∷ rows) (row ∷ change_value test (with_start moment start) rows)))
    by true again = joined_before (serials_of rows) (start_serials moment start row all.0)
    by false again = joined_after (job_serials row) again

-- a start with the next serial
start_kept : (number moment : ℕ) (start : Start) (jobs : List (ℕ × Job)) → 1 ≤ start.serial → AreKept number moment start.serial jobs → AreKept number moment (start.serial + 1) (start_task moment jobs start)
start_kept number moment start jobs positive before = record {
  sound = record {
    numbers = all_changed (λ job. job.0 < number) test change (λ row below. below) jobs before.sound.numbers;
    tasks = all_changed HasTask test change (start_has moment start) jobs before.sound.tasks;
    spans = spanned_jobs test moment start jobs before.orderly before.sound.spans;
    places = all_parted (start_task moment jobs start) orderly;
    serials = joined_all (λ s. (1 ≤ s) × (s < start.serial + 1)) joined (positive, omega arith)
        (all_weaker (λ s. (1 ≤ s) × (s < start.serial)) (λ s. (1 ≤ s) × (s < start.serial + 1)) (λ s h. (h.0, omega (arith, h.1))) (serials_of jobs) before.sound.serials);
    different = joined_distinct joined (all_weaker (λ s. (1 ≤ s) × (s < start.serial)) (λ s. s < start.serial) (λ s h. h.1) (serials_of jobs) before.sound.serials) before.sound.different;
    submissions = all_changed (λ job. job.1.submitted ≤ moment) test change (λ row h. after_start (λ job. job.submitted ≤ moment) moment start row.1 h (λ waits. h)) jobs before.sound.submissions;
    starts = all_changed (HasStarted moment) test change (start_begins moment start) jobs before.sound.starts;
  };
  orderly = orderly;
  keys = changed_keys 0 test change jobs before.keys;
}
  where
    test : ℕ → Bool
    test = is_at (nat_cmp start.task.job)

    change : Job → Job
    change = with_start moment start

    orderly : AllOrderly (start_task moment jobs start)
    orderly = changed_orderly test change (λ job one. (start_keeps moment start job one).0) jobs before.orderly

    joined : IsJoined start.serial (serials_of jobs) (serials_of (change_value test change jobs))
    joined = joined_jobs test moment start jobs before.orderly

-- starts with the next serials
pub starts_kept : (number moment : ℕ) (starts : List Start) (serial : ℕ) (jobs : List (ℕ × Job)) → 1 ≤ serial → FollowOn serial starts → AreKept number moment serial jobs
    → AreKept number moment (serial + length starts) (fold (start_task moment) jobs starts)
starts_kept number moment [] serial jobs positive follow before = let sum : serial ≡ serial + 0 = omega arith in subst (λ s. AreKept number moment s jobs) sum before
starts_kept number moment (start ∷ starts) serial jobs positive follow before =
    let first : AreKept number moment start.serial jobs = rw follow.0 before in
    let one : AreKept number moment (serial + 1) (start_task moment jobs start) = subst (λ s. AreKept number moment (s + 1) (start_task moment jobs start)) follow.0 (start_kept number moment start jobs (rw follow.0 positive) first) in
    let all : AreKept number moment (serial + 1 + length starts) (fold (start_task moment) (start_task moment jobs start) starts) = starts_kept number moment starts (serial + 1) (start_task moment jobs start) (omega arith) follow.1 one in
    let sum : serial + 1 + length starts ≡ serial + length (start ∷ starts) = omega arith in
    rw sum at all
