-- What runs after a change of the jobs ran before it on the same host, or has a serial from the next one on.
use Rattle.std.proofs.Common.{◌≡◌, ◌⊎◌, inl, inr, ⊎_elim, ℕ, ◌+◌, ◌≤◌, ◌==◌, Bool, true, false, if◌then◌else◌, List, [], ◌∷◌, map, filter, fold, Option, Some, None, refl, ap, sym, ◌∙◌, subst, arith}
use Rattle.std.specs.BTreeMap.{is_at}
use Rattle.std.specs.Ordering.{nat_cmp}
use Rattle.ge_collections.specs.Keyed.{at_number, put_number, drop_number}
use Rattle.ge_collections.specs.Changed.{change_value}
use Rattle.ge_model_rows.specs.JobRows.{Job, Running}
use Rattle.ge_model_rows.specs.ScheduleRows.{Start}
use Rattle.ge_model_rows.specs.TaskRows.{TaskId, TaskSpan}
use Rattle.ge_model_rows.specs.Sets.{has_number, without_number}
use Rattle.ge_model_jobs.specs.declared.After.{After}
use Rattle.ge_model_jobs.specs.declared.After.TheVariants as after
use Rattle.ge_model_jobs.specs.Altering.{change_job}
use Rattle.ge_model_jobs.specs.Ending.{has_no_task, lose_tasks, gone, moved, without_ended, runs_in, ended, marked, is_unnamed, without_picked}
use Rattle.ge_model_jobs.specs.Picks.{names_task}
use Rattle.ge_model_jobs.specs.Starting.{running_from, with_start, start_task}
use Rattle.ge_soundness.proofs.Starts.{FollowOn}
use Rattle.ge_model_world.specs.Laws.{Has, Post}
use Rattle.ge_model_world.proofs.Lists.{has_map, map_has, has_filter, has_put, has_drop, has_change}
use Rattle.ge_world_laws.specs.Product.{post_of, job_posts, posts_of}
use Rattle.ge_world_laws.proofs.Elements.{flat_has, has_flat}

-- what runs after ran before, in a job
abbrev pub Fewer : Job → Job → Type 0
Fewer old new = (p : Post) → Has p (map post_of new.running) → Has p (map post_of old.running)

-- and in a table of jobs, or has a serial from the next one on
abbrev pub Stays : ℕ → List (ℕ × Job) → List (ℕ × Job) → Type 0
Stays next old new = (p : Post) → Has p (posts_of new) → Has p (posts_of old) ⊎ (next ≤ p.0)

pub stays_same : (next : ℕ) (jobs : List (ℕ × Job)) → Stays next jobs jobs
stays_same next jobs p h = inl h

-- one change after the other
pub stays_then : (next : ℕ) (first second third : List (ℕ × Job)) → Stays next first second → Stays next second third → Stays next first third
stays_then next first second third one two p h = ⊎_elim (λ old. one p old) (λ late. inr late) (two p h)

pub folded_stays : {A : Type 0} (next : ℕ) (step : List (ℕ × Job) → A → List (ℕ × Job)) → ((jobs : List (ℕ × Job)) (one : A) → Stays next jobs (step jobs one)) → (items : List A) (jobs : List (ℕ × Job)) → Stays next jobs (fold step jobs items)
folded_stays next step one [] jobs = stays_same next jobs
folded_stays next step one (item ∷ items) jobs = stays_then next jobs (step jobs item) (fold step (step jobs item) items) (one jobs item) (folded_stays next step one items (step jobs item))

-- a job is changed that runs nothing new but serials from the next one on
pub changed_stays : (next : ℕ) (test : ℕ → Bool) (f : Job → Job) → ((job : Job) (p : Post) → Has p (map post_of (f job).running) → Has p (map post_of job.running) ⊎ (next ≤ p.0)) → (jobs : List (ℕ × Job)) → Stays next jobs (change_value test f jobs)
changed_stays next test f step jobs p h =
    let row = has_flat job_posts (change_value test f jobs) h in
    ⊎_elim (λ old. inl (flat_has job_posts row.0 jobs old row.2))
    (λ new. ⊎_elim (λ before. inl (flat_has job_posts (row.0.0, new.0) jobs new.1 before)) (λ late. inr late)
    (step new.0 p (subst (λ job. Has p (map post_of job.running)) new.2 row.2)))
    (has_change test f jobs row.0.0 row.0.1 row.1)

-- a job is changed that runs what it ran
pub same_stays : (next number : ℕ) (f : Job → Job) → ((job : Job) → (f job).running ≡ job.running) → (jobs : List (ℕ × Job)) → Stays next jobs (change_job f jobs number)
same_stays next number f same jobs = changed_stays next (is_at (nat_cmp number)) f (λ job p h. inl (subst (λ tasks. Has p (map post_of tasks)) (same job) h)) jobs

dropped_stays : (next : ℕ) (jobs : List (ℕ × Job)) (number : ℕ) → Stays next jobs (drop_number jobs number)
dropped_stays next jobs number p h =
    let row = has_flat job_posts (drop_number jobs number) h in inl (flat_has job_posts row.0 jobs (has_drop jobs number row.1) row.2)

-- a job that runs nothing is put in
pub put_stays : (next number : ℕ) (job : Job) → job.running ≡ [] → (jobs : List (ℕ × Job)) → Stays next jobs (put_number jobs number job)
put_stays next number job idle jobs p h =
    let row = has_flat job_posts (put_number jobs number job) h in
    ⊎_elim (λ old. inl (flat_has job_posts row.0 jobs old row.2))
    (λ new. absurd (none (subst (λ tasks. Has p (map post_of tasks)) (ap (λ r. r.1.running) new ∙ idle) row.2)))
    (has_put jobs number job row.1)
  where
    none : {p : Post} → Has p [] → ⊥
    none h = elim h [ ]

-- a job loses tasks
pub lost_stays : (next : ℕ) (f : Job → Job) → ((job : Job) → Fewer job (f job)) → (jobs : List (ℕ × Job)) (number : ℕ) → Stays next jobs (lose_tasks f jobs number)
lost_stays next f fewer jobs number = by (at_number jobs number)
  where
    chosen : (b : Bool) → Stays next jobs (if b then drop_number jobs number else change_job f jobs number)
    chosen true = dropped_stays next jobs number
    chosen false = changed_stays next (is_at (nat_cmp number)) f (λ job p h. inl (fewer job p h)) jobs

    by : (o : Option Job) → Stays next jobs (elim o as (λ x. List (ℕ × Job)) [ None ↦ jobs | Some job ↦ if has_no_task (f job) then drop_number jobs number else change_job f jobs number ])
    by None = stays_same next jobs
    by (Some job) = chosen (has_no_task (f job))

-- ---- tasks end

-- a task that ends so is taken from those that run, and no other
pub ended_takes : (end : After) (task : ℕ) (job : Job) → (without_ended end task job).running ≡ drop_number job.running task
ended_takes end task job = by (task == 0) end
  where
    by : (none : Bool) (end : After) → (if none then gone task job else moved end task job).running ≡ drop_number job.running task
    by true end = refl
    by false after.Gone = refl
    by false after.Again = refl
    by false after.Broken = refl

ended_fewer : (end : After) (task : ℕ) (job : Job) → Fewer job (without_ended end task job)
ended_fewer end task job p h =
    let found = has_map post_of (drop_number job.running task) (subst (λ tasks. Has p (map post_of tasks)) (ended_takes end task job) h) in
    subst (λ q. Has q (map post_of job.running)) found.2 (map_has post_of job.running (has_drop job.running task found.1))

pub ended_stays : (next : ℕ) (jobs : List (ℕ × Job)) (id : TaskId) (end : After) → Stays next jobs (ended jobs id end)
ended_stays next jobs id end = by (runs_in (at_number jobs id.job) id.task)
  where
    by : (b : Bool) → Stays next jobs (if b then lose_tasks (without_ended end id.task) jobs id.job else jobs)
    by true = lost_stays next (without_ended end id.task) (ended_fewer end id.task) jobs id.job
    by false = stays_same next jobs

-- ---- tasks are deleted by force, or marked

deleted_fewer : (force : Bool) (picked : Option (List TaskSpan)) (job : Job) → Fewer job (without_picked force picked job)
deleted_fewer true picked job p h =
    let found = has_map post_of (filter (is_unnamed picked) job.running) h in
    subst (λ q. Has q (map post_of job.running)) found.2 (map_has post_of job.running (has_filter (is_unnamed picked) job.running found.1).0)
deleted_fewer false picked job p h =
    let found = has_map post_of (map (marked picked) job.running) h in
    let task = has_map (marked picked) job.running found.1 in
    subst (λ q. Has q (map post_of job.running)) (sym (by (names_task picked task.0.0) task.0) ∙ ap post_of task.2 ∙ found.2) (map_has post_of job.running task.1)
  where
    by : (b : Bool) (task : ℕ × Running) → post_of (task.0, if b then record (task.1) { deleting = true } else task.1) ≡ post_of task
    by true task = refl
    by false task = refl

pub deleted_stays : (next : ℕ) (force : Bool) (picked : Option (List TaskSpan)) (jobs : List (ℕ × Job)) (number : ℕ) → Stays next jobs (lose_tasks (without_picked force picked) jobs number)
deleted_stays next force picked jobs number = lost_stays next (without_picked force picked) (deleted_fewer force picked) jobs number

-- ---- a run starts tasks under the next serials

start_stays : (next moment : ℕ) (start : Start) → next ≤ start.serial → (job : Job) (p : Post) → Has p (map post_of (with_start moment start job).running) → Has p (map post_of job.running) ⊎ (next ≤ p.0)
start_stays next moment start late job p h = by (has_number start.task.task job.queued) h
  where
    by : (b : Bool)
        → Has p (map post_of (if b then record job { queued = without_number start.task.task job.queued; running = put_number job.running start.task.task (running_from moment start) } else job).running)
        → Has p (map post_of job.running) ⊎ (next ≤ p.0)
    by false h = inl h
    by true h =
        let found = has_map post_of (put_number job.running start.task.task (running_from moment start)) h in
        ⊎_elim (λ old. inl (subst (λ q. Has q (map post_of job.running)) found.2 (map_has post_of job.running old)))
        (λ new. inr (let serial_is : p.0 ≡ start.serial = ap (λ q. q.0) (sym found.2) ∙ ap (λ t. t.1.serial) new in omega (arith, serial_is, late)))
        (has_put job.running start.task.task (running_from moment start) found.1)

pub started_stays : (next serial moment : ℕ) (jobs : List (ℕ × Job)) (starts : List Start) → next ≤ serial → FollowOn serial starts → Stays next jobs (fold (start_task moment) jobs starts)
started_stays next serial moment jobs [] low follow = stays_same next jobs
started_stays next serial moment jobs (start ∷ starts) low follow =
    let first : start.serial ≡ serial = follow.0 in
    stays_then next jobs (start_task moment jobs start) (fold (start_task moment) (start_task moment jobs start) starts)
    (changed_stays next (is_at (nat_cmp start.task.job)) (with_start moment start) (start_stays next moment start (omega (arith, first, low))) jobs)
    (started_stays next (serial + 1) moment (start_task moment jobs start) starts (omega (arith, low)) follow.1)
