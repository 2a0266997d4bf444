-- What starts, ends, deletions and clearings do to the places of a job's tasks: each task stands in one place still, and none comes up.
use Rattle.std.proofs.Common.{◌≡◌, ℕ, ◌+◌, ◌≤◌, ◌==◌, ◌&&◌, ◌||◌, Bool, true, false, not, if◌then◌else◌, List, [], ◌∷◌, map, Option, Some, None, refl, ap, ◌∙◌, arith}
use Rattle.std.proofs.lemmas.Bool.{eqb-true}
use Rattle.ge_collections.specs.Keyed.{put_number}
use Rattle.ge_model_rows.specs.JobRows.{Job, Running}
use Rattle.ge_model_rows.specs.ScheduleRows.{Start}
use Rattle.ge_model_rows.specs.TaskRows.{TaskSpan, is_form}
use Rattle.ge_model_rows.specs.Sets.{has_number, without_number}
use Rattle.ge_model_rows.proofs.Sets.{form_rises, with_number_form, with_number_has, without_number_form, without_number_has}
use Rattle.ge_model_rows.proofs.Merged.{above_low}
use Rattle.ge_model_rows.proofs.Together.{union_form, union_has, meet_form, meet_has, difference_form, difference_has}
pub use Rattle.ge_model_jobs.specs.Picks.{IsPick}
use Rattle.ge_model_jobs.specs.Picks.{names_task, named_in, unnamed_in}
use Rattle.ge_model_jobs.specs.Starting.{with_start, running_from}
use Rattle.ge_model_jobs.specs.Ending.{gone, again, in_error, marked, is_unnamed, without_picked, cleared}
use Rattle.ge_model_jobs.specs.Orderly.{has_key, KeysFrom, one_at_most, IsOrderly}
use Rattle.ge_model_jobs.proofs.Keys.{put_keys, put_rises, drop_keys, drop_rises, filter_keys, filter_rises}

-- whether a task of a job waits, is in error or runs
abbrev pub is_task : ℕ → Job → Bool
is_task t job = has_number t job.queued || has_number t job.broken || has_key t job.running

-- a job after a change is orderly, and has no task that it didn't have
abbrev pub Keeps : Job → Job → Type 0
Keeps old new = IsOrderly new × ((t : ℕ) → is_task t new ≡ true → is_task t old ≡ true)

-- a number of a set in the form is at least 1
positive : (n : ℕ) (set : List TaskSpan) → is_form set ≡ true → has_number n set ≡ true → 1 ≤ n
positive n set form has = above_low n 0 set (form_rises set form) has

-- ---- the answers of the places, before and after

-- a task stands in one place after a change, and had one before it
record Fits (w b r w' b' r' : Bool) : Type 0 where
  one : one_at_most w' b' r' ≡ true
  had : (w' || b' || r') ≡ true → (w || b || r) ≡ true

to_running : (here w b r : Bool) → (here ≡ true → w ≡ true) → one_at_most w b r ≡ true → Fits w b r (w && not here) b (here || r)
to_running here w b r h p = record { one = grind arith; had = λ q. grind arith }

to_nothing : (here w b r : Bool) → one_at_most w b r ≡ true → Fits w b r w b (r && not here)
to_nothing here w b r p = record { one = grind arith; had = λ q. grind arith }

to_waiting : (here w b r : Bool) → (here ≡ true → r ≡ true) → one_at_most w b r ≡ true → Fits w b r (here || w) b (r && not here)
to_waiting here w b r h p = record { one = grind arith; had = λ q. grind arith }

to_error : (here w b r : Bool) → (here ≡ true → r ≡ true) → one_at_most w b r ≡ true → Fits w b r w (here || b) (r && not here)
to_error here w b r h p = record { one = grind arith; had = λ q. grind arith }

deleted : (named w b r : Bool) → one_at_most w b r ≡ true → Fits w b r (w && not named) (b && not named) r
deleted named w b r p = record { one = grind arith; had = λ q. grind arith }

deleted_all : (named w b r : Bool) → one_at_most w b r ≡ true → Fits w b r (w && not named) (b && not named) (r && not named)
deleted_all named w b r p = record { one = grind arith; had = λ q. grind arith }

to_waiting_again : (named w b r : Bool) → one_at_most w b r ≡ true → Fits w b r (w || (b && named)) (b && not named) r
to_waiting_again named w b r p = record { one = grind arith; had = λ q. grind arith }

-- ---- jobs before and after

kept_by : (old new : Job) → is_form new.queued ≡ true → is_form new.broken ≡ true → KeysFrom 0 new.running
    → ((t : ℕ) → Fits (has_number t old.queued) (has_number t old.broken) (has_key t old.running) (has_number t new.queued) (has_number t new.broken) (has_key t new.running))
    → Keeps old new
kept_by old new waiting broken keys fits =
    (record { waiting = waiting; broken = broken; keys = keys; places = λ t. (fits t).one }, λ t. (fits t).had)

fits_by : {w b r w' b' r' w'' b'' r'' : Bool} → w'' ≡ w' → b'' ≡ b' → r'' ≡ r' → Fits w b r w' b' r' → Fits w b r w'' b'' r''
fits_by p q s fits = rw (p, q, s) fits

-- a task starts
pub start_keeps : (moment : ℕ) (start : Start) (job : Job) → IsOrderly job → Keeps job (with_start moment start job)
start_keeps moment start job orderly = by (has_number k job.queued) refl
  where
    k : ℕ
    k = start.task.task

    by : (waits : Bool) → has_number k job.queued ≡ waits
        → Keeps job (if waits then record job { queued = without_number k job.queued; running = put_number job.running k (running_from moment start) } else job)
    by false is = (orderly, λ t h. h)
    by true is =
        let p = positive k job.queued orderly.waiting is in
        kept_by job (record job { queued = without_number k job.queued; running = put_number job.running k (running_from moment start) })
        (without_number_form k job.queued p orderly.waiting) orderly.broken (put_rises 0 k job.running (running_from moment start) (omega arith) orderly.keys)
        (λ t. fits_by (without_number_has t k job.queued p orderly.waiting) refl (put_keys t k job.running (running_from moment start))
        (to_running (t == k) (has_number t job.queued) (has_number t job.broken) (has_key t job.running)
        (λ h. ap (λ z. has_number z job.queued) (eqb-true t k h) ∙ is) (orderly.places t)))

-- a task ends: it is gone, waits again, or is in error
pub gone_keeps : (task : ℕ) (job : Job) → IsOrderly job → Keeps job (gone task job)
gone_keeps task job orderly =
    kept_by job _ orderly.waiting orderly.broken (drop_rises task 0 job.running orderly.keys)
    (λ t. fits_by refl refl (drop_keys t task 0 job.running orderly.keys)
    (to_nothing (t == task) (has_number t job.queued) (has_number t job.broken) (has_key t job.running) (orderly.places t)))

pub again_keeps : (task : ℕ) (job : Job) → 1 ≤ task → has_key task job.running ≡ true → IsOrderly job → Keeps job (again task job)
again_keeps task job p runs orderly =
    kept_by job _ (with_number_form task job.queued p orderly.waiting) orderly.broken (drop_rises task 0 job.running orderly.keys)
    (λ t. fits_by (with_number_has t task job.queued p orderly.waiting) refl (drop_keys t task 0 job.running orderly.keys)
    (to_waiting (t == task) (has_number t job.queued) (has_number t job.broken) (has_key t job.running)
    (λ h. ap (λ z. has_key z job.running) (eqb-true t task h) ∙ runs) (orderly.places t)))

pub in_error_keeps : (task : ℕ) (job : Job) → 1 ≤ task → has_key task job.running ≡ true → IsOrderly job → Keeps job (in_error task job)
in_error_keeps task job p runs orderly =
    kept_by job _ orderly.waiting (with_number_form task job.broken p orderly.broken) (drop_rises task 0 job.running orderly.keys)
    (λ t. fits_by refl (with_number_has t task job.broken p orderly.broken) (drop_keys t task 0 job.running orderly.keys)
    (to_error (t == task) (has_number t job.queued) (has_number t job.broken) (has_key t job.running)
    (λ h. ap (λ z. has_key z job.running) (eqb-true t task h) ∙ runs) (orderly.places t)))

-- ---- picks

pub named_form : (tasks : Option (List TaskSpan)) (set : List TaskSpan) → IsPick tasks → is_form set ≡ true → is_form (named_in tasks set) ≡ true
named_form None set pick form = form
named_form (Some tasks) set pick form = meet_form set tasks form pick

pub unnamed_form : (tasks : Option (List TaskSpan)) (set : List TaskSpan) → IsPick tasks → is_form set ≡ true → is_form (unnamed_in tasks set) ≡ true
unnamed_form None set pick form = refl
unnamed_form (Some tasks) set pick form = difference_form set tasks form pick

and_true : (u : Bool) → u ≡ (u && true)
and_true true = refl
and_true false = refl

and_false : (u : Bool) → false ≡ (u && false)
and_false true = refl
and_false false = refl

pub named_has : (t : ℕ) (tasks : Option (List TaskSpan)) (set : List TaskSpan) → IsPick tasks → is_form set ≡ true
    → has_number t (named_in tasks set) ≡ (has_number t set && names_task tasks t)
named_has t None set pick form = and_true (has_number t set)
named_has t (Some tasks) set pick form = meet_has t set tasks form pick

pub unnamed_has : (t : ℕ) (tasks : Option (List TaskSpan)) (set : List TaskSpan) → IsPick tasks → is_form set ≡ true
    → has_number t (unnamed_in tasks set) ≡ (has_number t set && not (names_task tasks t))
unnamed_has t None set pick form = and_false (has_number t set)
unnamed_has t (Some tasks) set pick form = difference_has t set tasks form pick

marked_keys : (t : ℕ) (tasks : Option (List TaskSpan)) (running : List (ℕ × Running)) → has_key t (map (marked tasks) running) ≡ has_key t running
marked_keys t tasks [] = refl
marked_keys t tasks (task ∷ running) = ap (λ x. t == task.0 || x) (marked_keys t tasks running)

marked_rises : (low : ℕ) (tasks : Option (List TaskSpan)) (running : List (ℕ × Running)) → KeysFrom low running → KeysFrom low (map (marked tasks) running)
marked_rises low tasks [] keys = tt
marked_rises low tasks (task ∷ running) (above, keys) = (above, marked_rises (task.0 + 1) tasks running keys)

-- tasks are deleted
pub deleted_keeps : (force : Bool) (tasks : Option (List TaskSpan)) (job : Job) → IsPick tasks → IsOrderly job → Keeps job (without_picked force tasks job)
deleted_keeps true tasks job is orderly =
    kept_by job (without_picked true tasks job) (unnamed_form tasks job.queued is orderly.waiting) (unnamed_form tasks job.broken is orderly.broken)
    (filter_rises 0 (is_unnamed tasks) job.running orderly.keys)
    (λ t. fits_by (unnamed_has t tasks job.queued is orderly.waiting) (unnamed_has t tasks job.broken is orderly.broken)
    (filter_keys t (λ n. not (names_task tasks n)) job.running)
    (deleted_all (names_task tasks t) (has_number t job.queued) (has_number t job.broken) (has_key t job.running) (orderly.places t)))
deleted_keeps false tasks job is orderly =
    kept_by job (without_picked false tasks job) (unnamed_form tasks job.queued is orderly.waiting) (unnamed_form tasks job.broken is orderly.broken)
    (marked_rises 0 tasks job.running orderly.keys)
    (λ t. fits_by (unnamed_has t tasks job.queued is orderly.waiting) (unnamed_has t tasks job.broken is orderly.broken)
    (marked_keys t tasks job.running)
    (deleted (names_task tasks t) (has_number t job.queued) (has_number t job.broken) (has_key t job.running) (orderly.places t)))

-- tasks in error wait again
pub cleared_keeps : (tasks : Option (List TaskSpan)) (job : Job) → IsPick tasks → IsOrderly job → Keeps job (cleared tasks job)
cleared_keeps tasks job is orderly =
    kept_by job (cleared tasks job) (union_form job.queued (named_in tasks job.broken) orderly.waiting (named_form tasks job.broken is orderly.broken))
    (unnamed_form tasks job.broken is orderly.broken) orderly.keys
    (λ t. fits_by
    (union_has t job.queued (named_in tasks job.broken) orderly.waiting (named_form tasks job.broken is orderly.broken)
    ∙ ap (λ x. has_number t job.queued || x) (named_has t tasks job.broken is orderly.broken))
    (unnamed_has t tasks job.broken is orderly.broken)
    refl
    (to_waiting_again (names_task tasks t) (has_number t job.queued) (has_number t job.broken) (has_key t job.running) (orderly.places t)))
