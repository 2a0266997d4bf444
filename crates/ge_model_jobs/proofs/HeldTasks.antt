-- The tasks that array predecessors hold, as a set, are those that the task of their number holds in any of them.
use Rattle.std.proofs.Common.{◌≡◌, ℕ, ◌+◌, ◌≤◌, ◌<◌, ◌==◌, ◌&&◌, ◌||◌, Bool, true, false, not, cond, nat_le, List, [], ◌∷◌, map, filter, fold, Option, Some, None, is_some, refl, sym, ap, subst, ◌∙◌, arith}
use Rattle.std.specs.List.{list_any}
use Rattle.std.proofs.lemmas.Bool.{eqb-true}
use Rattle.ge_collections.specs.Keyed.{at_number}
use Rattle.ge_model_rows.specs.JobRows.{Job, Running}
use Rattle.ge_model_rows.specs.TaskRows.{TaskSpan, is_form}
use Rattle.ge_model_rows.specs.Sets.{has_number, meet, filtered, numbers_of, set_of, union}
use Rattle.ge_model_rows.proofs.Form.{Rises}
use Rattle.ge_model_rows.proofs.Sets.{form_rises}
use Rattle.ge_model_rows.proofs.Merged.{above_low}
use Rattle.ge_model_rows.proofs.Numbers.{Rising, is_among, set_of_form, set_of_has, same_numbers, numbers_has, numbers_rise}
use Rattle.ge_model_rows.proofs.Together.{union_form, union_has, meet_form, meet_has, difference_form, difference_has}
use Rattle.ge_model_rows.proofs.Unique.{set_of_numbers}
use Rattle.ge_model_jobs.specs.Holds.{is_live_task, is_live_in, is_task_held, holding_tasks, holding_in, with_holding, predecessor_tasks, held_tasks, free_tasks}
use Rattle.ge_model_jobs.specs.Orderly.{has_key, KeysFrom, IsOrderly, AllOrderly}
use Rattle.ge_model_jobs.proofs.Keys.{at_has}
use Rattle.ge_model_jobs.proofs.Orderly.{IfOrderly, there_orderly}

-- ---- the running tasks from 1 on

-- the numbers of running tasks that a set may have
abbrev numbered : List (ℕ × Running) → List ℕ
numbered rows = filter (nat_le 1) (map (λ task. task.0) rows)

above_rise : (low : ℕ) (rows : List (ℕ × Running)) → KeysFrom (low + 1) rows → Rising low (numbered rows)
above_rise low [] keys = tt
above_rise low (row ∷ rows) keys = by (nat_le 1 row.0) refl (above_rise row.0 rows keys.1)
  where
    by : (fits : Bool) → nat_le 1 row.0 ≡ fits → Rising row.0 (numbered rows) → Rising low (cond fits (row.0 ∷ numbered rows) (numbered rows))
    by true is again = (let k = keys.0 in omega arith, again)
    by false is again = absurd (let k = keys.0 in grind arith)

numbered_rise : (rows : List (ℕ × Running)) → KeysFrom 0 rows → Rising 0 (numbered rows)
numbered_rise [] keys = tt
numbered_rise (row ∷ rows) keys = by (nat_le 1 row.0) refl
  where
    by : (fits : Bool) → nat_le 1 row.0 ≡ fits → Rising 0 (cond fits (row.0 ∷ numbered rows) (numbered rows))
    by true is = (grind arith, above_rise row.0 rows keys.1)
    by false is = let none : row.0 + 1 ≡ 0 + 1 = grind arith in above_rise 0 rows (subst (λ low. KeysFrom low rows) none keys.1)

numbered_has : (t : ℕ) (rows : List (ℕ × Running)) → is_among t (numbered rows) ≡ (nat_le 1 t && has_key t rows)
numbered_has t [] = none (nat_le 1 t)
  where
    none : (u : Bool) → false ≡ (u && false)
    none true = refl
    none false = refl
numbered_has t (row ∷ rows) = by (nat_le 1 row.0) refl (t == row.0) refl (numbered_has t rows)
  where
    by : (fits : Bool) → nat_le 1 row.0 ≡ fits → (here : Bool) → (t == row.0) ≡ here → is_among t (numbered rows) ≡ (nat_le 1 t && has_key t rows)
        → is_among t (cond fits (row.0 ∷ numbered rows) (numbered rows)) ≡ (nat_le 1 t && (here || has_key t rows))
    by true is true same again = ap (λ z. z || is_among t (numbered rows)) same ∙ sym (let e = eqb-true t row.0 same in let p : nat_le 1 t ≡ true = grind arith in ap (λ z. z && true) p)
    by true is false same again = ap (λ z. z || is_among t (numbered rows)) same ∙ again
    by false is true same again = let e = eqb-true t row.0 same in let p : nat_le 1 t ≡ false = grind arith in again ∙ ap (λ z. z && has_key t rows) p ∙ sym (ap (λ z. z && true) p)
    by false is false same again = again

-- ---- the live tasks of one job

holding_form : (job : Job) → IsOrderly job → is_form (holding_tasks job) ≡ true
holding_form job one =
    union_form (union job.queued job.broken) (set_of (numbered job.running)) (union_form job.queued job.broken one.waiting one.broken) (set_of_form (numbered job.running) (numbered_rise job.running one.keys))

holding_has : (t : ℕ) (job : Job) → 1 ≤ t → IsOrderly job → has_number t (holding_tasks job) ≡ is_live_task job t
holding_has t job least one =
    union_has t (union job.queued job.broken) (set_of (numbered job.running)) (union_form job.queued job.broken one.waiting one.broken) (set_of_form (numbered job.running) rise)
    ∙ (λ i. union_has t job.queued job.broken one.waiting one.broken i || runs i)
  where
    rise : Rising 0 (numbered job.running)
    rise = numbered_rise job.running one.keys

    at_least : nat_le 1 t ≡ true
    at_least = grind arith

    runs : has_number t (set_of (numbered job.running)) ≡ is_some (at_number job.running t)
    runs = set_of_has t (numbered job.running) rise ∙ numbered_has t job.running ∙ ap (λ z. z && has_key t job.running) at_least ∙ sym (at_has t job.running)

-- ---- those of the array predecessors

in_form : (found : Option Job) → IfOrderly found → is_form (holding_in found) ≡ true
in_form None one = refl
in_form (Some job) one = holding_form job one

in_has : (t : ℕ) (found : Option Job) → 1 ≤ t → IfOrderly found → has_number t (holding_in found) ≡ is_live_in found t
in_has t None least one = refl
in_has t (Some job) least one = holding_has t job least one

-- whether a task lives in one of these jobs
abbrev lives : List (ℕ × Job) → ℕ → List ℕ → Bool
lives jobs t numbers = list_any (λ number. is_live_in (at_number jobs number) t) numbers

all_form : (jobs : List (ℕ × Job)) (tasks : List TaskSpan) (numbers : List ℕ) → AllOrderly jobs → is_form tasks ≡ true → is_form (fold (with_holding jobs) tasks numbers) ≡ true
all_form jobs tasks [] all form = form
all_form jobs tasks (n ∷ numbers) all form =
    all_form jobs (with_holding jobs tasks n) numbers all (union_form tasks (holding_in (at_number jobs n)) form (in_form (at_number jobs n) (there_orderly jobs n all)))

all_has : (t : ℕ) (jobs : List (ℕ × Job)) (tasks : List TaskSpan) (numbers : List ℕ) → 1 ≤ t → AllOrderly jobs → is_form tasks ≡ true
    → has_number t (fold (with_holding jobs) tasks numbers) ≡ (has_number t tasks || lives jobs t numbers)
all_has t jobs tasks [] least all form = or_nothing (has_number t tasks)
  where
    or_nothing : (u : Bool) → u ≡ (u || false)
    or_nothing true = refl
    or_nothing false = refl
all_has t jobs tasks (n ∷ numbers) least all form =
    all_has t jobs (with_holding jobs tasks n) numbers least all (union_form tasks (holding_in (at_number jobs n)) form there)
    ∙ ap (λ z. z || lives jobs t numbers) (union_has t tasks (holding_in (at_number jobs n)) form there ∙ ap (λ z. has_number t tasks || z) (in_has t (at_number jobs n) least (there_orderly jobs n all)))
    ∙ regrouped (has_number t tasks) (is_live_in (at_number jobs n) t) (lives jobs t numbers)
  where
    there : is_form (holding_in (at_number jobs n)) ≡ true
    there = in_form (at_number jobs n) (there_orderly jobs n all)

    regrouped : (a b c : Bool) → ((a || b) || c) ≡ (a || (b || c))
    regrouped true b c = refl
    regrouped false b c = refl

before_form : (jobs : List (ℕ × Job)) (job : Job) → AllOrderly jobs → is_form (predecessor_tasks jobs job) ≡ true
before_form jobs job all = all_form jobs [] job.after_each all refl

before_has : (t : ℕ) (jobs : List (ℕ × Job)) (job : Job) → 1 ≤ t → AllOrderly jobs → has_number t (predecessor_tasks jobs job) ≡ is_task_held jobs job t
before_has t jobs job least all = all_has t jobs [] job.after_each least all refl

-- ---- the law

-- a number that is in a set is at least 1, so a fact from 1 on serves beside it
beside : (t : ℕ) (set : List TaskSpan) (u v : Bool) → is_form set ≡ true → (1 ≤ t → u ≡ v) → (has_number t set && u) ≡ (has_number t set && v)
beside t set u v form same = by (has_number t set) refl
  where
    by : (has : Bool) → has_number t set ≡ has → (has && u) ≡ (has && v)
    by true is = same (above_low t 0 set (form_rises set form) is)
    by false is = refl

-- the held tasks are in the form, and are the waiting tasks that a task of their number holds
pub held_form : (jobs : List (ℕ × Job)) (job : Job) → AllOrderly jobs → IsOrderly job → is_form (held_tasks jobs job) ≡ true
held_form jobs job all one = meet_form job.queued (predecessor_tasks jobs job) one.waiting (before_form jobs job all)

pub held_has : (t : ℕ) (jobs : List (ℕ × Job)) (job : Job) → AllOrderly jobs → IsOrderly job → has_number t (held_tasks jobs job) ≡ (has_number t job.queued && is_task_held jobs job t)
held_has t jobs job all one =
    meet_has t job.queued (predecessor_tasks jobs job) one.waiting (before_form jobs job all)
    ∙ beside t job.queued _ _ one.waiting (λ least. before_has t jobs job least all)

-- the free tasks are in the form, and are the others
pub free_form : (jobs : List (ℕ × Job)) (job : Job) → AllOrderly jobs → IsOrderly job → is_form (free_tasks jobs job) ≡ true
free_form jobs job all one = difference_form job.queued (predecessor_tasks jobs job) one.waiting (before_form jobs job all)

pub free_has : (t : ℕ) (jobs : List (ℕ × Job)) (job : Job) → AllOrderly jobs → IsOrderly job → has_number t (free_tasks jobs job) ≡ (has_number t job.queued && not (is_task_held jobs job t))
free_has t jobs job all one =
    difference_has t job.queued (predecessor_tasks jobs job) one.waiting (before_form jobs job all)
    ∙ beside t job.queued _ _ one.waiting (λ least. ap not (before_has t jobs job least all))

-- ---- each task asked

lower : (low n : ℕ) (numbers : List ℕ) → low < n → Rising n numbers → Rising low numbers
lower low n [] below rising = tt
lower low n (m ∷ numbers) below (higher, rising) = (omega arith, rising)

tested_rise : (test : ℕ → Bool) (low : ℕ) (numbers : List ℕ) → Rising low numbers → Rising low (filter test numbers)
tested_rise test low [] rising = tt
tested_rise test low (n ∷ numbers) (higher, rising) = by (test n) (tested_rise test n numbers rising)
  where
    by : (fits : Bool) → Rising n (filter test numbers) → Rising low (cond fits (n ∷ filter test numbers) (filter test numbers))
    by true again = (higher, again)
    by false again = lower low n (filter test numbers) higher again

tested_has : (test : ℕ → Bool) (t : ℕ) (numbers : List ℕ) → is_among t (filter test numbers) ≡ (is_among t numbers && test t)
tested_has test t [] = refl
tested_has test t (n ∷ numbers) = by (t == n) refl (test n) refl (tested_has test t numbers)
  where
    by : (here : Bool) → (t == n) ≡ here → (fits : Bool) → test n ≡ fits → is_among t (filter test numbers) ≡ (is_among t numbers && test t)
        → is_among t (cond fits (n ∷ filter test numbers) (filter test numbers)) ≡ ((here || is_among t numbers) && test t)
    by true is true fits again = ap (λ z. z || is_among t (filter test numbers)) is ∙ sym (ap test (eqb-true t n is) ∙ fits)
    by true is false fits again = again ∙ ap (λ z. is_among t numbers && z) none ∙ nothing (is_among t numbers) ∙ sym none
      where
        none : test t ≡ false
        none = ap test (eqb-true t n is) ∙ fits

        nothing : (u : Bool) → (u && false) ≡ false
        nothing true = refl
        nothing false = refl
    by false is true fits again = ap (λ z. z || is_among t (filter test numbers)) is ∙ again
    by false is false fits again = again

-- a set that has of another one what passes a test has the numbers that pass it
asked : (test : ℕ → Bool) (set whole : List TaskSpan) → is_form set ≡ true → is_form whole ≡ true
    → ((t : ℕ) → has_number t set ≡ (has_number t whole && test t)) → numbers_of set ≡ filter test (numbers_of whole)
asked test set whole one two has =
    same_numbers 0 (numbers_of set) (filter test (numbers_of whole)) (numbers_rise 0 set first) (tested_rise test 0 (numbers_of whole) (numbers_rise 0 whole second))
    (λ t. numbers_has t 0 set first ∙ has t ∙ sym (tested_has test t (numbers_of whole) ∙ ap (λ z. z && test t) (numbers_has t 0 whole second)))
  where
    first : Rises 0 set
    first = form_rises set one

    second : Rises 0 whole
    second = form_rises whole two

-- as a set
filtered_is : (test : ℕ → Bool) (set whole : List TaskSpan) → is_form set ≡ true → is_form whole ≡ true
    → ((t : ℕ) → has_number t set ≡ (has_number t whole && test t)) → filtered test whole ≡ set
filtered_is test set whole one two has = ap set_of (sym (asked test set whole one two has)) ∙ set_of_numbers set one

-- so two sets meet in those numbers of the first that the second has, by asking each
pub filtered_meets : (spans others : List TaskSpan) → is_form spans ≡ true → is_form others ≡ true → filtered (λ task. has_number task others) spans ≡ meet spans others
filtered_meets spans others one two =
    filtered_is (λ task. has_number task others) (meet spans others) spans (meet_form spans others one two) one (λ t. meet_has t spans others one two)

-- the held tasks and the free ones, by asking of each waiting task whether it is held
pub held_asked : (jobs : List (ℕ × Job)) (job : Job) → AllOrderly jobs → IsOrderly job → numbers_of (held_tasks jobs job) ≡ filter (is_task_held jobs job) (numbers_of job.queued)
held_asked jobs job all one =
    asked (is_task_held jobs job) (held_tasks jobs job) job.queued (held_form jobs job all one) one.waiting (λ t. held_has t jobs job all one)

pub free_asked : (jobs : List (ℕ × Job)) (job : Job) → AllOrderly jobs → IsOrderly job → numbers_of (free_tasks jobs job) ≡ filter (λ task. not (is_task_held jobs job task)) (numbers_of job.queued)
free_asked jobs job all one =
    asked (λ task. not (is_task_held jobs job task)) (free_tasks jobs job) job.queued (free_form jobs job all one) one.waiting (λ t. free_has t jobs job all one)
