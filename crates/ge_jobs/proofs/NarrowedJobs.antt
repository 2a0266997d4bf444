-- The tasks of a job that targets name, in place of all tasks that they name, do the same to the job.
use Rattle.std.proofs.Common.{◌≡◌, ℕ, ◌<◌, ◌==◌, ◌&&◌, ◌||◌, Bool, true, false, not, cond, if◌then◌else◌, nat_le, nat_cmp, List, [], ◌∷◌, map, refl, sym, ap, ◌∙◌, arith}
use Rattle.std.specs.Prelude.{Option, Some, filter}
use Rattle.std.specs.List.Sorted.{IsStrictlySortedBy}
use Rattle.std.specs.Map.{keys_of}
use Rattle.std.proofs.lemmas.Bool.{eqb-true, eq-eqb}
use Rattle.ge_model_rows.specs.JobRows.{Job, Running}
use Rattle.ge_model_rows.specs.TaskRows.{TaskSpan, is_form}
use Rattle.ge_model_rows.specs.Sets.{has_number, set_of, union, meet, difference}
use Rattle.ge_model_rows.proofs.Sets.{form_rises}
use Rattle.ge_model_rows.proofs.Merged.{above_low}
use Rattle.ge_model_rows.proofs.Numbers.{Rising, is_among, set_of_form, set_of_has}
use Rattle.ge_model_rows.proofs.Together.{union_form, union_has, meet_form, meet_has, difference_form, difference_has}
use Rattle.ge_model_rows.proofs.Unique.{one_form}
use Rattle.ge_ranges.proofs.Listed.{rises}
use Rattle.ge_jobs.proofs.Rising.{rising_keys}
use Rattle.ge_model_jobs.specs.Holds.{holding_tasks}
use Rattle.ge_model_jobs.specs.Orderly.{has_key}
use Rattle.ge_model_jobs.specs.Picks.{names_task}
use Rattle.ge_model_jobs.specs.Ending.{is_named, is_unnamed, marked, run_on, without_picked, cleared}

or_later : (u w : Bool) → w ≡ true → (u || w) ≡ true
or_later true w h = refl
or_later false w h = h

-- ---- the tasks that run

module _ (part tasks : Option (List TaskSpan)) where
  -- of these tasks both name the same
  abbrev Agree : List (ℕ × Running) → Type 0
  Agree rows = (t : ℕ) → has_key t rows ≡ true → names_task part t ≡ names_task tasks t

  agree_first : (row : ℕ × Running) (rows : List (ℕ × Running)) → Agree (row ∷ rows) → names_task part row.0 ≡ names_task tasks row.0
  agree_first row rows agree = agree row.0 (ap (λ b. b || has_key row.0 rows) (eq-eqb row.0 row.0 refl))

  agree_later : (row : ℕ × Running) (rows : List (ℕ × Running)) → Agree (row ∷ rows) → Agree rows
  agree_later row rows agree = λ t has. agree t (or_later (t == row.0) (has_key t rows) has)

  same_named : (rows : List (ℕ × Running)) → Agree rows → filter (is_named part) rows ≡ filter (is_named tasks) rows
  same_named [] agree = refl
  same_named (row ∷ rows) agree =
      let here = agree_first row rows agree in
      let later = same_named rows (agree_later row rows agree) in
      λ i. cond (here i) (row ∷ later i) (later i)

  same_unnamed : (rows : List (ℕ × Running)) → Agree rows → filter (is_unnamed part) rows ≡ filter (is_unnamed tasks) rows
  same_unnamed [] agree = refl
  same_unnamed (row ∷ rows) agree =
      let here = agree_first row rows agree in
      let later = same_unnamed rows (agree_later row rows agree) in
      λ i. cond (not (here i)) (row ∷ later i) (later i)

  same_marked : (rows : List (ℕ × Running)) → Agree rows → map (marked part) rows ≡ map (marked tasks) rows
  same_marked [] agree = refl
  same_marked (row ∷ rows) agree =
      let here = agree_first row rows agree in
      let later = same_marked rows (agree_later row rows agree) in
      λ i. (row.0, if here i then record (row.1) { deleting = true } else row.1) ∷ later i

  same_run : (force : Bool) (rows : List (ℕ × Running)) → Agree rows → run_on force part rows ≡ run_on force tasks rows
  same_run true rows agree = same_unnamed rows agree
  same_run false rows agree = same_marked rows agree

-- a task that runs is among those from 1 on
among_kept : (t : ℕ) (rows : List (ℕ × Running)) → nat_le 1 t ≡ true → has_key t rows ≡ true → is_among t (filter (nat_le 1) (keys_of rows)) ≡ true
among_kept t [] least has = has
among_kept t (row ∷ rows) least has = by (nat_le 1 row.0) refl (t == row.0) refl has (among_kept t rows least)
  where
    rest : List ℕ
    rest = filter (nat_le 1) (keys_of rows)

    by : (fits : Bool) → nat_le 1 row.0 ≡ fits → (here : Bool) → (t == row.0) ≡ here → (here || has_key t rows) ≡ true
        → (has_key t rows ≡ true → is_among t rest ≡ true) → is_among t (cond fits (row.0 ∷ rest) rest) ≡ true
    by true is true same h again = ap (λ z. z || is_among t rest) same
    by true is false same h again = ap (λ z. z || is_among t rest) same ∙ again h
    by false is true same h again = absurd (let e = eqb-true t row.0 same in grind arith)
    by false is false same h again = again h

-- no set in the form has a number below 1
none_below : (t : ℕ) (set : List TaskSpan) → is_form set ≡ true → nat_le 1 t ≡ false → has_number t set ≡ false
none_below t set form small = by (has_number t set) refl
  where
    by : (b : Bool) → has_number t set ≡ b → has_number t set ≡ false
    by true has = absurd (let above : 0 < t = above_low t 0 set (form_rises set form) has in grind arith)
    by false has = has

-- ---- the tasks of a job

module _ (job : Job) (all : List TaskSpan) (waiting : is_form job.queued ≡ true) (broken : is_form job.broken ≡ true)
    (sorted : IsStrictlySortedBy nat_cmp (keys_of job.running)) (form : is_form all ≡ true) where
  abbrev numbered : List ℕ
  numbered = filter (nat_le 1) (keys_of job.running)

  abbrev own : List TaskSpan
  own = holding_tasks job

  abbrev part : List TaskSpan
  part = meet own all

  rising : Rising 0 numbered
  rising = rises 0 numbered (rising_keys (keys_of job.running) sorted)

  waits_form : is_form (union job.queued job.broken) ≡ true
  waits_form = union_form job.queued job.broken waiting broken

  own_form : is_form own ≡ true
  own_form = union_form (union job.queued job.broken) (set_of numbered) waits_form (set_of_form numbered rising)

  own_has : (t : ℕ) → has_number t own ≡ ((has_number t job.queued || has_number t job.broken) || is_among t numbered)
  own_has t =
      union_has t (union job.queued job.broken) (set_of numbered) waits_form (set_of_form numbered rising)
      ∙ (λ i. union_has t job.queued job.broken waiting broken i || set_of_has t numbered rising i)

  part_form : is_form part ≡ true
  part_form = meet_form own all own_form form

  -- of the job's tasks the part has those that all have
  inside : (t : ℕ) → has_number t own ≡ true → has_number t part ≡ has_number t all
  inside t has = meet_has t own all own_form form ∙ ap (λ b. b && has_number t all) has

  queued_inside : (t : ℕ) → has_number t job.queued ≡ true → has_number t own ≡ true
  queued_inside t has = own_has t ∙ ap (λ b. (b || has_number t job.broken) || is_among t numbered) has

  broken_inside : (t : ℕ) → has_number t job.broken ≡ true → has_number t own ≡ true
  broken_inside t has = own_has t ∙ ap (λ b. b || is_among t numbered) (or_later (has_number t job.queued) (has_number t job.broken) has)

  agree : Agree (Some part) (Some all) job.running
  agree t has = by (nat_le 1 t) refl
    where
      by : (least : Bool) → nat_le 1 t ≡ least → has_number t part ≡ has_number t all
      by true is = inside t (own_has t ∙ or_later (has_number t job.queued || has_number t job.broken) (is_among t numbered) (among_kept t job.running is has))
      by false is = none_below t part part_form is ∙ sym (none_below t all form is)

  only_left : (u v w : Bool) → (u ≡ true → v ≡ w) → (u && not v) ≡ (u && not w)
  only_left true v w same = ap (λ b. not b) (same refl)
  only_left false v w same = refl

  only_met : (u v w : Bool) → (u ≡ true → v ≡ w) → (u && v) ≡ (u && w)
  only_met true v w same = same refl
  only_met false v w same = refl

  left_same : (set : List TaskSpan) → is_form set ≡ true → ((t : ℕ) → has_number t set ≡ true → has_number t own ≡ true) → difference set part ≡ difference set all
  left_same set set_form within =
      one_form (difference set part) (difference set all) (difference_form set part set_form part_form) (difference_form set all set_form form)
      (λ t. difference_has t set part set_form part_form
      ∙ only_left (has_number t set) (has_number t part) (has_number t all) (λ has. inside t (within t has))
      ∙ sym (difference_has t set all set_form form))

  met_same : (set : List TaskSpan) → is_form set ≡ true → ((t : ℕ) → has_number t set ≡ true → has_number t own ≡ true) → meet set part ≡ meet set all
  met_same set set_form within =
      one_form (meet set part) (meet set all) (meet_form set part set_form part_form) (meet_form set all set_form form)
      (λ t. meet_has t set part set_form part_form
      ∙ only_met (has_number t set) (has_number t part) (has_number t all) (λ has. inside t (within t has))
      ∙ sym (meet_has t set all set_form form))

  deleted_same : (force : Bool) → without_picked force (Some part) job ≡ without_picked force (Some all) job
  deleted_same force =
      let queued_same = left_same job.queued waiting queued_inside in
      let broken_same = left_same job.broken broken broken_inside in
      let running_same = same_run (Some part) (Some all) force job.running agree in
      λ i. record job { queued = queued_same i; broken = broken_same i; running = running_same i }

  cleared_same : cleared (Some part) job ≡ cleared (Some all) job
  cleared_same =
      let named_same = met_same job.broken broken broken_inside in
      let broken_same = left_same job.broken broken broken_inside in
      λ i. record job { queued = union job.queued (named_same i); broken = broken_same i }

pub narrowed_part : (job : Job) (all own_tasks part_tasks : List TaskSpan) → own_tasks ≡ holding_tasks job → part_tasks ≡ meet own_tasks all
    → part_tasks ≡ meet (holding_tasks job) all
narrowed_part job all own_tasks part_tasks is met = met ∙ ap (λ (tasks : List TaskSpan). meet tasks all) is

pub narrowed_deleted : (job : Job) (all own_tasks part_tasks : List TaskSpan) → is_form job.queued ≡ true → is_form job.broken ≡ true
    → IsStrictlySortedBy nat_cmp (keys_of job.running) → is_form all ≡ true → own_tasks ≡ holding_tasks job → part_tasks ≡ meet own_tasks all
    → (force : Bool) → without_picked force (Some part_tasks) job ≡ without_picked force (Some all) job
narrowed_deleted job all own_tasks part_tasks waiting broken sorted form is met force =
    ap (λ (tasks : List TaskSpan). without_picked force (Some tasks) job) (met ∙ ap (λ (tasks : List TaskSpan). meet tasks all) is) ∙ deleted_same job all waiting broken sorted form force

pub narrowed_named : (job : Job) (all own_tasks part_tasks : List TaskSpan) → is_form job.queued ≡ true → is_form job.broken ≡ true
    → IsStrictlySortedBy nat_cmp (keys_of job.running) → is_form all ≡ true → own_tasks ≡ holding_tasks job → part_tasks ≡ meet own_tasks all
    → filter (is_named (Some part_tasks)) job.running ≡ filter (is_named (Some all)) job.running
narrowed_named job all own_tasks part_tasks waiting broken sorted form is met =
    ap (λ (tasks : List TaskSpan). filter (is_named (Some tasks)) job.running) (met ∙ ap (λ (tasks : List TaskSpan). meet tasks all) is)
    ∙ same_named (Some (meet (holding_tasks job) all)) (Some all) job.running (agree job all waiting broken sorted form)

pub narrowed_cleared : (job : Job) (all own_tasks part_tasks : List TaskSpan) → is_form job.queued ≡ true → is_form job.broken ≡ true
    → IsStrictlySortedBy nat_cmp (keys_of job.running) → is_form all ≡ true → own_tasks ≡ holding_tasks job → part_tasks ≡ meet own_tasks all
    → cleared (Some part_tasks) job ≡ cleared (Some all) job
narrowed_cleared job all own_tasks part_tasks waiting broken sorted form is met =
    ap (λ (tasks : List TaskSpan). cleared (Some tasks) job) (met ∙ ap (λ (tasks : List TaskSpan). meet tasks all) is) ∙ cleared_same job all waiting broken sorted form
