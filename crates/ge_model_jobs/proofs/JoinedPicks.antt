-- Picks that are joined job by job name what the picks as written name, and change a job as those do one after the other.
use Rattle.std.proofs.Common.{◌≡◌, ℕ, ◌==◌, ◌&&◌, ◌||◌, Bool, true, false, not, cond, List, [], ◌∷◌, map, filter, fold, Option, Some, None, refl, sym, ap, ◌∙◌, arith, nat_cmp, Ordering, Less, Equal, Greater}
use Rattle.std.specs.BTreeMap.{is_at}
use Rattle.std.specs.List.{list_any}
use Rattle.std.specs.Ordering.{match_ordering}
use Rattle.ge_collections.specs.Keyed.{at_number, put_number}
use Rattle.ge_model_rows.specs.EntryRows.{Pick}
use Rattle.ge_model_rows.specs.JobRows.{Job, Running}
use Rattle.ge_model_rows.specs.TaskRows.{TaskSpan, is_form}
use Rattle.ge_model_rows.specs.Sets.{has_number, union}
use Rattle.ge_model_rows.proofs.Together.{union_form, union_has}
use Rattle.ge_model_rows.proofs.Unique.{one_form}
use Rattle.ge_model_jobs.specs.Picks.{picks_task, is_joined_name, names_task, named_in, unnamed_in, picked_tasks, both_named, with_named, join_pick, joined_picks}
use Rattle.ge_model_jobs.specs.Holds.{live_tasks}
use Rattle.ge_model_jobs.specs.Ending.{marked, is_unnamed, run_on, without_picked, cleared}
use Rattle.ge_model_jobs.specs.Orderly.{KeysFrom, IsOrderly}
use Rattle.ge_model_jobs.proofs.Keys.{same_key, put_rises}
use Rattle.ge_model_jobs.proofs.Places.{IsPick, named_form, unnamed_form, named_has, unnamed_has}
use Rattle.ge_model_jobs.proofs.Orderly.{ArePicks, AreJoined, IfJoined, both_fit, there_joined, put_joined, with_fit}

-- ---- what is named

-- two picks together name what either names
pub both_name : (t : ℕ) (first tasks : Option (List TaskSpan)) → IsPick first → IsPick tasks → names_task (both_named first tasks) t ≡ (names_task first t || names_task tasks t)
both_name t None tasks one two = refl
both_name t (Some first) None one two = or_true (has_number t first)
  where
    or_true : (u : Bool) → true ≡ (u || true)
    or_true true = refl
    or_true false = refl
both_name t (Some first) (Some tasks) one two = union_has t first tasks one two

-- what a table has at a number, once a row is put in
at_put : (n key : ℕ) (x : Option (List TaskSpan)) (rows : List (ℕ × Option (List TaskSpan))) → at_number (put_number rows key x) n ≡ cond (n == key) (Some x) (at_number rows n)
at_put n key x [] = ap (λ here. cond here (Some x) None) (same_key n key)
at_put n key x (row ∷ rows) = by (nat_cmp key row.0) refl (at_put n key x rows)
  where
    behind : Option (Option (List TaskSpan))
    behind = at_number rows n

    -- a row at another key stands before what is put in
    passed : (first here : Bool) → (first ≡ true → here ≡ false) → cond first (Some row.1) (cond here (Some x) behind) ≡ cond here (Some x) (cond first (Some row.1) behind)
    passed true true h = absurd (grind arith)
    passed true false h = refl
    passed false here h = refl

    by : (order : Ordering) → nat_cmp key row.0 ≡ order → at_number (put_number rows key x) n ≡ cond (n == key) (Some x) behind
        → at_number (match_ordering order ((key, x) ∷ row ∷ rows) ((row.0, x) ∷ rows) (row ∷ put_number rows key x)) n ≡ cond (n == key) (Some x) (cond (is_at (nat_cmp n) row.0) (Some row.1) behind)
    by Less is again = ap (λ here. cond here (Some x) (cond (is_at (nat_cmp n) row.0) (Some row.1) behind)) (same_key n key)
    by Equal is again = replaced (is_at (nat_cmp n) row.0) (n == key) same
      where
        same : is_at (nat_cmp n) row.0 ≡ (n == key)
        same = grind arith

        replaced : (first here : Bool) → first ≡ here → cond first (Some x) behind ≡ cond here (Some x) (cond first (Some row.1) behind)
        replaced true true h = refl
        replaced true false h = absurd (grind arith)
        replaced false true h = absurd (grind arith)
        replaced false false h = refl
    by Greater is again = ap (λ z. cond (is_at (nat_cmp n) row.0) (Some row.1) z) again ∙ passed (is_at (nat_cmp n) row.0) (n == key) (λ h. grind arith)

-- with one pick more, what is named at a job is what was, and what the pick names of that job
join_names : (number t : ℕ) (rows : List (ℕ × Option (List TaskSpan))) (pick : Pick) → IsPick pick.tasks → AreJoined rows
    → is_joined_name (at_number (join_pick rows pick) number) t ≡ (is_joined_name (at_number rows number) t || picks_task number t pick)
join_names number t rows pick fit all =
    ap (λ found. is_joined_name found t) (at_put number pick.job (with_named (at_number rows pick.job) pick.tasks) rows) ∙ by (number == pick.job) refl
  where
    or_nothing : (u : Bool) → u ≡ (u || false)
    or_nothing true = refl
    or_nothing false = refl

    with_names : (found : Option (Option (List TaskSpan))) → IfJoined found → names_task (with_named found pick.tasks) t ≡ (is_joined_name found t || names_task pick.tasks t)
    with_names None one = refl
    with_names (Some tasks) one = both_name t tasks pick.tasks one fit

    by : (here : Bool) → (number == pick.job) ≡ here
        → is_joined_name (cond here (Some (with_named (at_number rows pick.job) pick.tasks)) (at_number rows number)) t ≡ (is_joined_name (at_number rows number) t || (here && names_task pick.tasks t))
    by true is =
        let e : pick.job ≡ number = grind arith in
        with_names (at_number rows pick.job) (there_joined rows pick.job all) ∙ ap (λ n. is_joined_name (at_number rows n) t || names_task pick.tasks t) e
    by false is = or_nothing (is_joined_name (at_number rows number) t)

more_names : (number t : ℕ) (rows : List (ℕ × Option (List TaskSpan))) (picks : List Pick) → ArePicks picks → AreJoined rows
    → is_joined_name (at_number (fold join_pick rows picks) number) t ≡ (is_joined_name (at_number rows number) t || list_any (picks_task number t) picks)
more_names number t rows [] fit all = or_nothing (is_joined_name (at_number rows number) t)
  where
    or_nothing : (u : Bool) → u ≡ (u || false)
    or_nothing true = refl
    or_nothing false = refl
more_names number t rows (pick ∷ picks) fit all =
    more_names number t (join_pick rows pick) picks fit.1 (put_joined rows pick.job _ (with_fit (at_number rows pick.job) pick.tasks (there_joined rows pick.job all) fit.0) all)
    ∙ ap (λ z. z || list_any (picks_task number t) picks) (join_names number t rows pick fit.0 all)
    ∙ regrouped (is_joined_name (at_number rows number) t) (picks_task number t pick) (list_any (picks_task number t) picks)
  where
    regrouped : (a b c : Bool) → ((a || b) || c) ≡ (a || (b || c))
    regrouped true b c = refl
    regrouped false b c = refl

-- a task of a job is named by the picks that are joined where one of them as written names it
pub joined_names : (number t : ℕ) (picks : List Pick) → ArePicks picks → is_joined_name (at_number (joined_picks picks) number) t ≡ list_any (picks_task number t) picks
joined_names number t picks fit = more_names number t [] picks fit tt

-- the jobs stand by number, each once
more_rise : (rows : List (ℕ × Option (List TaskSpan))) (picks : List Pick) → KeysFrom 0 rows → KeysFrom 0 (fold join_pick rows picks)
more_rise rows [] keys = keys
more_rise rows (pick ∷ picks) keys = more_rise (join_pick rows pick) picks (put_rises 0 pick.job rows _ (omega arith) keys)

pub joined_rise : (picks : List Pick) → KeysFrom 0 (joined_picks picks)
joined_rise picks = more_rise [] picks tt

-- ---- what is changed

-- what neither of two picks names of a set
unnamed_twice : (first tasks : Option (List TaskSpan)) (set : List TaskSpan) → IsPick first → IsPick tasks → is_form set ≡ true
    → unnamed_in tasks (unnamed_in first set) ≡ unnamed_in (both_named first tasks) set
unnamed_twice first tasks set one two form =
    one_form (unnamed_in tasks (unnamed_in first set)) (unnamed_in (both_named first tasks) set)
    (unnamed_form tasks (unnamed_in first set) two (unnamed_form first set one form)) (unnamed_form (both_named first tasks) set (both_fit first tasks one two) form)
    (λ t. unnamed_has t tasks (unnamed_in first set) two (unnamed_form first set one form)
    ∙ ap (λ z. z && not (names_task tasks t)) (unnamed_has t first set one form)
    ∙ neither (has_number t set) (names_task first t) (names_task tasks t)
    ∙ sym (unnamed_has t (both_named first tasks) set (both_fit first tasks one two) form ∙ ap (λ z. has_number t set && not z) (both_name t first tasks one two)))
  where
    neither : (u a b : Bool) → ((u && not a) && not b) ≡ (u && not (a || b))
    neither true true b = refl
    neither true false b = refl
    neither false a b = refl

filtered_twice : (first tasks : Option (List TaskSpan)) (running : List (ℕ × Running)) → IsPick first → IsPick tasks
    → filter (is_unnamed tasks) (filter (is_unnamed first) running) ≡ filter (is_unnamed (both_named first tasks)) running
filtered_twice first tasks [] one two = refl
filtered_twice first tasks (task ∷ running) one two =
    by (names_task first task.0) (names_task tasks task.0) refl (names_task (both_named first tasks) task.0) (both_name task.0 first tasks one two) (filtered_twice first tasks running one two)
  where
    by : (a b : Bool) → names_task tasks task.0 ≡ b → (both : Bool) → both ≡ (a || b)
        → filter (is_unnamed tasks) (filter (is_unnamed first) running) ≡ filter (is_unnamed (both_named first tasks)) running
        → filter (is_unnamed tasks) (cond (not a) (task ∷ filter (is_unnamed first) running) (filter (is_unnamed first) running))
        ≡ cond (not both) (task ∷ filter (is_unnamed (both_named first tasks)) running) (filter (is_unnamed (both_named first tasks)) running)
    by true b is true same again = again
    by true b is false same again = absurd (grind arith)
    by false true is true same again = ap (λ z. cond (not z) (task ∷ filter (is_unnamed tasks) (filter (is_unnamed first) running)) (filter (is_unnamed tasks) (filter (is_unnamed first) running))) is ∙ again
    by false true is false same again = absurd (grind arith)
    by false false is true same again = absurd (grind arith)
    by false false is false same again =
        ap (λ z. cond (not z) (task ∷ filter (is_unnamed tasks) (filter (is_unnamed first) running)) (filter (is_unnamed tasks) (filter (is_unnamed first) running))) is ∙ ap (λ z. task ∷ z) again

marked_twice : (first tasks : Option (List TaskSpan)) (running : List (ℕ × Running)) → IsPick first → IsPick tasks
    → map (marked tasks) (map (marked first) running) ≡ map (marked (both_named first tasks)) running
marked_twice first tasks [] one two = refl
marked_twice first tasks (task ∷ running) one two = λ i. both (names_task first task.0) (names_task tasks task.0) (names_task (both_named first tasks) task.0) (both_name task.0 first tasks one two) i ∷ marked_twice first tasks running one two i
  where
    mark : Bool → Running → Running
    mark named row = cond named (record row { deleting = true }) row

    both : (a b named : Bool) → named ≡ (a || b) → ◌≡◌ {A = ℕ × Running} (task.0, mark b (mark a task.1)) (task.0, mark named task.1)
    both true true true same = refl
    both true false true same = refl
    both false true true same = refl
    both false false false same = refl
    both true b false same = absurd (grind arith)
    both false true false same = absurd (grind arith)
    both false false true same = absurd (grind arith)

-- a job that loses the tasks of two picks, one after the other, is the job that loses those of both together
pub deleted_twice : (force : Bool) (first tasks : Option (List TaskSpan)) (job : Job) → IsPick first → IsPick tasks → IsOrderly job
    → without_picked force tasks (without_picked force first job) ≡ without_picked force (both_named first tasks) job
deleted_twice force first tasks job one two orderly = λ i. record job {
  queued = unnamed_twice first tasks job.queued one two orderly.waiting i;
  broken = unnamed_twice first tasks job.broken one two orderly.broken i;
  running = ran force i;
}
  where
    ran : (force : Bool) → run_on force tasks (run_on force first job.running) ≡ run_on force (both_named first tasks) job.running
    ran true = filtered_twice first tasks job.running one two
    ran false = marked_twice first tasks job.running one two

-- and so it is with one whose tasks in error wait again
pub cleared_twice : (first tasks : Option (List TaskSpan)) (job : Job) → IsPick first → IsPick tasks → IsOrderly job → cleared tasks (cleared first job) ≡ cleared (both_named first tasks) job
cleared_twice first tasks job one two orderly = λ i. record job { queued = waiting i; broken = unnamed_twice first tasks job.broken one two orderly.broken i }
  where
    both : IsPick (both_named first tasks)
    both = both_fit first tasks one two

    left : List TaskSpan
    left = unnamed_in first job.broken

    left_form : is_form left ≡ true
    left_form = unnamed_form first job.broken one orderly.broken

    some : List TaskSpan
    some = union job.queued (named_in first job.broken)

    some_form : is_form some ≡ true
    some_form = union_form job.queued (named_in first job.broken) orderly.waiting (named_form first job.broken one orderly.broken)

    either : (w b x y : Bool) → ((w || (b && x)) || ((b && not x) && y)) ≡ (w || (b && (x || y)))
    either w b x y = grind arith

    waiting : union some (named_in tasks left) ≡ union job.queued (named_in (both_named first tasks) job.broken)
    waiting =
        one_form (union some (named_in tasks left)) (union job.queued (named_in (both_named first tasks) job.broken))
        (union_form some (named_in tasks left) some_form (named_form tasks left two left_form))
        (union_form job.queued (named_in (both_named first tasks) job.broken) orderly.waiting (named_form (both_named first tasks) job.broken both orderly.broken))
        (λ t. union_has t some (named_in tasks left) some_form (named_form tasks left two left_form)
        ∙ (λ i. (union_has t job.queued (named_in first job.broken) orderly.waiting (named_form first job.broken one orderly.broken)
        ∙ ap (λ z. has_number t job.queued || z) (named_has t first job.broken one orderly.broken)) i
        || (named_has t tasks left two left_form ∙ ap (λ z. z && names_task tasks t) (unnamed_has t first job.broken one orderly.broken)) i)
        ∙ either (has_number t job.queued) (has_number t job.broken) (names_task first t) (names_task tasks t)
        ∙ sym (union_has t job.queued (named_in (both_named first tasks) job.broken) orderly.waiting (named_form (both_named first tasks) job.broken both orderly.broken)
        ∙ ap (λ z. has_number t job.queued || z) (named_has t (both_named first tasks) job.broken both orderly.broken ∙ ap (λ z. has_number t job.broken && z) (both_name t first tasks one two))))

-- ---- what is counted

-- the live tasks of a job that two picks together name are those of the one and those of the other
pub picked_both : (first tasks : Option (List TaskSpan)) (job : Job) → IsPick first → IsPick tasks → is_form (live_tasks job) ≡ true
    → picked_tasks job (both_named first tasks) ≡ union (picked_tasks job first) (picked_tasks job tasks)
picked_both first tasks job one two form =
    one_form (picked_tasks job (both_named first tasks)) (union (picked_tasks job first) (picked_tasks job tasks))
    (named_form (both_named first tasks) live both form) (union_form (picked_tasks job first) (picked_tasks job tasks) (named_form first live one form) (named_form tasks live two form))
    (λ t. named_has t (both_named first tasks) live both form ∙ ap (λ z. has_number t live && z) (both_name t first tasks one two)
    ∙ each (has_number t live) (names_task first t) (names_task tasks t)
    ∙ sym (union_has t (picked_tasks job first) (picked_tasks job tasks) (named_form first live one form) (named_form tasks live two form)
    ∙ (λ i. named_has t first live one form i || named_has t tasks live two form i)))
  where
    live : List TaskSpan
    live = live_tasks job

    both : IsPick (both_named first tasks)
    both = both_fit first tasks one two

    each : (u a b : Bool) → (u && (a || b)) ≡ ((u && a) || (u && b))
    each u a b = grind arith
