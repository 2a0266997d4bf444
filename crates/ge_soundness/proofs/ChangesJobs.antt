-- A job after tasks of it end, are deleted or wait again: what it has is a part of what it had.
use Rattle.std.proofs.Common.{◌≡◌, ℕ, ◌-◌, ◌≤◌, ◌%◌, ◌==◌, ◌&&◌, ◌||◌, Bool, true, false, not, if◌then◌else◌, List, [], ◌∷◌, Option, refl, ap, ◌∙◌, arith, true≢false}
use Rattle.std.specs.Prelude.{map}
use Rattle.std.specs.BTreeMap.{is_at}
use Rattle.std.specs.List.{AllByRecursion}
use Rattle.std.specs.Ordering.{nat_cmp}
use Rattle.std.proofs.Math.Nat.{zero-mod, sub_self}
use Rattle.std.proofs.lemmas.Bool.{and_from, or_left, eq-eqb, le-leb}
use Rattle.ge_model_rows.specs.JobRows.{Job, Running}
use Rattle.ge_model_rows.specs.TaskRows.{TaskSpan, is_form}
use Rattle.ge_model_rows.specs.Pieces.{is_empty}
use Rattle.ge_model_rows.specs.Spans.{in_span}
use Rattle.ge_model_rows.specs.Sets.{has_number, union}
use Rattle.ge_model_rows.proofs.Sets.{form_rises}
use Rattle.ge_model_rows.proofs.Together.{union_has}
use Rattle.ge_model_jobs.specs.Soundness.{HasTask, serial_of}
use Rattle.ge_model_jobs.specs.Picks.{names_task, named_in}
use Rattle.ge_model_jobs.specs.declared.After.{After}
use Rattle.ge_model_jobs.specs.declared.After.TheVariants as after
use Rattle.ge_model_jobs.specs.Ending.{has_no_task, gone, again, in_error, moved, without_ended, marked, is_unnamed, run_on, without_picked, cleared}
use Rattle.ge_model_jobs.specs.Orderly.{has_key, IsOrderly}
use Rattle.ge_model_jobs.proofs.Places.{is_task, Keeps, IsPick, gone_keeps, again_keeps, in_error_keeps, deleted_keeps, cleared_keeps, named_form, named_has, unnamed_has}
use Rattle.ge_model_jobs.proofs.Orderly.{same_places}
use Rattle.ge_soundness.proofs.ChangesParts.{IsPart, part_all, part_then, part_filter, part_facts, part_map, part_removed}

-- ---- the tasks that run on

-- tasks that run on: no serial comes up, and no task that started later
pub record RunOn (old new : List (ℕ × Running)) : Type 0 where
  pub serials : IsPart (map serial_of old) (map serial_of new)
  pub starts : (moment : ℕ) → AllByRecursion (λ task. task.1.start ≤ moment) old → AllByRecursion (λ task. task.1.start ≤ moment) new

-- tasks of which some are gone
run_part : {old new : List (ℕ × Running)} → IsPart old new → RunOn old new
run_part part = record { serials = part_map serial_of part; starts = λ moment before. part_facts (λ task. task.1.start ≤ moment) part before }

-- tasks that are marked for deletion run on under their serials, from the moments at which they started
marked_serials : (tasks : Option (List TaskSpan)) (running : List (ℕ × Running)) → IsPart (map serial_of running) (map serial_of (map (marked tasks) running))
marked_serials tasks [] = part_all []
marked_serials tasks (task ∷ running) = by (names_task tasks task.0) (marked_serials tasks running)
  where
    by : (named : Bool) → IsPart (map serial_of running) (map serial_of (map (marked tasks) running))
        → IsPart (task.1.serial ∷ map serial_of running) ((if named then record (task.1) { deleting = true } else task.1).serial ∷ map serial_of (map (marked tasks) running))
    by true rest = IsPart.same rest
    by false rest = IsPart.same rest

marked_starts : (moment : ℕ) (tasks : Option (List TaskSpan)) (running : List (ℕ × Running)) → AllByRecursion (λ task. task.1.start ≤ moment) running
    → AllByRecursion (λ task. task.1.start ≤ moment) (map (marked tasks) running)
marked_starts moment tasks [] before = tt
marked_starts moment tasks (task ∷ running) before = (by (names_task tasks task.0), marked_starts moment tasks running before.1)
  where
    by : (named : Bool) → (if named then record (task.1) { deleting = true } else task.1).start ≤ moment
    by true = before.0
    by false = before.0

-- ---- jobs

-- a job after a change: orderly, submitted when it was, with the span and the advance reservation it had, and no task, serial or start comes up
pub record Follows (old new : Job) : Type 0 where
  pub orderly : IsOrderly new
  pub had : (t : ℕ) → is_task t new ≡ true → is_task t old ≡ true
  pub span : new.span ≡ old.span
  pub submitted : new.submitted ≡ old.submitted
  pub advance : new.advance ≡ old.advance
  pub running : RunOn old.running new.running

-- nothing changes
pub follows_same : (job : Job) → IsOrderly job → Follows job job
follows_same job one = record { orderly = one; had = λ t has. has; span = refl; submitted = refl; advance = refl; running = run_part (part_all job.running) }

-- one change after the other
pub follows_then : {first second third : Job} → Follows first second → Follows second third → Follows first third
follows_then p q = record {
  orderly = q.orderly;
  had = λ t has. p.had t (q.had t has);
  span = q.span ∙ p.span;
  submitted = q.submitted ∙ p.submitted;
  advance = q.advance ∙ p.advance;
  running = record {
    serials = part_then p.running.serials q.running.serials;
    starts = λ moment before. q.running.starts moment (p.running.starts moment before);
  };
}

-- a change that keeps the places of the tasks, and lets no other task run
follows_kept : (old new : Job) → Keeps old new → new.span ≡ old.span → new.submitted ≡ old.submitted → new.advance ≡ old.advance → RunOn old.running new.running → Follows old new
follows_kept old new keeps span submitted advance running = record { orderly = keeps.0; had = keeps.1; span = span; submitted = submitted; advance = advance; running = running }

-- fields of which soundness doesn't speak change
pub follows_fields : (old new : Job) → new.queued ≡ old.queued → new.broken ≡ old.broken → new.running ≡ old.running → new.span ≡ old.span → new.submitted ≡ old.submitted
    → new.advance ≡ old.advance → IsOrderly old → Follows old new
follows_fields old new p q r span submitted advance one = record {
  orderly = same_places old new p q r one;
  had = λ t has. rw (← p, ← q, ← r) has;
  span = span;
  submitted = submitted;
  advance = advance;
  running = rw r (run_part (part_all old.running));
}

-- tasks in error wait again
pub cleared_follows : (tasks : Option (List TaskSpan)) (job : Job) → IsPick tasks → IsOrderly job → Follows job (cleared tasks job)
cleared_follows tasks job pick one = follows_kept job (cleared tasks job) (cleared_keeps tasks job pick one) refl refl refl (run_part (part_all job.running))

-- no task is lost by that
pub cleared_has : (number : ℕ) (tasks : Option (List TaskSpan)) (job : Job) → IsPick tasks → IsOrderly job → HasTask (number, job) → HasTask (number, cleared tasks job)
cleared_has number tasks job pick one has = (has.0, stays (names_task tasks has.0) _ _ (has_key has.0 job.running) _ _ waiting (unnamed_has has.0 tasks job.broken pick one.broken) has.1)
  where
    stays : (named w b r w' b' : Bool) → w' ≡ (w || (b && named)) → b' ≡ (b && not named) → (w || b || r) ≡ true → (w' || b' || r) ≡ true
    stays named w b r w' b' p q h = grind arith

    waiting : has_number has.0 (union job.queued (named_in tasks job.broken)) ≡ (has_number has.0 job.queued || (has_number has.0 job.broken && names_task tasks has.0))
    waiting =
        union_has has.0 job.queued (named_in tasks job.broken) one.waiting (named_form tasks job.broken pick one.broken)
        ∙ ap (λ x. has_number has.0 job.queued || x) (named_has has.0 tasks job.broken pick one.broken)

-- tasks are deleted
pub deleted_follows : (force : Bool) (tasks : Option (List TaskSpan)) (job : Job) → IsPick tasks → IsOrderly job → Follows job (without_picked force tasks job)
deleted_follows force tasks job is one = follows_kept job (without_picked force tasks job) (deleted_keeps force tasks job is one) refl refl refl (by force)
  where
    by : (force : Bool) → RunOn job.running (run_on force tasks job.running)
    by true = run_part (part_filter (is_unnamed tasks) job.running)
    by false = record { serials = marked_serials tasks job.running; starts = λ moment before. marked_starts moment tasks job.running before }

-- a task ends
pub exit_follows : (end : After) (task : ℕ) (job : Job) → has_key task job.running ≡ true → IsOrderly job → Follows job (without_ended end task job)
exit_follows end task job runs one = by (task == 0) at_least end
  where
    at_least : (task == 0) ≡ false → 1 ≤ task
    at_least h = grind arith

    less : RunOn job.running (gone task job).running
    less = run_part (part_removed (is_at (nat_cmp task)) job.running)

    ends : Follows job (gone task job)
    ends = follows_kept job (gone task job) (gone_keeps task job one) refl refl refl less

    by : (none : Bool) → (none ≡ false → 1 ≤ task) → (end : After) → Follows job (if none then gone task job else moved end task job)
    by true h end = ends
    by false h after.Gone = ends
    by false h after.Again = follows_kept job (again task job) (again_keeps task job (h refl) runs one) refl refl refl less
    by false h after.Broken = follows_kept job (in_error task job) (in_error_keeps task job (h refl) runs one) refl refl refl less

-- ---- what isn't empty

-- a set in the form has its first number
first_there : (s : TaskSpan) (rest : List TaskSpan) → is_form (s ∷ rest) ≡ true → has_number s.first (s ∷ rest) ≡ true
first_there s rest form =
    let made = (form_rises (s ∷ rest) form).1 in
    let none : (s.first - s.first) % s.step ≡ 0 = ap (λ a. a % s.step) (sub_self s.first) ∙ zero-mod s.step in
    or_left (in_span s.first s) _ (and_from _ _ (and_from _ _ (le-leb s.first s.first (omega arith)) (le-leb s.first s.last made.ordered)) (eq-eqb _ 0 none))

-- of three lists, two of them sets in the form, that aren't all empty, one has a number
some_there : (queued broken : List TaskSpan) (running : List (ℕ × Running)) → is_form queued ≡ true → is_form broken ≡ true → (is_empty queued && is_empty broken && is_empty running) ≡ false
    → (n : ℕ) × ((has_number n queued || has_number n broken || has_key n running) ≡ true)
some_there (s ∷ rest) broken running f g h = (s.first, or_left _ _ (or_left _ _ (first_there s rest f)))
some_there [] (s ∷ rest) running f g h = (s.first, or_left _ _ (first_there s rest g))
some_there [] [] (task ∷ running) f g h = (task.0, or_left (task.0 == task.0) _ (eq-eqb task.0 task.0 refl))
some_there [] [] [] f g h = absurd (true≢false h)

-- so a job that isn't empty has a task
pub has_some : (number : ℕ) (job : Job) → IsOrderly job → has_no_task job ≡ false → HasTask (number, job)
has_some number job one some = some_there job.queued job.broken job.running one.waiting one.broken some
