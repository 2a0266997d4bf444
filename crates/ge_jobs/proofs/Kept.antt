-- Whether a job has a task left once a running one ends.
use Rattle.std.proofs.Common.{◌≡◌, ℕ, ◌+◌, ◌≤◌, ◌==◌, ◌&&◌, ◌||◌, Bool, true, false, cond, if◌then◌else◌, List, [], ◌∷◌, length, refl, sym, ap, ◌∙◌, arith}
use Rattle.std.specs.Prelude.{is_some, Some}
use Rattle.std.specs.BTreeMap.{is_at}
use Rattle.std.specs.Map.{lookup, remove_entry}
use Rattle.std.specs.Ordering.{nat_cmp}
use Rattle.std.proofs.lemmas.Bool.{eqb-false, true≢false, eq-eqb}
use Rattle.ge_collections.specs.Keyed.{at_number, drop_number}
use Rattle.ge_model_rows.specs.JobRows.{Job}
use Rattle.ge_model_rows.specs.TaskRows.{TaskSpan, is_form}
use Rattle.ge_model_rows.specs.Pieces.{is_empty}
use Rattle.ge_model_rows.specs.Sets.{with_number, has_number}
use Rattle.ge_model_rows.proofs.Sets.{with_number_has}
use Rattle.ge_model_jobs.specs.declared.After.{After}
use Rattle.ge_model_jobs.specs.declared.After.TheVariants as fate
use Rattle.ge_model_jobs.specs.Ending.{has_no_task, gone, moved, without_ended}
use Rattle.ge_jobs.specs.JobEdits.{is_gone_when, is_gone_with}

-- one row less
one_less : {X : Type 0} (test : ℕ → Bool) (rows : List (ℕ × X)) → is_some (lookup test rows) ≡ true → length (remove_entry test rows) + 1 ≡ length rows
one_less test [] there = absurd (true≢false (sym there))
one_less test (row ∷ rows) there = by (test row.0) there (one_less test rows)
  where
    by : (here : Bool) → is_some (cond here (Some row.1) (lookup test rows)) ≡ true → (is_some (lookup test rows) ≡ true → length (remove_entry test rows) + 1 ≡ length rows)
        → length (cond here rows (row ∷ remove_entry test rows)) + 1 ≡ length (row ∷ rows)
    by true there again = omega arith
    by false there again = let l = again there in omega arith

same_empty : (n m : ℕ) → m + 1 ≡ n → (n == 1) ≡ (m == 0)
same_empty n m e = grind arith

-- a job whose task is gone
pub spent : (after : After) (task : ℕ) (job : Job) → is_gone_with after task ≡ true → is_some (at_number job.running task) ≡ true
    → (is_empty job.queued && is_empty job.broken && length job.running == 1) ≡ has_no_task (without_ended after task job)
spent after task job gone_with there =
    ap (λ b. is_empty job.queued && is_empty job.broken && b)
    (same_empty (length job.running) (length (drop_number job.running task)) (one_less (is_at (nat_cmp task)) job.running there))
    ∙ sym (ap has_no_task (is_gone (task == 0) after gone_with))
  where
    is_gone : (none : Bool) (after : After) → is_gone_when none after ≡ true
        → (if none then gone task job else moved after task job) ≡ gone task job
    is_gone true after is = refl
    is_gone false fate.Gone is = refl
    is_gone false fate.Again is = absurd (true≢false (sym is))
    is_gone false fate.Broken is = absurd (true≢false (sym is))

-- a set with one number more isn't empty
some_more : (n : ℕ) (spans : List TaskSpan) → 1 ≤ n → is_form spans ≡ true → is_empty (with_number n spans) ≡ false
some_more n spans p form = by (with_number n spans) (with_number_has n n spans p form ∙ ap (λ b. b || has_number n spans) (eq-eqb n n refl))
  where
    by : (set : List TaskSpan) → has_number n set ≡ true → is_empty set ≡ false
    by [] has = absurd (true≢false (sym has))
    by (s ∷ rest) has = grind arith

-- a job with a task that waits again or is in error
pub left : (after : After) (task : ℕ) (job : Job) → is_gone_with after task ≡ false → is_form job.queued ≡ true → is_form job.broken ≡ true
    → false ≡ has_no_task (without_ended after task job)
left after task job stays queued broken = by (task == 0) after refl stays
  where
    some : (task == 0) ≡ false → 1 ≤ task
    some is = let d = eqb-false task 0 is in omega arith

    no_first : (a b c : Bool) → a ≡ false → false ≡ (a && b && c)
    no_first a b c is = grind arith

    no_second : (a b c : Bool) → b ≡ false → false ≡ (a && b && c)
    no_second a b c is = grind arith

    by : (none : Bool) (after : After) → (task == 0) ≡ none → is_gone_when none after ≡ false
        → false ≡ has_no_task (if none then gone task job else moved after task job)
    by true fate.Gone is stays = absurd (true≢false stays)
    by true fate.Again is stays = absurd (true≢false stays)
    by true fate.Broken is stays = absurd (true≢false stays)
    by false fate.Gone is stays = absurd (true≢false stays)
    by false fate.Again is stays =
        no_first (is_empty (with_number task job.queued)) (is_empty job.broken) (is_empty (drop_number job.running task)) (some_more task job.queued (some is) queued)
    by false fate.Broken is stays =
        no_second (is_empty job.queued) (is_empty (with_number task job.broken)) (is_empty (drop_number job.running task)) (some_more task job.broken (some is) broken)
