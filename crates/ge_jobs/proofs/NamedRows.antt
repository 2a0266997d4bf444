-- The rows of a table that a target names, taken out or changed one by one, and what that does to a job and its marks.
use Rattle.std.proofs.Common.{◌≡◌, ℕ, ◌+◌, ◌<◌, ◌==◌, ◌||◌, Bool, true, false, cond, if◌then◌else◌, List, [], ◌∷◌, ◌++◌, fold, map, flat_map, refl, sym, ap, ◌∙◌, arith}
use Rattle.std.specs.Prelude.{Option, Some, None, filter, not}
use Rattle.std.specs.Ordering.{nat_cmp}
use Rattle.std.specs.BTreeMap.{is_at}
use Rattle.std.specs.List.{count_by, list_any}
use Rattle.std.specs.List.Sorted.{IsStrictlySortedBy}
use Rattle.std.specs.Map.{keys_of, values_of}
use Rattle.std.specs.Option.{option_map}
use Rattle.std.proofs.lemmas.Bool.{true≢false, eq-eqb}
use Rattle.std.proofs.lemmas.List.Sums.{sum_by-append}
use Rattle.std.proofs.lemmas.Map.Keys.{below_from_sorted, sorted_tail}
use Rattle.ge_collections.specs.Changed.{change_value}
use Rattle.ge_collections.specs.Keyed.{at_number, drop_number}
use Rattle.ge_collections.proofs.Changed.{change_value-absent}
use Rattle.ge_model_jobs.proofs.Keys.{same_key}
use Rattle.ge_rows.specs.declared.jobs.Running.{Running}
use Rattle.ge_rows.specs.declared.jobs.Job.{Job}
use Rattle.ge_rows.specs.declared.marks.JobMark.{JobMark}
use Rattle.ge_rows.specs.Marks.{task_marks, own_marks, job_marks}
use Rattle.ge_model_rows.specs.TaskRows.{TaskSpan}
use Rattle.ge_model_jobs.specs.Picks.{names_task}
use Rattle.ge_model_jobs.specs.Ending.{has_no_task, is_unnamed, marked, run_on, without_picked, lose_tasks}
use Rattle.ge_jobs.specs.Deletions.{deleting, mark_number, marks_if_named, lost_by_delete, without_spent}

-- whether a number is at one of these keys
abbrev is_among : ℕ → List ℕ → Bool
is_among n keys = list_any (λ k. is_at (nat_cmp k) n) keys

at_itself : (n : ℕ) → is_at (nat_cmp n) n ≡ true
at_itself n = same_key n n ∙ eq-eqb n n refl

not_above : (n k : ℕ) → n < k → (k == n) ≡ false
not_above n k lt = grind arith

apart_one : (n k : ℕ) (later : List ℕ) → n < k → is_among n later ≡ false → (b : Bool) → is_among n (cond b (k ∷ later) later) ≡ false
apart_one n k later lt apart true = (λ i. (same_key k n ∙ not_above n k lt) i || apart i)
apart_one n k later lt apart false = apart

apart_from : (p : ℕ → Bool) (n k : ℕ) (keys : List ℕ) → n < k → IsStrictlySortedBy nat_cmp (k ∷ keys) → is_among n (filter p (k ∷ keys)) ≡ false
apart_from p n k [] lt sorted = apart_one n k [] lt refl (p k)
apart_from p n k (m ∷ keys) lt sorted =
    let next : k < m = below_from_sorted (k ∷ m ∷ keys) 0 1 0 sorted (omega arith) (omega arith) in
    let later : n < m = omega (arith, lt, next) in
    apart_one n k (filter p (m ∷ keys)) lt (apart_from p n m keys later (sorted_tail nat_cmp k (m ∷ keys) sorted)) (p k)

-- a key isn't among those behind it
behind : (p : ℕ → Bool) (n : ℕ) (keys : List ℕ) → IsStrictlySortedBy nat_cmp (n ∷ keys) → is_among n (filter p keys) ≡ false
behind p n [] sorted = refl
behind p n (k ∷ keys) sorted = apart_from p n k keys (below_from_sorted (n ∷ k ∷ keys) 0 1 0 sorted (omega arith) (omega arith)) (sorted_tail nat_cmp n (k ∷ keys) sorted)

-- a row stays where no step is at its key
module _ {X : Type 0} (step : List (ℕ × X) → ℕ → List (ℕ × X))
    (pass : (row : ℕ × X) (rows : List (ℕ × X)) (k : ℕ) → is_at (nat_cmp k) row.0 ≡ false → step (row ∷ rows) k ≡ row ∷ step rows k) where
  stays : (row : ℕ × X) (rows : List (ℕ × X)) (ks : List ℕ) → is_among row.0 ks ≡ false → fold step (row ∷ rows) ks ≡ row ∷ fold step rows ks
  stays row rows [] apart = refl
  stays row rows (k ∷ ks) apart = by (is_at (nat_cmp k) row.0) refl (stays row (step rows k) ks) apart
    where
      by : (b : Bool) → is_at (nat_cmp k) row.0 ≡ b → (is_among row.0 ks ≡ false → fold step (row ∷ step rows k) ks ≡ row ∷ fold step (step rows k) ks)
          → (b || is_among row.0 ks) ≡ false → fold step (step (row ∷ rows) k) ks ≡ row ∷ fold step (step rows k) ks
      by true at rest apart = absurd (true≢false apart)
      by false at rest apart = ap (λ (rs : List (ℕ × X)). fold step rs ks) (pass row rows k at) ∙ rest apart

drop_passes : (row : ℕ × Running) (rows : List (ℕ × Running)) (k : ℕ) → is_at (nat_cmp k) row.0 ≡ false → drop_number (row ∷ rows) k ≡ row ∷ drop_number rows k
drop_passes row rows k at = ap (λ b. cond b rows (row ∷ drop_number rows k)) at

mark_passes : (row : ℕ × Running) (rows : List (ℕ × Running)) (k : ℕ) → is_at (nat_cmp k) row.0 ≡ false → mark_number (row ∷ rows) k ≡ row ∷ mark_number rows k
mark_passes row rows k at = ap (λ b. cond b ((row.0, deleting row.1) ∷ rows) (row ∷ mark_number rows k)) at

module _ (tasks : Option (List TaskSpan)) where
  removed : (rows : List (ℕ × Running)) → IsStrictlySortedBy nat_cmp (keys_of rows)
      → fold drop_number rows (filter (names_task tasks) (keys_of rows)) ≡ filter (is_unnamed tasks) rows
  removed [] sorted = refl
  removed (row ∷ rows) sorted = by (names_task tasks row.0) (removed rows (sorted_tail nat_cmp row.0 (keys_of rows) sorted))
    where
      ks : List ℕ
      ks = filter (names_task tasks) (keys_of rows)

      by : (b : Bool) → fold drop_number rows ks ≡ filter (is_unnamed tasks) rows
          → fold drop_number (row ∷ rows) (cond b (row.0 ∷ ks) ks) ≡ cond (not b) (row ∷ filter (is_unnamed tasks) rows) (filter (is_unnamed tasks) rows)
      by true rest = ap (λ b. fold drop_number (cond b rows (row ∷ drop_number rows row.0)) ks) (at_itself row.0) ∙ rest
      by false rest = stays drop_number drop_passes row rows ks (behind (names_task tasks) row.0 (keys_of rows) sorted) ∙ ap (λ (rs : List (ℕ × Running)). row ∷ rs) rest

  marked_rows : (rows : List (ℕ × Running)) → IsStrictlySortedBy nat_cmp (keys_of rows)
      → fold mark_number rows (filter (names_task tasks) (keys_of rows)) ≡ map (marked tasks) rows
  marked_rows [] sorted = refl
  marked_rows (row ∷ rows) sorted = by (names_task tasks row.0) (marked_rows rows (sorted_tail nat_cmp row.0 (keys_of rows) sorted))
    where
      ks : List ℕ
      ks = filter (names_task tasks) (keys_of rows)

      apart : is_among row.0 ks ≡ false
      apart = behind (names_task tasks) row.0 (keys_of rows) sorted

      by : (b : Bool) → fold mark_number rows ks ≡ map (marked tasks) rows
          → fold mark_number (row ∷ rows) (cond b (row.0 ∷ ks) ks) ≡ (row.0, if b then deleting row.1 else row.1) ∷ map (marked tasks) rows
      by true rest =
          ap (λ b. fold mark_number (cond b ((row.0, deleting row.1) ∷ rows) (row ∷ mark_number rows row.0)) ks) (at_itself row.0)
          ∙ stays mark_number mark_passes (row.0, deleting row.1) rows ks apart
          ∙ ap (λ (rs : List (ℕ × Running)). (row.0, deleting row.1) ∷ rs) rest
      by false rest = stays mark_number mark_passes row rows ks apart ∙ ap (λ (rs : List (ℕ × Running)). row ∷ rs) rest

  -- the named rows taken out one by one
  pub all_removed : (rows new : List (ℕ × Running)) (numbers : List ℕ) → IsStrictlySortedBy nat_cmp (keys_of rows)
      → numbers ≡ filter (names_task tasks) (keys_of rows) → new ≡ fold drop_number rows numbers → new ≡ filter (is_unnamed tasks) rows
  all_removed rows new numbers sorted named after = after ∙ ap (λ (ks : List ℕ). fold drop_number rows ks) named ∙ removed rows sorted

  -- the named rows marked one by one
  pub all_marked : (rows new : List (ℕ × Running)) (numbers : List ℕ) → IsStrictlySortedBy nat_cmp (keys_of rows)
      → numbers ≡ filter (names_task tasks) (keys_of rows) → new ≡ fold mark_number rows numbers → new ≡ map (marked tasks) rows
  all_marked rows new numbers sorted named after = after ∙ ap (λ (ks : List ℕ). fold mark_number rows ks) named ∙ marked_rows rows sorted

  module _ (test : JobMark → Bool) where
    -- the marks of the tasks that stay, and of those that go
    halves : (rows : List (ℕ × Running))
        → count_by test (flat_map task_marks (values_of (filter (is_unnamed tasks) rows))) + count_by test (flat_map (marks_if_named tasks) rows)
        ≡ count_by test (flat_map task_marks (values_of rows))
    halves [] = refl
    halves (row ∷ rows) = by (names_task tasks row.0) (halves rows)
      where
        left : List (ℕ × Running)
        left = filter (is_unnamed tasks) rows

        by : (b : Bool)
            → count_by test (flat_map task_marks (values_of left)) + count_by test (flat_map (marks_if_named tasks) rows) ≡ count_by test (flat_map task_marks (values_of rows))
            → count_by test (flat_map task_marks (values_of (cond (not b) (row ∷ left) left))) + count_by test (cond b (task_marks row.1) [] ++ flat_map (marks_if_named tasks) rows)
            ≡ count_by test (task_marks row.1 ++ flat_map task_marks (values_of rows))
        by true rest =
            let a = sum_by-append (λ m. cond (test m) 1 0) (task_marks row.1) (flat_map (marks_if_named tasks) rows) in
            let b = sum_by-append (λ m. cond (test m) 1 0) (task_marks row.1) (flat_map task_marks (values_of rows)) in
            omega (arith, a, b, rest)
        by false rest =
            let a = sum_by-append (λ m. cond (test m) 1 0) (task_marks row.1) (flat_map task_marks (values_of left)) in
            let b = sum_by-append (λ m. cond (test m) 1 0) (task_marks row.1) (flat_map task_marks (values_of rows)) in
            omega (arith, a, b, rest)

    -- a mark for deletion changes no mark of the table
    same_marks : (rows : List (ℕ × Running)) → flat_map task_marks (values_of (map (marked tasks) rows)) ≡ flat_map task_marks (values_of rows)
    same_marks [] = refl
    same_marks (row ∷ rows) = (λ i. by (names_task tasks row.0) i ++ same_marks rows i)
      where
        by : (b : Bool) → task_marks (if b then deleting row.1 else row.1) ≡ task_marks row.1
        by true = refl
        by false = refl

    -- a job loses the tasks that a target names
    pub delete_moves : (force : Bool) (job new : Job) → new ≡ without_picked force tasks job
        → count_by test (job_marks new) + count_by test (lost_by_delete force tasks job) ≡ count_by test (job_marks job) + 0
    delete_moves force job new is =
        ap (λ (j : Job). count_by test (job_marks j) + count_by test (lost_by_delete force tasks job)) is ∙ by force
      where
        by : (b : Bool) → count_by test (own_marks job ++ flat_map task_marks (values_of (run_on b tasks job.running))) + count_by test (lost_by_delete b tasks job)
            ≡ count_by test (job_marks job) + 0
        by true =
            let a = sum_by-append (λ m. cond (test m) 1 0) (own_marks job) (flat_map task_marks (values_of (filter (is_unnamed tasks) job.running))) in
            let b = sum_by-append (λ m. cond (test m) 1 0) (own_marks job) (flat_map task_marks (values_of job.running)) in
            omega (arith, a, b, halves job.running)
        by false = ap (λ (ms : List JobMark). count_by test (own_marks job ++ ms) + 0) (same_marks job.running)

module _ (change : Job → Job) (number : ℕ) where
  there : (jobs : List (ℕ × Job)) → at_number (change_value (is_at (nat_cmp number)) change jobs) number ≡ option_map change (at_number jobs number)
  there [] = refl
  there (row ∷ jobs) = by (is_at (nat_cmp number) row.0) refl (there jobs)
    where
      changed : List (ℕ × Job)
      changed = change_value (is_at (nat_cmp number)) change jobs

      by : (b : Bool) → is_at (nat_cmp number) row.0 ≡ b → at_number changed number ≡ option_map change (at_number jobs number)
          → at_number (cond b ((row.0, change row.1) ∷ jobs) (row ∷ changed)) number ≡ option_map change (cond b (Some row.1) (at_number jobs number))
      by true at rest = ap (λ b. cond b (Some (change row.1)) (at_number jobs number)) at
      by false at rest = ap (λ b. cond b (Some row.1) (at_number changed number)) at ∙ rest

  gone : (jobs : List (ℕ × Job)) → drop_number (change_value (is_at (nat_cmp number)) change jobs) number ≡ drop_number jobs number
  gone [] = refl
  gone (row ∷ jobs) = by (is_at (nat_cmp number) row.0) refl (gone jobs)
    where
      changed : List (ℕ × Job)
      changed = change_value (is_at (nat_cmp number)) change jobs

      by : (b : Bool) → is_at (nat_cmp number) row.0 ≡ b → drop_number changed number ≡ drop_number jobs number
          → drop_number (cond b ((row.0, change row.1) ∷ jobs) (row ∷ changed)) number ≡ cond b jobs (row ∷ drop_number jobs number)
      by true at rest = ap (λ b. cond b jobs ((row.0, change row.1) ∷ drop_number jobs number)) at
      by false at rest = ap (λ b. cond b changed (row ∷ drop_number changed number)) at ∙ ap (λ (rs : List (ℕ × Job)). row ∷ rs) rest

  -- a change of one job, and then the job goes if it has no task left
  pub one_deleted : (jobs between after : List (ℕ × Job)) → between ≡ change_value (is_at (nat_cmp number)) change jobs → after ≡ without_spent between number
      → after ≡ lose_tasks change jobs number
  one_deleted jobs between after changes drops =
      drops ∙ ap (λ (rows : List (ℕ × Job)). without_spent rows number) changes
      ∙ ap (λ (o : Option Job). elim o as (λ x. List (ℕ × Job)) [ None ↦ changed | Some job ↦ if has_no_task job then drop_number changed number else changed ]) (there jobs)
      ∙ by (at_number jobs number) refl
    where
      changed : List (ℕ × Job)
      changed = change_value (is_at (nat_cmp number)) change jobs

      by : (o : Option Job) → at_number jobs number ≡ o
          → elim (option_map change o) as (λ x. List (ℕ × Job)) [ None ↦ changed | Some job ↦ if has_no_task job then drop_number changed number else changed ]
          ≡ elim o as (λ x. List (ℕ × Job)) [ None ↦ jobs | Some job ↦ if has_no_task (change job) then drop_number jobs number else changed ]
      by None is = sym (change_value-absent (is_at (nat_cmp number)) change jobs jobs jobs refl is refl)
      by (Some job) is = ap (λ (rows : List (ℕ × Job)). if has_no_task (change job) then rows else changed) (gone jobs)
