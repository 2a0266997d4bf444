-- The marks of a job that is altered, or of which a task starts or ends: what moves makes up for what stays.
use Rattle.std.proofs.Common.{◌≡◌, ℕ, ◌+◌, List, [], ◌∷◌, ◌++◌, ◌==◌, if◌then◌else◌, flat_map, Bool, true, false, cond, refl, sym, ap, ◌∙◌, arith}
use Rattle.std.specs.Prelude.{Option, Some, None}
use Rattle.std.specs.List.{count_by, sum_by}
use Rattle.std.specs.List.Sorted.{IsStrictlySortedBy}
use Rattle.std.specs.Map.{keys_of, values_of, lookup, remove_entry}
use Rattle.std.specs.Option.{unwrap_or, option_map, option_to_list}
use Rattle.std.specs.Ordering.{nat_cmp}
use Rattle.std.specs.BTreeMap.{insert_entry, is_at}
use Rattle.std.proofs.lemmas.List.Sums.{sum_by-append, sum_by-cons}
use Rattle.std.proofs.lemmas.List.Concat.{flat_map-cons}
use Rattle.std.proofs.lemmas.Map.Entries.{sum_by-remove_entry}
use Rattle.ge_rows.specs.declared.jobs.Running.{Running}
use Rattle.ge_rows.specs.declared.marks.JobMark.{JobMark}
use Rattle.ge_rows.specs.declared.jobs.Job.{Job}
use Rattle.ge_collections.specs.Keyed.{drop_number}
use Rattle.ge_model_jobs.specs.declared.After.{After}
use Rattle.ge_model_jobs.specs.declared.After.TheVariants as fate
use Rattle.ge_model_jobs.specs.Ending.{gone, moved, without_ended}
use Rattle.ge_rows.specs.Marks.{task_marks, task_marks_at, own_marks, job_marks}
use Rattle.ge_rows.proofs.TaskMarks.{marks_moved}

-- other names, and the same tasks
pub names_moved : {M : Type 0} (test : M → Bool) (new old tasks : List M)
    → count_by test (new ++ tasks) + count_by test old ≡ count_by test (old ++ tasks) + count_by test new
names_moved test new old tasks =
    let a = sum_by-append (λ m. cond (test m) 1 0) new tasks in
    let b = sum_by-append (λ m. cond (test m) 1 0) old tasks in
    omega (arith, a, b)

-- a task starts, if it waits
pub start_moves : (test : JobMark → Bool) (waits : Bool) (own : List JobMark) (rows after : List (ℕ × Running)) (n : ℕ) (task started : Running)
    → waits ≡ true → IsStrictlySortedBy nat_cmp (keys_of rows) → after ≡ insert_entry nat_cmp rows n task → task ≡ started
    → count_by test (own ++ flat_map task_marks (values_of after)) + count_by test (cond waits (task_marks_at n rows) [])
    ≡ count_by test (own ++ flat_map task_marks (values_of rows)) + count_by test (cond waits (task_marks started) [])
start_moves test true own rows after n task started waits rising puts is =
    ap (λ (es : List (ℕ × Running)). count_by test (own ++ flat_map task_marks (values_of es)) + count_by test (task_marks_at n rows)) puts
    ∙ marks_moved test task_marks own rows n task rising
    ∙ ap (λ x. count_by test (own ++ flat_map task_marks (values_of rows)) + count_by test (task_marks x)) is
start_moves test false own rows after n task started waits rising puts is = cc

module _ {A M : Type 0} (test : M → Bool) (f : A → List M) where
  -- how many pass in lists one behind the other
  counted_flat : (xs : List A) → count_by test (flat_map f xs) ≡ sum_by (λ x. count_by test (f x)) xs
  counted_flat [] = refl
  counted_flat (x ∷ xs) =
      ap (λ (ms : List M). count_by test ms) (flat_map-cons f x xs)
      ∙ sum_by-append (λ m. cond (test m) 1 0) (f x) (flat_map f xs)
      ∙ ap (λ n. count_by test (f x) + n) (counted_flat xs)
      ∙ sym (sum_by-cons (λ y. count_by test (f y)) x xs)

  counted_one : (o : Option A) → count_by test (flat_map f (option_to_list o)) ≡ unwrap_or (option_map (λ x. count_by test (f x)) o) 0
  counted_one None = refl
  counted_one (Some x) = omega (arith, counted_flat (x ∷ []), sum_by-cons (λ y. count_by test (f y)) x [])

  -- the marks of a row that goes
  pub marks_gone : (own : List M) (rows : List (ℕ × A)) (k : ℕ)
      → count_by test (own ++ flat_map f (values_of (remove_entry (is_at (nat_cmp k)) rows))) + count_by test (flat_map f (option_to_list (lookup (is_at (nat_cmp k)) rows)))
      ≡ count_by test (own ++ flat_map f (values_of rows)) + 0
  marks_gone own rows k =
      let w : M → ℕ = λ m. cond (test m) 1 0 in
      let less : List A = values_of (remove_entry (is_at (nat_cmp k)) rows) in
      let new = sum_by-append w own (flat_map f less) in
      let old = sum_by-append w own (flat_map f (values_of rows)) in
      let new_flat = counted_flat less in
      let old_flat = counted_flat (values_of rows) in
      let gone = counted_one (lookup (is_at (nat_cmp k)) rows) in
      let sums = sum_by-remove_entry (λ x. count_by test (f x)) (is_at (nat_cmp k)) rows in
      omega (arith, new, old, new_flat, old_flat, gone, sums)

own_stay : (after : After) (task : ℕ) (job : Job) → job_marks (without_ended after task job) ≡ own_marks job ++ flat_map task_marks (values_of (drop_number job.running task))
own_stay after task job = by (task == 0) after
  where
    by : (none : Bool) (after : After) → job_marks (if none then gone task job else moved after task job) ≡ own_marks job ++ flat_map task_marks (values_of (drop_number job.running task))
    by true after = refl
    by false fate.Gone = refl
    by false fate.Again = refl
    by false fate.Broken = refl

-- a task ends
pub end_moves : (test : JobMark → Bool) (after : After) (task : ℕ) (job new : Job) → new ≡ without_ended after task job
    → count_by test (job_marks new) + count_by test (task_marks_at task job.running) ≡ count_by test (job_marks job) + 0
end_moves test after task job new is =
    ap (λ (j : Job). count_by test (job_marks j) + count_by test (task_marks_at task job.running)) is
    ∙ ap (λ (ms : List JobMark). count_by test ms + count_by test (task_marks_at task job.running)) (own_stay after task job)
    ∙ marks_gone test task_marks (own_marks job) job.running task
