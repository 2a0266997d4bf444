-- The order of a run has each eligible task once.
use Rattle.std.proofs.Common.{◌≡◌, ℕ, ◌+◌, ◌<◌, ◌==◌, ◌&&◌, ◌||◌, Bool, true, false, not, cond, List, [], ◌∷◌, length, map, filter, flat_map, Option, Some, None, refl, sym, ap, ◌∙◌, arith}
use Rattle.std.specs.Prelude.{sum_by, count_by, nat_eq}
use Rattle.std.specs.List.{AllByRecursion, IsDistinct}
use Rattle.std.specs.List.Sorted.{IsStrictlySortedBy}
use Rattle.std.specs.Map.{keys_of}
use Rattle.std.specs.BTreeMap.{is_at}
use Rattle.std.specs.Ordering.{nat_cmp}
use Rattle.std.specs.declared.cmp.Ordering.TheVariants.{Less}
use Rattle.std.proofs.lemmas.Bool.{eqb-true, true≢false}
use Rattle.std.proofs.lemmas.List.Sums.{sum_by-append, sum_by-cons}
use Rattle.ge_collections.specs.Keyed.{at_number}
use Rattle.ge_model_rows.specs.ClusterRows.{Cluster}
use Rattle.ge_model_rows.specs.ScheduleRows.{Prio}
use Rattle.ge_model_rows.specs.Pieces.{is_empty}
use Rattle.ge_model_rows.proofs.Numbers.{Rising, is_among, among_above}
use Rattle.ge_model_jobs.specs.Holds.{eligible_of, eligible_tasks}
use Rattle.ge_model_jobs.specs.Orderly.{has_key, KeysFrom, IsOrdered}
use Rattle.ge_model_jobs.proofs.Keys.{key_above}
use Rattle.ge_model_order.specs.Candidates.{is_candidate, candidates}
use Rattle.ge_model_order.specs.Priority.{prios_at, all_tickets_of, tasks_of}
use Rattle.ge_model_order.proofs.Lists.{prios_of-jobs, length-all_tickets_of, prios_at-distinct}
use Rattle.ge_model_order.proofs.Sorting.{order_of-counts}
use Rattle.ge_model_order.specs.Orders.{order_at, is_task, times_in, once_if_eligible}
use Rattle.ge_model_order.proofs.EligibleTasks.{eligible_rise, none_with_any}

-- ---- keys that rise

above_all : {X : Type 0} (key low : ℕ) (rows : List (ℕ × X)) → key < low → KeysFrom low rows → AllByRecursion (λ y. nat_cmp key y ≡ Less) (keys_of rows)
above_all key low [] below rise = tt
above_all key low (row ∷ rows) below (above, rise) = (grind arith, above_all key (row.0 + 1) rows (omega arith) rise)

pub keys_sorted : {X : Type 0} (low : ℕ) (rows : List (ℕ × X)) → KeysFrom low rows → IsStrictlySortedBy nat_cmp (keys_of rows)
unfolding IsStrictlySortedBy
keys_sorted low [] rise = tt
keys_sorted low (row ∷ rows) (above, rise) = (above_all row.0 (row.0 + 1) rows (omega arith) rise, keys_sorted (row.0 + 1) rows rise)

absent : {X : Type 0} (key : ℕ) (rows : List (ℕ × X)) → has_key key rows ≡ false → at_number rows key ≡ None
absent key [] none = refl
absent {X} key (row ∷ rows) none = by (is_at (nat_cmp key) row.0) (key == row.0) refl refl none (absent key rows)
  where
    by : (here same : Bool) → is_at (nat_cmp key) row.0 ≡ here → (key == row.0) ≡ same → (same || has_key key rows) ≡ false → (has_key key rows ≡ false → at_number rows key ≡ None)
        → ◌≡◌ {A = Option X} (cond here (Some row.1) (at_number rows key)) None
    by here true is same none again = absurd (true≢false none)
    by true false is same none again = absurd (grind arith)
    by false false is same none again = again none

-- ---- rows of priorities

-- each candidate has one row of priorities
pub rows_of_candidates : (c : Cluster) (now : ℕ) → map (λ prio. prio.job) (prios_at c now) ≡ candidates c now
unfolding prios_at
rows_of_candidates c now = prios_of-jobs c (candidates c now) (all_tickets_of c (candidates c now) now) now (sym (length-all_tickets_of c (candidates c now) now))

-- and none has two
pub rows_distinct : (c : Cluster) → IsOrdered c → (now : ℕ) → IsDistinct nat_eq (map (λ prio. prio.job) (prios_at c now))
rows_distinct c ordered now = prios_at-distinct c now (keys_sorted 0 c.jobs ordered.numbers)

-- ---- counts

count_rising : (task low : ℕ) (xs : List ℕ) → Rising low xs → count_by (λ n. task == n) xs ≡ cond (is_among task xs) 1 0
count_rising task low [] rising = refl
count_rising task low (x ∷ xs) (above, rising) =
    sum_by-cons (λ n. cond (task == n) 1 0) x xs ∙ by (task == x) (is_among task xs) refl refl (count_rising task x xs rising)
  where
    by : (here later : Bool) → (task == x) ≡ here → is_among task xs ≡ later → count_by (λ n. task == n) xs ≡ cond later 1 0 → cond here 1 0 + count_by (λ n. task == n) xs ≡ cond (here || later) 1 0
    by true true is among count = absurd (let e = eqb-true task x is in let l = among_above task x xs rising among in omega arith)
    by true false is among count = omega arith
    by false true is among count = omega arith
    by false false is among count = omega arith

module _ (c : Cluster) (ordered : IsOrdered c) (now job task : ℕ) where
  -- the task in what a job lists
  mapped : (n : ℕ) (same : Bool) → (job == n) ≡ same → (ts : List ℕ) → sum_by (λ t. cond (is_task job task t) 1 0) (map (λ t. record { job = n; task = t }) ts) ≡ cond same (count_by (λ m. task == m) ts) 0
  mapped n true is [] = refl
  mapped n false is [] = refl
  mapped n true is (t ∷ ts) =
      sum_by-cons (λ x. cond (is_task job task x) 1 0) (record { job = n; task = t }) (map (λ x. record { job = n; task = x }) ts)
      ∙ (λ i. cond (is i && task == t) 1 0 + mapped n true is ts i)
      ∙ sym (sum_by-cons (λ m. cond (task == m) 1 0) t ts)
  mapped n false is (t ∷ ts) =
      sum_by-cons (λ x. cond (is_task job task x) 1 0) (record { job = n; task = t }) (map (λ x. record { job = n; task = x }) ts)
      ∙ (λ i. cond (is i && task == t) 1 0 + mapped n false is ts i)

  of_prio : (prio : Prio) → sum_by (λ t. cond (is_task job task t) 1 0) (tasks_of c now prio) ≡ cond (job == prio.job) (count_by (λ m. task == m) (eligible_tasks c.jobs job now c.sched.max_pending)) 0
  of_prio prio = mapped prio.job (job == prio.job) refl (eligible_tasks c.jobs prio.job now c.sched.max_pending) ∙ by (job == prio.job) refl
    where
      by : (same : Bool) → (job == prio.job) ≡ same
          → cond same (count_by (λ m. task == m) (eligible_tasks c.jobs prio.job now c.sched.max_pending)) 0 ≡ cond same (count_by (λ m. task == m) (eligible_tasks c.jobs job now c.sched.max_pending)) 0
      by true is = ap (λ n. count_by (λ m. task == m) (eligible_tasks c.jobs n now c.sched.max_pending)) (sym (eqb-true job prio.job is))
      by false is = refl

  abbrev Often : ℕ
  Often = count_by (λ m. task == m) (eligible_tasks c.jobs job now c.sched.max_pending)

  of_prios : (prios : List Prio) → sum_by (λ t. cond (is_task job task t) 1 0) (flat_map (tasks_of c now) prios) ≡ sum_by (λ n. cond (job == n) Often 0) (map (λ prio. prio.job) prios)
  of_prios [] = refl
  of_prios (prio ∷ prios) =
      sum_by-append (λ t. cond (is_task job task t) 1 0) (tasks_of c now prio) (flat_map (tasks_of c now) prios)
      ∙ (λ i. of_prio prio i + of_prios prios i)
      ∙ sym (sum_by-cons (λ n. cond (job == n) Often 0) prio.job (map (λ other. other.job) prios))

  of_keys : {X : Type 0} (test : ℕ → Bool) (low : ℕ) (rows : List (ℕ × X)) → KeysFrom low rows → sum_by (λ n. cond (job == n) Often 0) (filter test (keys_of rows)) ≡ cond (has_key job rows && test job) Often 0
  of_keys test low [] rise = refl
  of_keys test low (row ∷ rows) (above, rise) = by (job == row.0) (has_key job rows) (test row.0) refl refl refl (of_keys test (row.0 + 1) rows rise)
    where
      by : (same later passes : Bool) → (job == row.0) ≡ same → has_key job rows ≡ later → test row.0 ≡ passes
          → sum_by (λ n. cond (job == n) Often 0) (filter test (keys_of rows)) ≡ cond (later && test job) Often 0
          → sum_by (λ n. cond (job == n) Often 0) (cond passes (row.0 ∷ filter test (keys_of rows)) (filter test (keys_of rows))) ≡ cond ((same || later) && test job) Often 0
      by true true passes is has does count = absurd (let e = eqb-true job row.0 is in let l = key_above job (row.0 + 1) rows rise has in omega arith)
      by true false true is has does count =
          sum_by-cons (λ n. cond (job == n) Often 0) row.0 (filter test (keys_of rows))
          ∙ (λ i. cond (is i) Often 0 + count i)
          ∙ (let z : Often + 0 ≡ Often = omega arith in z)
          ∙ ap (λ b. cond b Often 0) (sym (ap test (eqb-true job row.0 is) ∙ does))
      by true false false is has does count = count ∙ ap (λ b. cond b Often 0) (sym (ap test (eqb-true job row.0 is) ∙ does))
      by false later true is has does count =
          sum_by-cons (λ n. cond (job == n) Often 0) row.0 (filter test (keys_of rows)) ∙ (λ i. cond (is i) Often 0 + count i)
          ∙ (let z : 0 + cond (later && test job) Often 0 ≡ cond (later && test job) Often 0 = omega arith in z)
      by false later false is has does count = count

  none_there : eligible_tasks c.jobs job now c.sched.max_pending ≡ [] → 0 ≡ Often
  none_there none = sym (ap (count_by (λ m. task == m)) none)

  of_others : (has passes : Bool) → has_key job c.jobs ≡ has → is_candidate c now job ≡ passes → cond (has && passes) Often 0 ≡ Often
  unfolding is_candidate eligible_tasks
  of_others true true has is = refl
  of_others true false has is = none_there (none_with_any c ordered job now c.sched.max_pending (empty (eligible_tasks c.jobs job now 1) is))
    where
      empty : (xs : List ℕ) → not (is_empty xs) ≡ false → xs ≡ []
      empty [] e = refl
      empty (x ∷ xs) e = absurd (let n : length (x ∷ xs) ≡ 0 = grind arith in omega (arith, n))
  of_others false passes has is = none_there (ap (eligible_of c.jobs now c.sched.max_pending) (absent job c.jobs has))

  -- each task stands in the order once where it is eligible, else nowhere
  pub each_once_if_eligible : times_in (order_at c now) job task ≡ once_if_eligible c now job task
  each_once_if_eligible =
      order_of-counts c (prios_at c now) now (λ t. cond (is_task job task t) 1 0) (rows_distinct c ordered now)
      ∙ of_prios (prios_at c now)
      ∙ ap (sum_by (λ n. cond (job == n) Often 0)) (rows_of_candidates c now)
      ∙ of_keys (is_candidate c now) 0 c.jobs ordered.numbers
      ∙ of_others (has_key job c.jobs) (is_candidate c now job) refl refl
      ∙ count_rising task 0 (eligible_tasks c.jobs job now c.sched.max_pending) (eligible_rise c ordered job now c.sched.max_pending)
