-- The order of a run goes by priority, then by job, then by task.
use Rattle.std.proofs.Common.{◌≡◌, ℕ, ◌≤◌, ◌<◌, ◌==◌, Bool, true, false, if◌then◌else◌, List, [], ◌∷◌, ◌++◌, map, flat_map, refl, sym, ap, ◌∙◌, arith}
use Rattle.std.specs.Prelude.{nat_eq}
use Rattle.std.specs.List.{All, AllByRecursion, IsDistinct}
use Rattle.std.specs.List.Sorted.{IsStrictlySortedBy}
use Rattle.std.specs.Ordering.{nat_cmp, ordering_then}
use Rattle.std.specs.declared.cmp.Ordering.{Ordering}
use Rattle.std.specs.declared.cmp.Ordering.TheVariants.{Less, Equal, Greater}
use Rattle.std.proofs.lemmas.Bool.{eqb-true, eq-eqb, true≢false}
use Rattle.std.proofs.lemmas.List.Elements.{All-nil, All-cons, All-head, All-tail}
use Rattle.std.proofs.lemmas.List.Sorted.{All-permutation}
use Rattle.ge_model_rows.specs.ClusterRows.{Cluster}
use Rattle.ge_model_rows.specs.ScheduleRows.{Prio}
use Rattle.ge_model_rows.specs.TaskRows.{TaskId}
use Rattle.ge_model_rows.proofs.Numbers.{Rising}
use Rattle.ge_model_jobs.specs.Holds.{eligible_tasks}
use Rattle.ge_model_jobs.specs.Orderly.{IsOrdered}
use Rattle.ge_model_order.specs.Priority.{rank_cmp, rank_of, sorted_prios, prios_at, tasks_of, order_of}
use Rattle.ge_model_order.proofs.Sorting.{sorted_prios-permutes, sorted_prios-rise}
use Rattle.ge_model_order.specs.Orders.{order_at, total_in, turn_cmp}
use Rattle.ge_model_order.proofs.EligibleTasks.{eligible_rise}
use Rattle.ge_model_order.proofs.OrderOnce.{rows_distinct}

to_all : {X : Type 0} (P : X → Type 0) (xs : List X) → AllByRecursion P xs → All P xs
to_all P [] all = All-nil P
to_all P (x ∷ xs) all = All-cons P x xs all.0 (to_all P xs all.1)

from_all : {X : Type 0} (P : X → Type 0) (xs : List X) → All P xs → AllByRecursion P xs
from_all P [] all = tt
from_all P (x ∷ xs) all = (All-head P x xs all, from_all P xs (All-tail P x xs all))

joined_all : {X : Type 0} (P : X → Type 0) (xs ys : List X) → AllByRecursion P xs → AllByRecursion P ys → AllByRecursion P (xs ++ ys)
joined_all P [] ys all more = more
joined_all P (x ∷ xs) ys all more = (all.0, joined_all P xs ys all.1 more)

-- ---- the priority of a job is that of its row

abbrev HasTotal : List Prio → Prio → Type 0
HasTotal prios p = total_in prios p.job ≡ p.total

behind_other : (first : Prio) (table qs : List Prio) → AllByRecursion (λ y. nat_eq first.job y ≡ false) (map (λ p. p.job) qs) → AllByRecursion (HasTotal table) qs → AllByRecursion (HasTotal (first ∷ table)) qs
behind_other first table [] apart all = tt
behind_other first table (q ∷ qs) apart all = (by (q.job == first.job) refl, behind_other first table qs apart.1 all.1)
  where
    by : (same : Bool) → (q.job == first.job) ≡ same → (if same then first.total else total_in table q.job) ≡ q.total
    by true is = absurd (true≢false (sym (eq-eqb first.job q.job (sym (eqb-true q.job first.job is))) ∙ apart.0))
    by false is = all.0

have_totals : (prios : List Prio) → IsDistinct nat_eq (map (λ p. p.job) prios) → AllByRecursion (HasTotal prios) prios
unfolding IsDistinct
have_totals [] apart = tt
have_totals (p ∷ ps) apart = (ap (λ b. if b then p.total else total_in ps p.job) (eq-eqb p.job p.job refl), behind_other p ps ps apart.0 (have_totals ps apart.1))

-- ---- tasks

then_less : (o p x : Ordering) → ordering_then o p ≡ Less → ordering_then o (ordering_then p x) ≡ Less
then_less Less p x less = refl
then_less Equal Less x less = refl
then_less Equal Equal x less = cc
then_less Equal Greater x less = cc
then_less Greater p x less = cc

equal_self : (n : ℕ) → nat_cmp n n ≡ Equal
equal_self n = grind arith

module _ (c : Cluster) (now : ℕ) (prios : List Prio) where
  abbrev one : ℕ → ℕ → TaskId
  one job task = record { job = job; task = task }

  abbrev Before : TaskId → List TaskId → Type 0
  Before t us = AllByRecursion (λ u. turn_cmp prios t u ≡ Less) us

  -- tasks that stand behind all of a job
  abbrev Behind : ℕ → List TaskId → Type 0
  Behind job us = (t : ℕ) → Before (one job t) us

  within : (job t low : ℕ) (ts : List ℕ) → t ≤ low → Rising low ts → Before (one job t) (map (one job) ts)
  within job t low [] below rising = tt
  within job t low (u ∷ ts) below (above, rising) = (
    (λ i. ordering_then (equal_self (total_in prios job) i) (ordering_then (equal_self job i) (nat_cmp t u))) ∙ (let l : t < u = omega arith in less l),
    within job t u ts (let l : t ≤ u = omega arith in l) rising,
  )
    where
      less : t < u → nat_cmp t u ≡ Less
      less l = grind arith

  put_before : (job low : ℕ) (ts : List ℕ) (tail : List TaskId) → Rising low ts → Behind job tail → IsStrictlySortedBy (turn_cmp prios) tail → IsStrictlySortedBy (turn_cmp prios) (map (one job) ts ++ tail)
  unfolding IsStrictlySortedBy
  put_before job low [] tail rising behind sorted = sorted
  put_before job low (t ∷ ts) tail (above, rising) behind sorted =
      (joined_all (λ u. turn_cmp prios (one job t) u ≡ Less) (map (one job) ts) tail (within job t t ts (omega arith) rising) (behind t), put_before job t ts tail rising behind sorted)

  of_one : (p q : Prio) (t : ℕ) (ts : List ℕ) → HasTotal prios p → HasTotal prios q → rank_cmp (rank_of p) (rank_of q) ≡ Less → Before (one p.job t) (map (one q.job) ts)
  of_one p q t [] first second less = tt
  of_one p q t (u ∷ ts) first second less = (
    (λ i. ordering_then (nat_cmp (second i) (first i)) (ordering_then (nat_cmp p.job q.job) (nat_cmp t u)))
        ∙ then_less (nat_cmp q.total p.total) (nat_cmp p.job q.job) (nat_cmp t u) less,
    of_one p q t ts first second less,
  )

  of_rest : (p : Prio) (rest : List Prio) → HasTotal prios p → AllByRecursion (HasTotal prios) rest → AllByRecursion (λ y. rank_cmp (rank_of p) y ≡ Less) (map rank_of rest) → Behind p.job (flat_map (tasks_of c now) rest)
  of_rest p [] first all less t = tt
  of_rest p (q ∷ rest) first all less t =
      joined_all (λ u. turn_cmp prios (one p.job t) u ≡ Less) (tasks_of c now q) (flat_map (tasks_of c now) rest)
      (of_one p q t (eligible_tasks c.jobs q.job now c.sched.max_pending) first all.0 less.0)
      (of_rest p rest first all.1 less.1 t)

  of_ranked : IsOrdered c → (sorted : List Prio) → AllByRecursion (HasTotal prios) sorted → IsStrictlySortedBy rank_cmp (map rank_of sorted) → IsStrictlySortedBy (turn_cmp prios) (flat_map (tasks_of c now) sorted)
  unfolding IsStrictlySortedBy
  of_ranked ordered [] all rise = tt
  of_ranked ordered (p ∷ rest) all rise =
      put_before p.job 0 (eligible_tasks c.jobs p.job now c.sched.max_pending) (flat_map (tasks_of c now) rest)
      (eligible_rise c ordered p.job now c.sched.max_pending)
      (of_rest p rest all.0 all.1 rise.0)
      (of_ranked ordered rest all.1 rise.1)

-- the order of a run goes by priority, then by job, then by task
pub order_sorted : (c : Cluster) → IsOrdered c → (now : ℕ) → IsStrictlySortedBy (turn_cmp (prios_at c now)) (order_at c now)
unfolding order_of
order_sorted c ordered now =
    let prios = prios_at c now in
    let apart = rows_distinct c ordered now in
    of_ranked c now prios ordered (sorted_prios prios)
    (from_all (HasTotal prios) (sorted_prios prios) (All-permutation (HasTotal prios) prios (sorted_prios prios) (sorted_prios-permutes prios apart) (to_all (HasTotal prios) prios (have_totals prios apart))))
    (sorted_prios-rise prios apart)
