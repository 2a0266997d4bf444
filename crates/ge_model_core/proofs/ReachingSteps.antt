-- A walk over predecessors needs no more steps than there are predecessors: with any more it answers the same.
use Rattle.std.proofs.Common.{◌≡◌, ℕ, zero, suc, ◌+◌, ◌≤◌, ◌==◌, ◌||◌, Bool, true, false, if◌then◌else◌, List, [], ◌∷◌, ◌++◌, length, fold, Option, Some, None, is_some, refl, sym, ap, ◌∙◌, arith, length-append}
use Rattle.std.specs.BTreeMap.{is_at}
use Rattle.std.specs.List.{list_any}
use Rattle.std.specs.Map.{lookup}
use Rattle.std.specs.Ordering.{nat_cmp}
use Rattle.std.proofs.lemmas.Bool.{eqb-true, eq-eqb}
use Rattle.ge_collections.specs.Keyed.{at_number}
use Rattle.ge_model_rows.specs.ClusterRows.{Cluster}
use Rattle.ge_model_rows.specs.EntryRows.{Patch}
use Rattle.ge_model_rows.specs.JobRows.{Job}
use Rattle.ge_model_jobs.specs.Orderly.{has_key}
use Rattle.ge_model_jobs.proofs.Keys.{at_has}
use Rattle.ge_model_core.specs.Reaching.{waits_for, after_of, meets, all_predecessors, reaches_itself}

-- ---- predecessors that are still to come

-- whether a job was gone through
abbrev is_met : ℕ → List ℕ → Bool
is_met n met = list_any (λ m. m == n) met

module _ (next : ℕ → List ℕ) (goal : ℕ) where
  -- how many predecessors a job may still bring
  abbrev pub brings : List ℕ → ℕ → ℕ
  brings met n = if n == goal || is_met n met then 0 else length (next n)

  -- how many all jobs of a table may
  abbrev pub to_come : List ℕ → List (ℕ × Job) → ℕ
  to_come met [] = 0
  to_come met (row ∷ rows) = brings met row.0 + to_come met rows

  -- one that is gone through brings no more, and others no more than before
  less : (n k : ℕ) (met : List ℕ) → brings (n ∷ met) k ≤ brings met k
  less n k met = by (k == goal) (n == k) (is_met k met)
    where
      by : (goal_is here there : Bool) → (if goal_is || (here || there) then 0 else length (next k)) ≤ (if goal_is || there then 0 else length (next k))
      by true here there = omega arith
      by false true true = omega arith
      by false true false = omega arith
      by false false true = omega arith
      by false false false = omega arith

  all_less : (n : ℕ) (met : List ℕ) (rows : List (ℕ × Job)) → to_come (n ∷ met) rows ≤ to_come met rows
  all_less n met [] = omega arith
  all_less n met (row ∷ rows) = let one = less n row.0 met in let others = all_less n met rows in omega arith

  -- a job of the table that is gone through takes its predecessors off
  taken : (n : ℕ) (met : List ℕ) (rows : List (ℕ × Job)) → (n == goal) ≡ false → is_met n met ≡ false → has_key n rows ≡ true → to_come (n ∷ met) rows + length (next n) ≤ to_come met rows
  taken n met [] other new has = absurd (grind arith)
  taken n met (row ∷ rows) other new has = by (n == row.0) refl (taken n met rows other new)
    where
      by : (here : Bool) → (n == row.0) ≡ here → (has_key n rows ≡ true → to_come (n ∷ met) rows + length (next n) ≤ to_come met rows) → to_come (n ∷ met) (row ∷ rows) + length (next n) ≤ to_come met (row ∷ rows)
      by true is again =
          let e = eqb-true n row.0 is in
          let before : brings met row.0 ≡ length (next n) = ap (brings met) (sym e) ∙ (λ i. if other i || new i then 0 else length (next n)) in
          let after : brings (n ∷ met) row.0 ≡ 0 = ap (brings (n ∷ met)) (sym e) ∙ (λ i. if other i || (eq-eqb n n refl i || is_met n met) then 0 else length (next n)) in
          let others = all_less n met rows in
          omega arith
      by false is again =
          let there : has_key n rows ≡ true = sym (ap (λ here. here || has_key n rows) is) ∙ has in
          let one = less n row.0 met in
          let others = again there in
          omega arith

  -- the goal itself brings none
  without_goal : (rows : List (ℕ × Job)) (count : ℕ) → count + to_come [] rows + (if has_key goal rows then length (next goal) else 0) ≤ fold (λ sum row. sum + length (next row.0)) count rows
  without_goal [] count = omega arith
  without_goal (row ∷ rows) count = by (goal == row.0) refl (without_goal rows (count + length (next row.0)))
    where
      by : (here : Bool) → (goal == row.0) ≡ here
          → count + length (next row.0) + to_come [] rows + (if has_key goal rows then length (next goal) else 0) ≤ fold (λ sum row. sum + length (next row.0)) (count + length (next row.0)) rows
          → count + (brings [] row.0 + to_come [] rows) + (if here || has_key goal rows then length (next goal) else 0) ≤ fold (λ sum row. sum + length (next row.0)) (count + length (next row.0)) rows
      by true is again =
          let e = eqb-true goal row.0 is in
          let none : brings [] row.0 ≡ 0 = ap (brings []) (sym e) ∙ ap (λ here. if here || false then 0 else length (next goal)) (eq-eqb goal goal refl) in
          let same : length (next row.0) ≡ length (next goal) = ap (λ n. length (next n)) (sym e) in
          omega arith
      by false is again = let fits = at_most (row.0 == goal) in omega arith
        where
          at_most : (there : Bool) → (if there || false then 0 else length (next row.0)) ≤ length (next row.0)
          at_most true = omega arith
          at_most false = omega arith

  -- ---- the walk

  module _ (rows : List (ℕ × Job)) (covers : (n : ℕ) → has_key n rows ≡ false → next n ≡ []) where
    -- a job that is gone through takes its predecessors off, also where it isn't in the table and has none
    gone_through : (n : ℕ) (met : List ℕ) → (n == goal) ≡ false → is_met n met ≡ false → to_come (n ∷ met) rows + length (next n) ≤ to_come met rows
    gone_through n met other new = by (has_key n rows) refl
      where
        by : (has : Bool) → has_key n rows ≡ has → to_come (n ∷ met) rows + length (next n) ≤ to_come met rows
        by true has = taken n met rows other new has
        by false has = let none = ap length (covers n has) in let others = all_less n met rows in omega arith

    -- steps for what is on the way and what may come are enough
    pub enough : (steps more : ℕ) (met on_the_way : List ℕ) → to_come met rows + length on_the_way ≤ steps → to_come met rows + length on_the_way ≤ more
        → meets next goal steps met on_the_way ≡ meets next goal more met on_the_way
    enough zero zero met [] p q = refl
    enough zero (suc more) met [] p q = refl
    enough (suc steps) zero met [] p q = refl
    enough (suc steps) (suc more) met [] p q = refl
    enough zero more met (n ∷ others) p q = absurd (omega arith)
    enough (suc steps) zero met (n ∷ others) p q = absurd (omega arith)
    enough (suc steps) (suc more) met (n ∷ others) p q =
        by (n == goal) refl (is_met n met) refl (enough steps more met others) (enough steps more (n ∷ met) (next n ++ others))
      where
        by : (there : Bool) → (n == goal) ≡ there → (old : Bool) → is_met n met ≡ old
            → (to_come met rows + length others ≤ steps → to_come met rows + length others ≤ more → meets next goal steps met others ≡ meets next goal more met others)
            → (to_come (n ∷ met) rows + length (next n ++ others) ≤ steps → to_come (n ∷ met) rows + length (next n ++ others) ≤ more
            → meets next goal steps (n ∷ met) (next n ++ others) ≡ meets next goal more (n ∷ met) (next n ++ others))
            → elim there as (λ x. Bool) [ true ↦ true | false ↦ elim old as (λ x. Bool) [ true ↦ meets next goal steps met others | false ↦ meets next goal steps (n ∷ met) (next n ++ others) ] ]
            ≡ elim there as (λ x. Bool) [ true ↦ true | false ↦ elim old as (λ x. Bool) [ true ↦ meets next goal more met others | false ↦ meets next goal more (n ∷ met) (next n ++ others) ] ]
        by true is old was skip go = refl
        by false is true was skip go = skip (omega arith) (omega arith)
        by false is false was skip go =
            let fits = gone_through n met is was in
            let both = length-append (next n) others in
            go (omega arith) (omega arith)

-- ---- the law

-- whether a job would reach itself is the same by a walk of any number of steps that isn't below that of all predecessors
pub any_steps : (c : Cluster) (patches : List (ℕ × Patch)) (number steps : ℕ) → all_predecessors c patches ≤ steps
    → meets (waits_for c patches) number steps [] (waits_for c patches number) ≡ reaches_itself c patches number
any_steps c patches number steps fits =
    enough (waits_for c patches) number c.jobs none steps (all_predecessors c patches) [] (waits_for c patches number) (omega (arith, few)) few
  where
    none : (n : ℕ) → has_key n c.jobs ≡ false → waits_for c patches n ≡ []
    none n has = by (at_number c.jobs n) (at_has n c.jobs ∙ has)
      where
        by : (found : Option Job) → is_some found ≡ false → after_of found (lookup (is_at (nat_cmp n)) patches) ≡ []
        by None is = refl
        by (Some job) is = absurd (grind arith)

    few : to_come (waits_for c patches) number [] c.jobs + length (waits_for c patches number) ≤ all_predecessors c patches
    few = by (has_key number c.jobs) refl (without_goal (waits_for c patches) number c.jobs 0)
      where
        by : (has : Bool) → has_key number c.jobs ≡ has
            → 0 + to_come (waits_for c patches) number [] c.jobs + (if has then length (waits_for c patches number) else 0) ≤ all_predecessors c patches
            → to_come (waits_for c patches) number [] c.jobs + length (waits_for c patches number) ≤ all_predecessors c patches
        by true has fits = omega arith
        by false has fits = let empty = ap length (none number has) in omega arith
