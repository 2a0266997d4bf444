-- The keys of a table of priorities rise.
use Rattle.std.proofs.Common.{◌≡◌, ap, ◌∙◌}
use Rattle.std.specs.Prelude.{ℕ, List, [], ◌∷◌, fold, refl as same}
use Rattle.std.specs.BTreeMap.{insert_entry}
use Rattle.std.specs.Cmp.{IsTotalOrder}
use Rattle.std.specs.List.{AllByRecursion}
use Rattle.std.specs.List.Sorted.{IsStrictlySortedBy}
use Rattle.std.specs.Map.{keys_of}
use Rattle.std.specs.Ordering.{match_ordering, ordering_reverse}
use Rattle.std.specs.declared.cmp.Ordering.{Ordering}
use Rattle.std.specs.declared.cmp.Ordering.TheVariants.{Less, Equal, Greater}
use Rattle.std.specs.declared.cmp.Reverse.{Reverse}
use Rattle.ge_model_rows.specs.ScheduleRows.{Prio}
use Rattle.ge_model_order.specs.Priority.{rank_cmp, rank_of, with_rank}
use Rattle.ge_model_order.proofs.Sorting.{rank_total}

-- what is below a key is below all that the key is below
pub below_all : {K : Type 0} {cmp : K → K → Ordering} → IsTotalOrder cmp → (keys : List K) (k low : K) → cmp k low ≡ Less → AllByRecursion (λ y. cmp low y ≡ Less) keys → AllByRecursion (λ y. cmp k y ≡ Less) keys
below_all order [] k low less all = tt
below_all order (y ∷ keys) k low less all = (order.trans k low y less all.0, below_all order keys k low less all.1)

module _ {K X : Type 0} (cmp : K → K → Ordering) (order : IsTotalOrder cmp) where
  -- what is below each key of a table and below one more is below each key of what comes of it
  below_more : (rows : List (K × X)) (k : K) (v : X) (low : K) → cmp low k ≡ Less → AllByRecursion (λ y. cmp low y ≡ Less) (keys_of rows) → AllByRecursion (λ y. cmp low y ≡ Less) (keys_of (insert_entry cmp rows k v))
  below_more [] k v low less all = (less, tt)
  below_more (row ∷ rows) k v low less all = by (cmp k row.0) (below_more rows k v low less all.1)
    where
      by : (o : Ordering) → AllByRecursion (λ y. cmp low y ≡ Less) (keys_of (insert_entry cmp rows k v))
          → AllByRecursion (λ y. cmp low y ≡ Less) (keys_of (match_ordering o ((k, v) ∷ row ∷ rows) ((row.0, v) ∷ rows) (row ∷ insert_entry cmp rows k v)))
      by Less later = (less, all)
      by Equal later = all
      by Greater later = (all.0, later)

  -- a sorted table stays sorted
  still_sorted : (rows : List (K × X)) (k : K) (v : X) → IsStrictlySortedBy cmp (keys_of rows) → IsStrictlySortedBy cmp (keys_of (insert_entry cmp rows k v))
  unfolding IsStrictlySortedBy
  still_sorted [] k v sorted = (tt, tt)
  still_sorted (row ∷ rows) k v sorted = by (cmp k row.0) same (still_sorted rows k v sorted.1)
    where
      by : (o : Ordering) → cmp k row.0 ≡ o → IsStrictlySortedBy cmp (keys_of (insert_entry cmp rows k v))
          → IsStrictlySortedBy cmp (keys_of (match_ordering o ((k, v) ∷ row ∷ rows) ((row.0, v) ∷ rows) (row ∷ insert_entry cmp rows k v)))
      by Less is later = ((is, below_all order (keys_of rows) k row.0 is sorted.0), sorted)
      by Equal is later = sorted
      by Greater is later = (below_more rows k v row.0 (order.antisymm row.0 k ∙ ap ordering_reverse is) sorted.0, later)

-- the rows of a table keep to their ranks
pub ranks_rise : (prios : List Prio) (rows : List ((Reverse ℕ × ℕ) × Prio)) → IsStrictlySortedBy rank_cmp (keys_of rows) → IsStrictlySortedBy rank_cmp (keys_of (fold with_rank rows prios))
ranks_rise [] rows sorted = sorted
ranks_rise (prio ∷ prios) rows sorted = ranks_rise prios (with_rank rows prio) (still_sorted rank_cmp rank_total rows (rank_of prio) prio sorted)
