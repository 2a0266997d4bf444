-- The order of a run is sorted, and has the tasks of each of its jobs once.
use Rattle.std.proofs.Common.{◌≡◌, refl, ap, sym, ◌∙◌, subst}
use Rattle.std.specs.Prelude.{ℕ, false, ◌+◌, nat_eq, List, [], ◌∷◌, ◌++◌, map, flat_map, fold, sum_by, IsPermutation, refl as same}
use mathlib.Core.Bool.{true≢false}
use Rattle.std.specs.BTreeMap.{insert_entry}
use Rattle.std.specs.Cmp.{IsTotalOrder, nat_cmp_total, on_total, back_total, then_total, unsigned_ties, nat_eq_equiv}
use Rattle.std.specs.List.{AllByRecursion, IsDistinct}
use Rattle.std.specs.List.Sorted.{IsStrictlySortedBy}
use Rattle.std.specs.Map.{keys_of, values_of}
use Rattle.std.specs.Ordering.{is_eq, match_ordering, ordering_reverse, ordering_then, nat_cmp}
use Rattle.std.specs.declared.cmp.Ordering.{Ordering}
use Rattle.std.specs.declared.cmp.Ordering.TheVariants.{Less, Equal, Greater}
use Rattle.std.specs.declared.cmp.Reverse.{Reverse}
use Rattle.std.proofs.lemmas.List.Sorted.{IsPermutation-refl, IsPermutation-trans, IsPermutation-cons, IsPermutation-sym, IsPermutation-middle, IsPermutation-append_right, IsPermutation-map, sum_by-IsPermutation}
use Rattle.std.proofs.lemmas.List.Sums.{sum_by-append, sum_by-cons}
use Rattle.ge_model_rows.specs.ClusterRows.{Cluster}
use Rattle.ge_model_rows.specs.ScheduleRows.{Prio}
use Rattle.ge_model_rows.specs.TaskRows.{TaskId}
use Rattle.ge_model_order.specs.Priority.{rank_cmp, rank_of, with_rank, sorted_prios, tasks_of, order_of}

-- what is below a key is below all that the key is below
below_all : {K : Type 0} {cmp : K → K → Ordering} → IsTotalOrder cmp → (keys : List K) (k low : K) → cmp k low ≡ Less → AllByRecursion (λ y. cmp low y ≡ Less) keys → AllByRecursion (λ y. cmp k y ≡ Less) keys
below_all order [] k low less all = tt
below_all order (y ∷ keys) k low less all = (order.trans k low y less all.0, below_all order keys k low less all.1)

module _ {K X : Type 0} (cmp : K → K → Ordering) where
  -- a key that is none of a table's
  abbrev IsNew : K → List (K × X) → Type 0
  IsNew k rows = AllByRecursion (λ row. is_eq (cmp k row.0) ≡ false) rows

  -- a new key makes one row more
  inserted : (rows : List (K × X)) (k : K) (v : X) → IsNew k rows → IsPermutation ((k, v) ∷ rows) (insert_entry cmp rows k v)
  inserted [] k v new = IsPermutation-refl _
  inserted (row ∷ rows) k v new = by (cmp k row.0) new.0 (inserted rows k v new.1)
    where
      by : (o : Ordering) → is_eq o ≡ false → IsPermutation ((k, v) ∷ rows) (insert_entry cmp rows k v)
          → IsPermutation ((k, v) ∷ row ∷ rows) (match_ordering o ((k, v) ∷ row ∷ rows) ((row.0, v) ∷ rows) (row ∷ insert_entry cmp rows k v))
      by Less differs later = IsPermutation-refl _
      by Equal differs later = absurd (true≢false differs)
      by Greater differs later = IsPermutation-trans _ _ _ (IsPermutation-middle ((k, v) ∷ []) row rows) (IsPermutation-cons row _ _ later)

  -- a key that is new to a table and isn't the one put in is new to what comes of it
  still_new : (rows : List (K × X)) (k : K) (v : X) (q : K) → is_eq (cmp q k) ≡ false → IsNew q rows → IsNew q (insert_entry cmp rows k v)
  still_new [] k v q other new = (other, tt)
  still_new (row ∷ rows) k v q other new = by (cmp k row.0) (still_new rows k v q other new.1)
    where
      by : (o : Ordering) → IsNew q (insert_entry cmp rows k v) → IsNew q (match_ordering o ((k, v) ∷ row ∷ rows) ((row.0, v) ∷ rows) (row ∷ insert_entry cmp rows k v))
      by Less later = (other, new)
      by Equal later = new
      by Greater later = (new.0, later)

  module _ (order : IsTotalOrder cmp) where
    -- what is below each key of a table and below one more is below each key of what comes of it
    below_more : (rows : List (K × X)) (k : K) (v : X) (low : K) → cmp low k ≡ Less → AllByRecursion (λ y. cmp low y ≡ Less) (keys_of rows) → AllByRecursion (λ y. cmp low y ≡ Less) (keys_of (insert_entry cmp rows k v))
    below_more [] k v low less all = (less, tt)
    below_more (row ∷ rows) k v low less all = by (cmp k row.0) (below_more rows k v low less all.1)
      where
        by : (o : Ordering) → AllByRecursion (λ y. cmp low y ≡ Less) (keys_of (insert_entry cmp rows k v))
            → AllByRecursion (λ y. cmp low y ≡ Less) (keys_of (match_ordering o ((k, v) ∷ row ∷ rows) ((row.0, v) ∷ rows) (row ∷ insert_entry cmp rows k v)))
        by Less later = (less, all)
        by Equal later = all
        by Greater later = (all.0, later)

    -- a sorted table stays sorted
    still_sorted : (rows : List (K × X)) (k : K) (v : X) → IsStrictlySortedBy cmp (keys_of rows) → IsStrictlySortedBy cmp (keys_of (insert_entry cmp rows k v))
    unfolding IsStrictlySortedBy
    still_sorted [] k v sorted = (tt, tt)
    still_sorted (row ∷ rows) k v sorted = by (cmp k row.0) same (still_sorted rows k v sorted.1)
      where
        by : (o : Ordering) → cmp k row.0 ≡ o → IsStrictlySortedBy cmp (keys_of (insert_entry cmp rows k v))
            → IsStrictlySortedBy cmp (keys_of (match_ordering o ((k, v) ∷ row ∷ rows) ((row.0, v) ∷ rows) (row ∷ insert_entry cmp rows k v)))
        by Less is later = ((is, below_all order (keys_of rows) k row.0 is sorted.0), sorted)
        by Equal is later = sorted
        by Greater is later = (below_more rows k v row.0 (order.antisymm row.0 k ∙ ap ordering_reverse is) sorted.0, later)

-- ranks are in a total order
pub rank_total : IsTotalOrder rank_cmp
rank_total = then_total (on_total (λ rank. (rank.0).0) (back_total nat_cmp_total)) (on_total (λ rank. rank.1) nat_cmp_total)

abbrev RankRow : Type 0
RankRow = (Reverse ℕ × ℕ) × Prio

abbrev row_of : Prio → RankRow
row_of prio = (rank_of prio, prio)

-- the rows of a table keep to their ranks
ranks_rise : (prios : List Prio) (rows : List RankRow) → IsStrictlySortedBy rank_cmp (keys_of rows) → IsStrictlySortedBy rank_cmp (keys_of (fold with_rank rows prios))
ranks_rise [] rows sorted = sorted
ranks_rise (prio ∷ prios) rows sorted = ranks_rise prios (with_rank rows prio) (still_sorted rank_cmp rank_total rows (rank_of prio) prio sorted)

-- two jobs have two ranks
other_rank : (p q : Prio) → nat_eq p.job q.job ≡ false → is_eq (rank_cmp (rank_of q) (rank_of p)) ≡ false
other_rank p q apart = by (nat_cmp p.total q.total) (sym (unsigned_ties q.job p.job) ∙ nat_eq_equiv.symm q.job p.job ∙ apart)
  where
    by : (o : Ordering) → is_eq (nat_cmp q.job p.job) ≡ false → is_eq (ordering_then o (nat_cmp q.job p.job)) ≡ false
    by Less differs = refl
    by Equal differs = differs
    by Greater differs = refl

-- the ranks of these priorities are none of a table's
abbrev AreNew : List Prio → List RankRow → Type 0
AreNew prios rows = AllByRecursion (λ prio. IsNew rank_cmp (rank_of prio) rows) prios

are_still_new : (prio : Prio) (prios : List Prio) (rows : List RankRow) → AllByRecursion (λ job. nat_eq prio.job job ≡ false) (map (λ other. other.job) prios) → AreNew prios rows → AreNew prios (with_rank rows prio)
are_still_new prio [] rows apart new = tt
are_still_new prio (next ∷ prios) rows apart new =
    (still_new rank_cmp rows (rank_of prio) prio (rank_of next) (other_rank prio next apart.0) new.0, are_still_new prio prios rows apart.1 new.1)

are_new_to_none : (prios : List Prio) → AreNew prios []
are_new_to_none [] = tt
are_new_to_none (prio ∷ prios) = (tt, are_new_to_none prios)

rows_gained : (prios : List Prio) (rows : List RankRow) → IsDistinct nat_eq (map (λ prio. prio.job) prios) → AreNew prios rows → IsPermutation (map row_of prios ++ rows) (fold with_rank rows prios)
unfolding IsDistinct
rows_gained [] rows apart new = IsPermutation-refl _
rows_gained (prio ∷ prios) rows apart new =
    IsPermutation-trans _ _ _
    (IsPermutation-trans _ _ _ (IsPermutation-sym _ _ (IsPermutation-middle (map row_of prios) (row_of prio) rows)) (IsPermutation-append_right (map row_of prios) _ _ (inserted rank_cmp rows (rank_of prio) prio new.0)))
    (rows_gained prios (with_rank rows prio) apart.1 (are_still_new prio prios rows apart.0 new.1))

values_back : (prios : List Prio) → values_of (map row_of prios ++ []) ≡ prios
values_back [] = refl
values_back (prio ∷ prios) = ap (λ rest. prio ∷ rest) (values_back prios)

-- priorities that are sorted are the same ones, where no job stands twice
pub sorted_prios-permutes : (prios : List Prio) → IsDistinct nat_eq (map (λ prio. prio.job) prios) → IsPermutation prios (sorted_prios prios)
sorted_prios-permutes prios apart =
    subst (λ before. IsPermutation before (sorted_prios prios)) (values_back prios)
    (IsPermutation-map (λ row. row.1) _ _ (rows_gained prios [] apart (are_new_to_none prios)))

-- each row of a table is kept at its own rank
abbrev KeepsRanks : List RankRow → Type 0
KeepsRanks rows = AllByRecursion (λ row. row.0 ≡ rank_of row.1) rows

still_ranked : (rows : List RankRow) (prio : Prio) → IsNew rank_cmp (rank_of prio) rows → KeepsRanks rows → KeepsRanks (with_rank rows prio)
still_ranked [] prio new kept = (refl, tt)
still_ranked (row ∷ rows) prio new kept = by (rank_cmp (rank_of prio) row.0) new.0 (still_ranked rows prio new.1 kept.1)
  where
    by : (o : Ordering) → is_eq o ≡ false → KeepsRanks (with_rank rows prio) → KeepsRanks (match_ordering o (row_of prio ∷ row ∷ rows) ((row.0, prio) ∷ rows) (row ∷ with_rank rows prio))
    by Less differs later = (refl, kept)
    by Equal differs later = absurd (true≢false differs)
    by Greater differs later = (kept.0, later)

ranks_kept : (prios : List Prio) (rows : List RankRow) → IsDistinct nat_eq (map (λ prio. prio.job) prios) → AreNew prios rows → KeepsRanks rows → KeepsRanks (fold with_rank rows prios)
unfolding IsDistinct
ranks_kept [] rows apart new kept = kept
ranks_kept (prio ∷ prios) rows apart new kept =
    ranks_kept prios (with_rank rows prio) apart.1 (are_still_new prio prios rows apart.0 new.1) (still_ranked rows prio new.0 kept)

keys_are_ranks : (rows : List RankRow) → KeepsRanks rows → keys_of rows ≡ map rank_of (values_of rows)
keys_are_ranks [] kept = refl
keys_are_ranks (row ∷ rows) kept = λ i. kept.0 i ∷ keys_are_ranks rows kept.1 i

-- and they stand by rank: by total falling, then by job
pub sorted_prios-rise : (prios : List Prio) → IsDistinct nat_eq (map (λ prio. prio.job) prios) → IsStrictlySortedBy rank_cmp (map rank_of (sorted_prios prios))
unfolding IsStrictlySortedBy
sorted_prios-rise prios apart =
    let rows : List RankRow = fold with_rank [] prios in
    subst (IsStrictlySortedBy rank_cmp) (keys_are_ranks rows (ranks_kept prios [] apart (are_new_to_none prios) tt)) (ranks_rise prios [] tt)

sum_by-flat_map : {A B : Type 0} (f : B → ℕ) (g : A → List B) (items : List A) → sum_by f (flat_map g items) ≡ sum_by (λ item. sum_by f (g item)) items
sum_by-flat_map f g [] = refl
sum_by-flat_map f g (item ∷ items) =
    sum_by-append f (g item) (flat_map g items) ∙ ap (λ rest. sum_by f (g item) + rest) (sum_by-flat_map f g items) ∙ sym (sum_by-cons (λ a. sum_by f (g a)) item items)

-- the order of a run has the eligible tasks of its jobs, each as often as they have it, whatever is counted of them
pub order_of-counts : (c : Cluster) (prios : List Prio) (now : ℕ) (f : TaskId → ℕ) → IsDistinct nat_eq (map (λ prio. prio.job) prios)
    → sum_by f (order_of c prios now) ≡ sum_by f (flat_map (tasks_of c now) prios)
unfolding order_of
order_of-counts c prios now f apart =
    sum_by-flat_map f (tasks_of c now) (sorted_prios prios)
    ∙ sum_by-IsPermutation (λ prio. sum_by f (tasks_of c now prio)) prios (sorted_prios prios) (sorted_prios-permutes prios apart)
    ∙ sym (sum_by-flat_map f (tasks_of c now) prios)
