-- A sort by rank gives the table of priorities.
use Rattle.std.proofs.Common.{◌≡◌, refl, ap, sym, ◌∙◌}
use Rattle.std.specs.Prelude.{ℕ, Bool, true, false, ◌||◌, ◌&&◌, List, [], ◌∷◌, ◌++◌, map, flat_map, fold, IsPermutation, refl as same}
use mathlib.Core.Bool.{true≢false}
use Rattle.std.specs.BTreeMap.{insert_entry}
use Rattle.std.specs.List.{AllByRecursion, list_any}
use Rattle.std.specs.List.Sorted.{IsStrictlySortedBy}
use Rattle.std.specs.Map.{keys_of, values_of}
use Rattle.std.specs.Ordering.{is_eq, is_lt, match_ordering, ordering_then, nat_cmp}
use Rattle.std.specs.declared.cmp.Ordering.{Ordering}
use Rattle.std.specs.declared.cmp.Ordering.TheVariants.{Less, Equal, Greater}
use Rattle.std.proofs.lemmas.List.Sorted.{list_any-IsPermutation}
use Rattle.std.proofs.lemmas.Map.Lookups.{CmpEqualImpliesEq, exact_unsigned, btree_set_from_contains}
use Rattle.ge_model_rows.specs.ClusterRows.{Cluster}
use Rattle.ge_model_rows.specs.ScheduleRows.{Prio}
use Rattle.ge_model_order.specs.Priority.{rank_cmp, rank_of, with_rank, tasks_of, order_of}
use Rattle.ge_order.specs.Ranked.{Rank, AreRanks, rise, rise_above, tasks_at_rank}
use Rattle.ge_model_order.proofs.Sorting.{rank_total}
use Rattle.ge_order.proofs.Rising.{ranks_rise}

-- ranks that the order doesn't tell apart are equal
thens : (a b : Ordering) → ordering_then a b ≡ Equal → (a ≡ Equal) × (b ≡ Equal)
thens Less b e = absurd (true≢false (ap is_lt e))
thens Equal b e = (refl, e)
thens Greater b e = absurd (true≢false (ap is_eq (sym e)))

pub rank_exact : CmpEqualImpliesEq rank_cmp
rank_exact x y e =
    let both = thens (nat_cmp (y.0).0 (x.0).0) (nat_cmp x.1 y.1) e in
    λ i. (record { 0 = sym (exact_unsigned (y.0).0 (x.0).0 both.0) i }, exact_unsigned x.1 y.1 both.1 i)

again : (b r : Bool) → (b || r) ≡ (b || (b || r))
again true r = refl
again false r = refl

turned : (a b r : Bool) → (a || (b || r)) ≡ (b || (a || r))
turned true true r = refl
turned true false r = refl
turned false b r = refl

-- whether a rank is one of a table's
abbrev has : Rank → List (Rank × Prio) → Bool
has q rows = list_any (λ k. is_eq (rank_cmp q k)) (keys_of rows)

has_more : (q k : Rank) (v : Prio) (rows : List (Rank × Prio)) → has q (insert_entry rank_cmp rows k v) ≡ (is_eq (rank_cmp q k) || has q rows)
has_more q k v [] = refl
has_more q k v (row ∷ rows) = by (rank_cmp k row.0) same (has_more q k v rows)
  where
    by : (o : Ordering) → rank_cmp k row.0 ≡ o → has q (insert_entry rank_cmp rows k v) ≡ (is_eq (rank_cmp q k) || has q rows)
        → has q (match_ordering o ((k, v) ∷ row ∷ rows) ((row.0, v) ∷ rows) (row ∷ insert_entry rank_cmp rows k v)) ≡ (is_eq (rank_cmp q k) || (is_eq (rank_cmp q row.0) || has q rows))
    by Less is later = refl
    by Equal is later =
        again (is_eq (rank_cmp q row.0)) (has q rows) ∙ ap (λ (b : Bool). b || (is_eq (rank_cmp q row.0) || has q rows)) (ap (λ (r : Rank). is_eq (rank_cmp q r)) (sym (rank_exact k row.0 is)))
    by Greater is later = ap (λ (b : Bool). is_eq (rank_cmp q row.0) || b) later ∙ turned (is_eq (rank_cmp q row.0)) (is_eq (rank_cmp q k)) (has q rows)

has_all : (q : Rank) (prios : List Prio) (rows : List (Rank × Prio)) → has q (fold with_rank rows prios) ≡ (list_any (λ k. is_eq (rank_cmp q k)) (map rank_of prios) || has q rows)
has_all q [] rows = refl
has_all q (prio ∷ prios) rows =
    has_all q prios (with_rank rows prio)
    ∙ ap (λ (b : Bool). list_any (λ k. is_eq (rank_cmp q k)) (map rank_of prios) || b) (has_more q (rank_of prio) prio rows)
    ∙ moved (list_any (λ k. is_eq (rank_cmp q k)) (map rank_of prios)) (is_eq (rank_cmp q (rank_of prio))) (has q rows)
  where
    moved : (a b r : Bool) → (a || (b || r)) ≡ ((b || a) || r)
    moved true true r = refl
    moved true false r = refl
    moved false true r = refl
    moved false false r = refl

or_none : (b : Bool) → (b || false) ≡ b
or_none true = refl
or_none false = refl

both : (a b : Bool) → (a && b) ≡ true → (a ≡ true) × (b ≡ true)
both true b e = (refl, e)
both false b e = absurd (true≢false (sym e))

pub less : (o : Ordering) → is_lt o ≡ true → o ≡ Less
less Less e = refl
less Equal e = absurd (true≢false (sym e))
less Greater e = absurd (true≢false (sym e))

-- ranks each of which is below the next one are below all later ones
all_above : (low : Rank) (ranks : List Rank) → rise_above low ranks ≡ true → AllByRecursion (λ y. rank_cmp low y ≡ Less) ranks × IsStrictlySortedBy rank_cmp ranks
unfolding IsStrictlySortedBy
all_above low [] e = (tt, tt)
all_above low (rank ∷ ranks) e =
    let parts = both (is_lt (rank_cmp low rank)) (rise_above rank ranks) e in
    let rest = all_above rank ranks parts.1 in
    let first = less (rank_cmp low rank) parts.0 in
    ((first, further ranks first rest.0), (rest.0, rest.1))
  where
    further : (others : List Rank) → rank_cmp low rank ≡ Less → AllByRecursion (λ y. rank_cmp rank y ≡ Less) others → AllByRecursion (λ y. rank_cmp low y ≡ Less) others
    further [] first all = tt
    further (y ∷ others) first all = (rank_total.trans low rank y first all.0, further others first all.1)

rise_sorted : (ranks : List Rank) → rise ranks ≡ true → IsStrictlySortedBy rank_cmp ranks
unfolding IsStrictlySortedBy
rise_sorted [] e = tt
rise_sorted (rank ∷ ranks) e = all_above rank ranks e

-- the ranks of priorities in some order, if they rise, are those of the table
pub are_ranks : (prios : List Prio) (ranks : List Rank) → IsPermutation (map rank_of prios) ranks → rise ranks ≡ true → AreRanks prios ranks
unfolding IsStrictlySortedBy
are_ranks prios ranks moved up =
    btree_set_from_contains rank_total (record { keys = ranks }) (record { keys = keys_of (fold with_rank [] prios) }) (rise_sorted ranks up) (ranks_rise prios [] tt)
    (λ q. sym (list_any-IsPermutation (λ k. is_eq (rank_cmp q k)) (map rank_of prios) ranks moved) ∙ sym (has_all q prios [] ∙ or_none (list_any (λ k. is_eq (rank_cmp q k)) (map rank_of prios))))
    rank_exact

-- each row of a table is that of the job of its rank
abbrev KeepsJobs : List (Rank × Prio) → Type 0
KeepsJobs rows = AllByRecursion (λ row. row.1.job ≡ row.0.1) rows

still_jobs : (rows : List (Rank × Prio)) (prio : Prio) → KeepsJobs rows → KeepsJobs (with_rank rows prio)
still_jobs [] prio kept = (refl, tt)
still_jobs (row ∷ rows) prio kept = by (rank_cmp (rank_of prio) row.0) same (still_jobs rows prio kept.1)
  where
    by : (o : Ordering) → rank_cmp (rank_of prio) row.0 ≡ o → KeepsJobs (with_rank rows prio) → KeepsJobs (match_ordering o ((rank_of prio, prio) ∷ row ∷ rows) ((row.0, prio) ∷ rows) (row ∷ with_rank rows prio))
    by Less is later = (refl, kept)
    by Equal is later = (ap (λ (r : Rank). r.1) (rank_exact (rank_of prio) row.0 is), kept.1)
    by Greater is later = (kept.0, later)

jobs_kept : (prios : List Prio) (rows : List (Rank × Prio)) → KeepsJobs rows → KeepsJobs (fold with_rank rows prios)
jobs_kept [] rows kept = kept
jobs_kept (prio ∷ prios) rows kept = jobs_kept prios (with_rank rows prio) (still_jobs rows prio kept)

tasks_alike : (c : Cluster) (now : ℕ) (rows : List (Rank × Prio)) → KeepsJobs rows → flat_map (tasks_at_rank c now) (keys_of rows) ≡ flat_map (tasks_of c now) (values_of rows)
tasks_alike c now [] kept = refl
tasks_alike c now (row ∷ rows) kept = λ i. tasks_at_rank c now (row.0.0, sym kept.0 i) ++ tasks_alike c now rows kept.1 i

-- the tasks of the jobs at these ranks, one after the other, are the order of the run
pub order_from_ranks : (c : Cluster) (prios : List Prio) (now : ℕ) (ranks : List Rank) → AreRanks prios ranks → flat_map (tasks_at_rank c now) ranks ≡ order_of c prios now
unfolding order_of
order_from_ranks c prios now ranks are = ap (flat_map (tasks_at_rank c now)) are ∙ tasks_alike c now (fold with_rank [] prios) (jobs_kept prios [] tt)
