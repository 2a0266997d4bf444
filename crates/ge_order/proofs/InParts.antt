-- The order of priorities in two parts.
use Rattle.std.proofs.Common.{◌≡◌, refl, ap, ◌∙◌}
use Rattle.std.specs.Prelude.{ℕ, Bool, true, false, not, List, [], ◌∷◌, ◌++◌, flat_map, fold, cond, Option, Some, None, IfSome, refl as same}
use mathlib.Core.Bool.{true≢false}
use Rattle.std.specs.List.{AllByRecursion}
use Rattle.std.specs.Map.{values_of}
use Rattle.std.specs.Ordering.{is_lt, match_ordering, ordering_reverse}
use Rattle.std.specs.declared.cmp.Ordering.{Ordering}
use Rattle.std.specs.declared.cmp.Ordering.TheVariants.{Less, Equal, Greater}
use Rattle.std.proofs.lemmas.Grind.{flat_map-append}
use Rattle.std.proofs.lemmas.List.{map-append}
use Rattle.ge_model_rows.specs.ClusterRows.{Cluster}
use Rattle.ge_model_rows.specs.ScheduleRows.{Prio}
use Rattle.ge_model_order.specs.Priority.{rank_cmp, rank_of, with_rank, tasks_of, order_of}
use Rattle.ge_model_order.proofs.Sorting.{rank_total}
use Rattle.ge_order.specs.Parted.{comes_before, first_of, second_of, OrdersInParts}
use Rattle.ge_order.specs.Ranked.{Rank}
use Rattle.ge_order.specs.declared.parting.Bound.{Bound}
use Rattle.ge_order.proofs.Ordered.{rank_exact, less}

abbrev Rows : Type 0
Rows = List (Rank × Prio)

module _ (bound : Rank) where
  -- whether each rank of a table comes before the bound, or none does
  abbrev Sided : Bool → Rows → Type 0
  Sided side rows = AllByRecursion (λ row. is_lt (rank_cmp row.0 bound) ≡ side) rows

  -- what comes before the bound is below what doesn't
  apart : (low high : Rank) → is_lt (rank_cmp low bound) ≡ true → is_lt (rank_cmp high bound) ≡ false → rank_cmp low high ≡ Less
  apart low high before behind = by (rank_cmp high bound) same behind
    where
      first : rank_cmp low bound ≡ Less
      first = less (rank_cmp low bound) before

      by : (o : Ordering) → rank_cmp high bound ≡ o → is_lt o ≡ false → rank_cmp low high ≡ Less
      by Less is e = absurd (true≢false e)
      by Equal is e = ap (rank_cmp low) (rank_exact high bound is) ∙ first
      by Greater is e = rank_total.trans low bound high first (rank_total.antisymm bound high ∙ ap ordering_reverse is)

  still_sided : (side : Bool) (rows : Rows) (prio : Prio) → is_lt (rank_cmp (rank_of prio) bound) ≡ side → Sided side rows → Sided side (with_rank rows prio)
  still_sided side [] prio one all = (one, tt)
  still_sided side (row ∷ rows) prio one all = by (rank_cmp (rank_of prio) row.0) (still_sided side rows prio one all.1)
    where
      by : (o : Ordering) → Sided side (with_rank rows prio) → Sided side (match_ordering o ((rank_of prio, prio) ∷ row ∷ rows) ((row.0, prio) ∷ rows) (row ∷ with_rank rows prio))
      by Less later = (one, all)
      by Equal later = all
      by Greater later = (all.0, later)

  -- a priority before the bound goes into the first part of a table
  into_first : (low high : Rows) (prio : Prio) → is_lt (rank_cmp (rank_of prio) bound) ≡ true → Sided false high → with_rank (low ++ high) prio ≡ with_rank low prio ++ high
  into_first [] [] prio before all = refl
  into_first [] (row ∷ high) prio before all =
      ap (λ o. match_ordering o ((rank_of prio, prio) ∷ row ∷ high) ((row.0, prio) ∷ high) (row ∷ with_rank high prio)) (apart (rank_of prio) row.0 before all.0)
  into_first (row ∷ low) high prio before all = by (rank_cmp (rank_of prio) row.0) (into_first low high prio before all)
    where
      by : (o : Ordering) → with_rank (low ++ high) prio ≡ with_rank low prio ++ high
          → match_ordering o ((rank_of prio, prio) ∷ row ∷ (low ++ high)) ((row.0, prio) ∷ (low ++ high)) (row ∷ with_rank (low ++ high) prio)
          ≡ match_ordering o ((rank_of prio, prio) ∷ row ∷ low) ((row.0, prio) ∷ low) (row ∷ with_rank low prio) ++ high
      by Less later = refl
      by Equal later = refl
      by Greater later = ap (λ (rows : Rows). row ∷ rows) later

  -- one behind it goes into the second
  into_second : (low high : Rows) (prio : Prio) → is_lt (rank_cmp (rank_of prio) bound) ≡ false → Sided true low → with_rank (low ++ high) prio ≡ low ++ with_rank high prio
  into_second [] high prio behind all = refl
  into_second (row ∷ low) high prio behind all =
      ap (λ o. match_ordering o ((rank_of prio, prio) ∷ row ∷ (low ++ high)) ((row.0, prio) ∷ (low ++ high)) (row ∷ with_rank (low ++ high) prio)) after
      ∙ ap (λ (rows : Rows). row ∷ rows) (into_second low high prio behind all.1)
    where
      after : rank_cmp (rank_of prio) row.0 ≡ Greater
      after = rank_total.antisymm (rank_of prio) row.0 ∙ ap ordering_reverse (apart row.0 (rank_of prio) all.0 behind)

module _ (bound : Bound) where
  -- a table in two parts takes priorities part by part
  abbrev Apart : List Prio → Rows → Rows → Type 0
  Apart prios low high = Sided bound.rank true low → Sided bound.rank false high → fold with_rank (low ++ high) prios ≡ fold with_rank low (first_of bound prios) ++ fold with_rank high (second_of bound prios)

  tabled_apart : (prios : List Prio) (low high : Rows) → Apart prios low high
  tabled_apart [] low high before behind = refl
  tabled_apart (prio ∷ prios) low high before behind = by (comes_before bound prio) same (tabled_apart prios (with_rank low prio) high) (tabled_apart prios low (with_rank high prio))
    where
      by : (b : Bool) → comes_before bound prio ≡ b → Apart prios (with_rank low prio) high → Apart prios low (with_rank high prio) → fold with_rank (with_rank (low ++ high) prio) prios
          ≡ fold with_rank low (cond b (prio ∷ first_of bound prios) (first_of bound prios)) ++ fold with_rank high (cond (not b) (prio ∷ second_of bound prios) (second_of bound prios))
      by true is one other =
          ap (λ (rows : Rows). fold with_rank rows prios) (into_first bound.rank low high prio is behind) ∙ one (still_sided bound.rank true low prio is before) behind
      by false is one other =
          ap (λ (rows : Rows). fold with_rank rows prios) (into_second bound.rank low high prio is before) ∙ other before (still_sided bound.rank false high prio is behind)

-- the order of priorities is that of those before a bound, and then that of the others
pub in_parts : (c : Cluster) (now : ℕ) (bound : Bound) (prios : List Prio) → order_of c prios now ≡ order_of c (first_of bound prios) now ++ order_of c (second_of bound prios) now
unfolding order_of
in_parts c now bound prios =
    let low = fold with_rank [] (first_of bound prios) in
    let high = fold with_rank [] (second_of bound prios) in
    ap (λ (rows : Rows). flat_map (tasks_of c now) (values_of rows)) (tabled_apart bound prios [] [] tt tt)
    ∙ ap (flat_map (tasks_of c now)) (map-append (λ (row : Rank × Prio). row.1) low high)
    ∙ flat_map-append (tasks_of c now) (values_of low) (values_of high)

pub any_parts : (found : Option Bound) (prios : List Prio) → IfSome found (λ bound. OrdersInParts bound prios)
any_parts None prios = tt
any_parts (Some bound) prios = λ c now. in_parts c now bound prios
