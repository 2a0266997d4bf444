-- Where the demand on each limit stands, kept beside the demands.
use Rattle.std.proofs.Common.{◌≡◌, ℕ, ◌<◌, ◌≤◌, ◌+◌, not, Bool, true, false, inl, inr, cond, List, [], ◌∷◌, ◌++◌, get_or, length, Some, None, refl, sym, ap, subst, ◌∙◌, arith}
use Rattle.std.specs.Prelude.{position, slice_set, nat_lt}
use Rattle.std.specs.List.{position_or_len}
use Rattle.std.specs.Map.{lookup}
use Rattle.std.specs.BTreeMap.{is_at, insert_entry}
use Rattle.std.proofs.lemmas.Bool.{cases_Bool, cases_lt, cond-true, cond-false, lt-ltb, le-ltb, ne_eqb, eq-eqb}
use Rattle.std.proofs.lemmas.List.{length-append, length-set}
use Rattle.std.proofs.lemmas.List.Folds.{position_or_len_push, position_or_len-set}
use Rattle.std.proofs.lemmas.List.Sums.{prefix_len-le-length}
use Rattle.ge_rows.specs.contracts.scheduling.LimitIdOrd.TheImpl.{cmp-value}
use Rattle.ge_model_place.specs.Bookings.{same_limit}
use Rattle.ge_model_rows.specs.ScheduleRows.{LimitId, Demand}
use Rattle.ge_model_place.proofs.Same.{limits_equal, limit_same}
use Rattle.ge_model_place.specs.Limits.{Counted as Limited, with_demand, with_more, demand_for}
use Rattle.ge_timeline.proofs.Numbering.{same_at, number_in_more}
use Rattle.ge_capacities.specs.Found.{is_on, AreKept}
use Rattle.ge_demands.proofs.Demanded.{apart_back, found_there, none_there}

-- the order of limits finds the same limit
pub same_lookup : (a : LimitId) (places : List (LimitId × ℕ)) → lookup (is_at (cmp-value.it a)) places ≡ lookup (same_limit a) places
same_lookup a [] = refl
same_lookup a (e ∷ places) = ap (λ b. cond b (Some e.1) (lookup (is_at (cmp-value.it a)) places)) (same_at a e.0) ∙ ap (λ o. cond (same_limit a e.0) (Some e.1) o) (same_lookup a places)

some_none : (n : ℕ) → Some n ≡ None → ⊥
some_none n e = cc

module _ {X : Type 0} (p : X → Bool) where
  found_at : (xs : List X) (k : ℕ) → position_or_len p xs ≡ k → k < length xs → position p xs ≡ Some k
  found_at xs k e inside = cond-true _ _ _ (lt-ltb (position_or_len p xs) (length xs) (omega (arith, e, inside))) ∙ ap (λ n. Some n) e

  absent : (xs : List X) → length xs ≤ position_or_len p xs → position p xs ≡ None
  absent xs over = cond-false _ _ _ (le-ltb (position_or_len p xs) (length xs) over)

  over_all : (xs : List X) → position p xs ≡ None → length xs ≤ position_or_len p xs
  over_all xs none =
      elim (cases_lt (position_or_len p xs) (length xs)) [
        | inl inside ↦ absurd (some_none (position_or_len p xs) (sym (found_at xs (position_or_len p xs) refl inside) ∙ none))
        | inr over ↦ over
      ]

  push_other : (xs : List X) (y : X) → p y ≡ false → position p (xs ++ y ∷ []) ≡ position p xs
  push_other xs y isnt =
      let long : length (xs ++ y ∷ []) ≡ length xs + 1 = length-append xs (y ∷ []) in
      let bound : position_or_len p xs ≤ length xs = prefix_len-le-length (λ x. not (p x)) xs in
      let is = position_or_len_push p xs y in
      elim (cases_lt (position_or_len p xs) (length xs)) [
        | inl inside ↦
            let stays : position_or_len p (xs ++ y ∷ []) ≡ position_or_len p xs = is ∙ cond-false _ _ _ (ne_eqb (position_or_len p xs) (length xs) (λ e. omega (arith, inside, e))) in
            found_at (xs ++ y ∷ []) (position_or_len p xs) stays (omega (arith, long, inside)) ∙ sym (found_at xs (position_or_len p xs) refl inside)
        | inr over ↦
            let behind : position_or_len p (xs ++ y ∷ []) ≡ length xs + 1 = is ∙ cond-true _ _ _ (eq-eqb (position_or_len p xs) (length xs) (omega (arith, bound, over))) ∙ ap (λ n. length xs + n) (cond-false _ _ _ isnt) in
            absent (xs ++ y ∷ []) (omega (arith, long, behind)) ∙ sym (absent xs over)
      ]

  push_new : (xs : List X) (y : X) → p y ≡ true → length xs ≤ position_or_len p xs → position p (xs ++ y ∷ []) ≡ Some (length xs)
  push_new xs y yes_there over =
      let long : length (xs ++ y ∷ []) ≡ length xs + 1 = length-append xs (y ∷ []) in
      let bound : position_or_len p xs ≤ length xs = prefix_len-le-length (λ x. not (p x)) xs in
      let here : position_or_len p (xs ++ y ∷ []) ≡ length xs + 0 =
      position_or_len_push p xs y ∙ cond-true _ _ _ (eq-eqb (position_or_len p xs) (length xs) (omega (arith, bound, over))) ∙ ap (λ n. length xs + n) (cond-true _ _ _ yes_there) in
      found_at (xs ++ y ∷ []) (length xs) (omega (arith, here)) (omega (arith, long))

  set_same : (xs : List X) (i : ℕ) (y d : X) → p y ≡ p (get_or xs i d) → position p (slice_set xs i y) ≡ position p xs
  set_same xs i y d e =
      ap (λ n. cond (nat_lt n (length (slice_set xs i y))) (Some n) None) (position_or_len-set p xs i y d e) ∙ ap (λ n. cond (nat_lt (position_or_len p xs) n) (Some (position_or_len p xs)) None) (length-set xs i y)

limit_kept : (slots : ℕ) (more : Limited) (d : Demand) → (with_more slots more d).limit ≡ d.limit
limit_kept slots more d =
    elim (cases_Bool more.once) [
      | inl once ↦ ap (λ (x : Demand). x.limit) (cond-true _ _ _ once)
      | inr each ↦ ap (λ (x : Demand). x.limit) (cond-false _ _ _ each)
    ]

pub still_kept : (places : List (LimitId × ℕ)) (demands : List Demand) (slots : ℕ) (more : Limited) (i : ℕ) (d : Demand) → position (is_on more.limit) demands ≡ Some i → AreKept places demands → AreKept places (with_demand slots demands more)
still_kept places demands slots more i d found kept limit =
    kept limit
    ∙ sym (ap (position (is_on limit)) (found_there slots more demands i d found)
    ∙ set_same (is_on limit) demands i (with_more slots more (get_or demands i d)) d (ap (λ l. same_limit l limit) (limit_kept slots more (get_or demands i d))))

pub kept_more : (places : List (LimitId × ℕ)) (demands : List Demand) (slots : ℕ) (more : Limited) → position (is_on more.limit) demands ≡ None → AreKept places demands
    → AreKept (insert_entry cmp-value.it places more.limit (length demands)) (with_demand slots demands more)
kept_more places demands slots more none kept limit =
    let found = number_in_more places more.limit (length demands) limit (kept more.limit ∙ none) in
    let is = ap (position (is_on limit)) (none_there slots more demands none) in
    elim (cases_Bool (same_limit limit more.limit)) [
      | inl same ↦
          let one : limit ≡ more.limit = limits_equal limit more.limit same in
          let here : same_limit more.limit limit ≡ true = subst (λ l. same_limit l limit ≡ true) one (limit_same limit) in
          let over : length demands ≤ position_or_len (is_on limit) demands = subst (λ l. length demands ≤ position_or_len (is_on l) demands) (sym one) (over_all (is_on more.limit) demands none) in
          found ∙ cond-true _ _ _ same ∙ sym (is ∙ push_new (is_on limit) demands (demand_for slots more) here over)
      | inr other ↦
          let there : same_limit more.limit limit ≡ false = apart_back more.limit limit other in
          found ∙ cond-false _ _ _ other ∙ kept limit ∙ sym (is ∙ push_other (is_on limit) demands (demand_for slots more) there)
    ]
