-- What slots ask of a limit, added where the demand on it stands.
use Rattle.std.proofs.Common.{◌≡◌, ℕ, Bool, ◌<◌, ◌≤◌, ◌+◌, not, zero, suc, true, false, inl, inr, List, [], ◌∷◌, ◌++◌, get_or, length, Some, None, refl, sym, ap, subst, ◌∙◌, arith}
use Rattle.std.specs.Prelude.{position, slice_set, nat_lt, map}
use Rattle.std.specs.List.{position_or_len}
use Rattle.std.proofs.lemmas.Bool.{cases_Bool, cond-true, cond-false, ltb-false, or_parts, true≢false, false_from_ne_true}
use Rattle.std.proofs.lemmas.List.Quantifiers.{position-Some}
use Rattle.ge_model_place.specs.Bookings.{same_limit}
use Rattle.ge_model_rows.specs.ScheduleRows.{LimitId, Demand}
use Rattle.ge_model_place.proofs.Same.{limits_equal, limit_same}
use Rattle.ge_model_place.specs.Limits.{Counted as Limited, with_demand, with_more, demand_for}
use Rattle.ge_capacities.specs.Found.{is_on, is_found}

-- what stands where a test picks one of two lists
abbrev choice : Bool → List Demand → List Demand → List Demand
choice b here there = elim b [ true ↦ here | false ↦ there ]

at_place : (slots : ℕ) (more : Limited) (demands : List Demand) (i : ℕ) (d : Demand) → i < length demands → is_on more.limit (get_or demands i d) ≡ true → ((k : ℕ) → k < i → is_on more.limit (get_or demands k d) ≡ false)
    → with_demand slots demands more ≡ slice_set demands i (with_more slots more (get_or demands i d))
at_place slots more [] i d inside here before = absurd (omega (arith, inside))
at_place slots more (x ∷ demands) zero d inside here before = ap (λ b. choice b (with_more slots more x ∷ demands) (x ∷ with_demand slots demands more)) here
at_place slots more (x ∷ demands) (suc i) d inside here before =
    let first : same_limit x.limit more.limit ≡ false = before 0 (omega arith) in
    let rest = at_place slots more demands i d (omega (arith, inside)) here (λ k below. before (suc k) (omega (arith, below))) in
    ap (λ b. choice b (with_more slots more x ∷ demands) (x ∷ with_demand slots demands more)) first ∙ ap (λ l. x ∷ l) rest

at_end : (slots : ℕ) (more : Limited) (demands : List Demand) → length demands ≤ position_or_len (is_on more.limit) demands → with_demand slots demands more ≡ demands ++ demand_for slots more ∷ []
at_end slots more [] e = refl
at_end slots more (x ∷ demands) e =
    elim (cases_Bool (same_limit x.limit more.limit)) [
      | inl same ↦ let first : position_or_len (is_on more.limit) (x ∷ demands) ≡ 0 = cond-false _ _ _ (ap not same) in absurd (omega (arith, first, e))
      | inr other ↦
          let behind : position_or_len (is_on more.limit) (x ∷ demands) ≡ 1 + position_or_len (is_on more.limit) demands = cond-true _ _ _ (ap not other) in
          ap (λ b. choice b (with_more slots more x ∷ demands) (x ∷ with_demand slots demands more)) other ∙ ap (λ l. x ∷ l) (at_end slots more demands (omega (arith, behind, e)))
    ]

pub found_within : (limit : LimitId) (demands : List Demand) (i : ℕ) (d : Demand) → position (is_on limit) demands ≡ Some i → i < length demands
found_within limit demands i d e = (position-Some (is_on limit) demands i d e).0

pub found_there : (slots : ℕ) (more : Limited) (demands : List Demand) (i : ℕ) (d : Demand) → position (is_on more.limit) demands ≡ Some i
    → with_demand slots demands more ≡ slice_set demands i (with_more slots more (get_or demands i d))
found_there slots more demands i d e = let is = position-Some (is_on more.limit) demands i d e in at_place slots more demands i d is.0 is.1 is.2

pub none_there : (slots : ℕ) (more : Limited) (demands : List Demand) → position (is_on more.limit) demands ≡ None → with_demand slots demands more ≡ demands ++ demand_for slots more ∷ []
none_there slots more demands e =
    elim (cases_Bool (nat_lt (position_or_len (is_on more.limit) demands) (length demands))) [
      | inl within ↦ absurd (some_none (position_or_len (is_on more.limit) demands) (sym (cond-true _ _ _ within) ∙ e))
      | inr behind ↦ at_end slots more demands (ltb-false _ _ behind)
    ]
  where
    some_none : (n : ℕ) → Some n ≡ None → ⊥
    some_none n e = cc

pub demand_is : (slots : ℕ) (more : Limited) (amount : ℕ) → amount ≡ (demand_for slots more).amount → (record { limit = more.limit; amount = amount }) ≡ demand_for slots more
demand_is slots more amount is = λ i. record { limit = more.limit; amount = is i }

pub pushed_there : (slots : ℕ) (more : Limited) (demands new : List Demand) (demand : Demand) → position (is_on more.limit) demands ≡ None → demand ≡ demand_for slots more → new ≡ demands ++ demand ∷ [] → new ≡ with_demand slots demands more
pushed_there slots more demands new demand none asked is = is ∙ ap (λ (d : Demand). demands ++ d ∷ []) asked ∙ sym (none_there slots more demands none)

-- which of two limits comes first doesn't matter
pub apart_back : (a b : LimitId) → same_limit b a ≡ false → same_limit a b ≡ false
apart_back a b apart =
    false_from_ne_true (same_limit a b) (λ same. true≢false (sym (subst (λ l. same_limit b l ≡ true) (sym (limits_equal a b same)) (limit_same b)) ∙ apart))

-- a limit that isn't among those of which something is asked gets a demand of its own
pub asked_anew : (slots : ℕ) (more : Limited) (found : List Limited) → is_found found more.limit ≡ false → with_demand slots (map (demand_for slots) found) more ≡ map (demand_for slots) found ++ demand_for slots more ∷ []
asked_anew slots more [] new = refl
asked_anew slots more (x ∷ found) new =
    let parts = or_parts (same_limit more.limit x.limit) (is_found found more.limit) new in
    let first = demand_for slots x in
    let behind = map (demand_for slots) found in
    ap (λ b. choice b (with_more slots more first ∷ behind) (first ∷ with_demand slots behind more)) (apart_back x.limit more.limit parts.0) ∙ ap (λ l. first ∷ l) (asked_anew slots more found parts.1)
