-- What grants ask: each limit once, something of each, and no more than their slots count for.
use Rattle.std.proofs.Common.{◌≡◌, ℕ, ◌+◌, ◌*◌, ◌≤◌, ◌==◌, inl, inr, Bool, true, false, min, List, [], ◌∷◌, fold, sum_by, refl, sym, subst, ap, ◌∙◌, arith}
use Rattle.std.specs.List.{list_all}
use Rattle.std.proofs.lemmas.Bool.{cond_both, cond-true, cond-false, cases_Bool, and_parts, and_from, not_from_false, true≢false, eqb-false}
use Rattle.std.proofs.lemmas.List.Sums.{sum_by-cons}
use Rattle.ge_model_rows.specs.ClusterRows.{Cluster}
use Rattle.ge_model_rows.specs.HostRows.{Groups}
use Rattle.ge_model_rows.specs.JobRows.{Job, Grant}
use Rattle.ge_model_rows.specs.ScheduleRows.{LimitId, Demand}
use Rattle.ge_model_place.specs.Bookings.{same_limit}
use Rattle.ge_model_place.specs.Limits.{Counted, greatest_demand, per_slot, is_per_job, resource_of, counted_at, asked_by, demand_for, with_more, with_demand, with_grant, demands_of}
use Rattle.ge_model_place.proofs.Once.{Each, asks, differs, Apart}
use Rattle.ge_model_place.proofs.Same.{limits_equal, limit_same}
use Rattle.ge_model_place.proofs.Taken.{IsCounted, counted_at_each, together, together_grows, asked_by_is, asked_by_least}

abbrev pub DemandsApart : List Demand → Type 0
DemandsApart ds = Apart (λ (d : Demand). d.limit) (λ (d : Demand). d.amount) ds

abbrev demand_differs : LimitId → Demand → Bool
demand_differs limit d = differs (λ (x : Demand). x.limit) (λ (x : Demand). x.amount) limit d

-- more of a demand is on the same limit
pub more_on : (slots : ℕ) (x : Counted) (d : Demand) → (with_more slots x d).limit ≡ d.limit
more_on slots x d = elim (cases_Bool x.once) [ inl once ↦ rw once refl | inr each ↦ rw each refl ]

differ_with : (slots : ℕ) (limit : LimitId) (ds : List Demand) (x : Counted) → list_all (demand_differs limit) ds ≡ true → demand_differs limit (demand_for slots x) ≡ true
    → list_all (demand_differs limit) (with_demand slots ds x) ≡ true
differ_with slots limit [] x all one = and_from (demand_differs limit (demand_for slots x)) true one refl
differ_with slots limit (e ∷ es) x all one =
    let parts = and_parts (demand_differs limit e) (list_all (demand_differs limit) es) all in
    elim (cases_Bool (same_limit e.limit x.limit)) [
      | inl same ↦ rw (same, with_demand) (and_from (demand_differs limit (with_more slots x e)) (list_all (demand_differs limit) es) (rw (more_on slots x e) parts.0) parts.1)
      | inr other ↦ rw (other, with_demand) (and_from (demand_differs limit e) (list_all (demand_differs limit) (with_demand slots es x)) parts.0 (differ_with slots limit es x parts.1 one))
    ]

-- tests of limits go both ways
other_way : (a b : LimitId) → same_limit a b ≡ false → same_limit b a ≡ false
other_way a b other =
    elim (cases_Bool (same_limit b a)) [
      | inl same ↦ let is : b ≡ a = limits_equal b a same in absurd (true≢false (sym (limit_same a) ∙ subst (λ x. same_limit a x ≡ false) is other))
      | inr fine ↦ fine
    ]

with_apart : (slots : ℕ) (ds : List Demand) (x : Counted) → DemandsApart ds → DemandsApart (with_demand slots ds x)
with_apart slots [] x apart = (refl, tt)
with_apart slots (e ∷ es) x apart =
    elim (cases_Bool (same_limit e.limit x.limit)) [
      | inl same ↦ rw (same, with_demand) (rw (more_on slots x e) apart.0, apart.1)
      | inr other ↦ rw (other, with_demand) (differ_with slots e.limit es x apart.0 (not_from_false (same_limit x.limit e.limit) (other_way e.limit x.limit other)), with_apart slots es x apart.1)
    ]

each_apart : (slots : ℕ) (xs : List Counted) (ds : List Demand) → DemandsApart ds → DemandsApart (fold (with_demand slots) ds xs)
each_apart slots [] ds apart = apart
each_apart slots (x ∷ xs) ds apart = each_apart slots xs (with_demand slots ds x) (with_apart slots ds x apart)

-- what one slot asks of a limit by all that it counts for
abbrev pub counts : LimitId → List Counted → ℕ
counts limit xs = sum_by (asks (λ (x : Counted). x.limit) (λ (x : Counted). x.amount) limit) xs

-- one that counts for its own limit
pub counts_own : (limit : LimitId) (x : Counted) → x.limit ≡ limit → asks (λ (y : Counted). y.limit) (λ (y : Counted). y.amount) limit x ≡ x.amount
counts_own limit x is = subst (λ l. asks (λ (y : Counted). y.limit) (λ (y : Counted). y.amount) l x ≡ x.amount) is (cond-true _ _ _ (limit_same x.limit))

module _ (c : Cluster) (groups : Groups) (job : Job) where
  -- something is asked, within the greatest demand, and all of what is asked once
  pub record IsAsked (d : Demand) : Type 0 where
    pub some : d.amount ≡ 0 → ⊥
    pub within : d.amount ≤ greatest_demand
    pub whole : is_per_job c (resource_of d.limit) ≡ true → min (per_slot c job (resource_of d.limit)) greatest_demand ≤ d.amount

  -- and no more than this much of its limit together
  pub record IsBelow (most : LimitId → ℕ) (d : Demand) : Type 0 where
    pub asked : IsAsked d
    pub below : d.amount ≤ together c groups job d.limit (most d.limit)

  each_below : (most more : LimitId → ℕ) → ((limit : LimitId) → most limit ≤ more limit) → (ds : List Demand) → Each (IsBelow most) ds → Each (IsBelow more) ds
  each_below most more grows [] each = tt
  each_below most more grows (d ∷ ds) each =
      let less = together_grows c groups job d.limit (most d.limit) (more d.limit) (grows d.limit) in
      (record { asked = each.0.asked; below = omega (arith, each.0.below, less) }, each_below most more grows ds each.1)

  -- what was asked so far with what more slots count for
  abbrev with_slots : (LimitId → ℕ) → ℕ → Counted → LimitId → ℕ
  with_slots most slots x limit = most limit + slots * asks (λ (y : Counted). y.limit) (λ (y : Counted). y.amount) limit x

  more_slots : (most : LimitId → ℕ) (slots : ℕ) (x : Counted) (limit : LimitId) → x.limit ≡ limit → with_slots most slots x limit ≡ most limit + slots * x.amount
  more_slots most slots x limit is = let own = counts_own limit x is in rw own refl

  -- what slots ask, alone
  one_asked : (slots : ℕ) (x : Counted) → (slots ≡ 0 → ⊥) → IsCounted c groups job x → IsAsked (demand_for slots x)
  one_asked slots x some is =
      let least = asked_by_least c groups job slots x some in
      let counted = is.amount in
      let per_slot_is = is.asks in
      record { some = λ none. counted (omega (arith, none, least)); within = omega arith; whole = λ _. omega (arith, least, per_slot_is) }

  one_below : (most : LimitId → ℕ) (slots : ℕ) (x : Counted) → (slots ≡ 0 → ⊥) → IsCounted c groups job x → IsBelow (with_slots most slots x) (demand_for slots x)
  one_below most slots x some is =
      let asked = asked_by_is c groups job slots x is some in
      let own = more_slots most slots x x.limit refl in
      let grown = together_grows c groups job x.limit (slots * x.amount) (with_slots most slots x x.limit) (omega (arith, own)) in
      record { asked = one_asked slots x some is; below = omega (arith, asked, grown) }

  -- where each slot counts, what counts once is another limit
  plain_limit : (x : Counted) (d : Demand) → IsCounted c groups job x → d.limit ≡ x.limit → x.once ≡ false → is_per_job c (resource_of d.limit) ≡ false
  plain_limit x d is same each = ap (λ l. is_per_job c (resource_of l)) same ∙ sym is.once ∙ each

  -- more of a demand
  pub more_asked : (slots : ℕ) (x : Counted) (d : Demand) → IsCounted c groups job x → d.limit ≡ x.limit → IsAsked d → IsAsked (with_more slots x d)
  more_asked slots x d is same asked =
      elim (cases_Bool x.once) [
        | inl once ↦ rw once asked
        | inr each ↦
            let some = asked.some in
            rw each (record {
              some = λ none. some (omega (arith, none, asked.within));
              within = omega arith;
              whole = λ once. absurd (true≢false (sym once ∙ plain_limit x d is same each));
            })
      ]

  more_below : (most : LimitId → ℕ) (slots : ℕ) (x : Counted) (d : Demand) → IsCounted c groups job x → d.limit ≡ x.limit → IsBelow most d → IsBelow (with_slots most slots x) (with_more slots x d)
  more_below most slots x d is same below =
      elim (cases_Bool x.once) [
        | inl once ↦
            let grown = together_grows c groups job d.limit (most d.limit) (with_slots most slots x d.limit) (omega arith) in
            let here : (with_more slots x d).amount ≡ d.amount = rw once refl in
            at_limit (omega (arith, below.below, grown, here))
        | inr each ↦
            let by_slots : asked_by slots x ≡ slots * x.amount = rw each refl in
            let own = more_slots most slots x d.limit (sym same) in
            let plain = plain_limit x d is same each in
            let was : together c groups job d.limit (most d.limit) ≡ most d.limit = cond-false _ _ _ plain in
            let now_is : together c groups job d.limit (with_slots most slots x d.limit) ≡ with_slots most slots x d.limit = cond-false _ _ _ plain in
            let here : (with_more slots x d).amount ≡ min (d.amount + (demand_for slots x).amount) greatest_demand = rw each refl in
            at_limit (omega (arith, below.below, was, now_is, own, by_slots, here))
      ]
    where
      at_limit : (with_more slots x d).amount ≤ together c groups job d.limit (with_slots most slots x d.limit) → IsBelow (with_slots most slots x) (with_more slots x d)
      at_limit h = record {
        asked = more_asked slots x d is same below.asked;
        below = subst (λ l. (with_more slots x d).amount ≤ together c groups job l (with_slots most slots x l)) (sym (more_on slots x d)) h;
      }

  pub with_asked : (slots : ℕ) (ds : List Demand) (x : Counted) → (slots ≡ 0 → ⊥) → IsCounted c groups job x → Each IsAsked ds → Each IsAsked (with_demand slots ds x)
  with_asked slots [] x some is each = (one_asked slots x some is, tt)
  with_asked slots (e ∷ es) x some is each =
      elim (cases_Bool (same_limit e.limit x.limit)) [
        | inl same ↦ rw (same, with_demand) (more_asked slots x e is (limits_equal e.limit x.limit same) each.0, each.1)
        | inr other ↦ rw (other, with_demand) (each.0, with_asked slots es x some is each.1)
      ]

  with_below : (most : LimitId → ℕ) (slots : ℕ) (ds : List Demand) (x : Counted) → (slots ≡ 0 → ⊥) → IsCounted c groups job x → Each (IsBelow most) ds → Each (IsBelow (with_slots most slots x)) (with_demand slots ds x)
  with_below most slots [] x some is each = (one_below most slots x some is, tt)
  with_below most slots (e ∷ es) x some is each =
      elim (cases_Bool (same_limit e.limit x.limit)) [
        | inl same ↦
            rw (same, with_demand)
            (more_below most slots x e is (limits_equal e.limit x.limit same) each.0, each_below most (with_slots most slots x) (λ limit. omega arith) es each.1)
        | inr other ↦
            let grown = each_below most (with_slots most slots x) (λ limit. omega arith) (e ∷ []) (each.0, tt) in
            rw (other, with_demand) (grown.0, with_below most slots es x some is each.1)
      ]

  -- what a grant's slots ask beside what was asked so far
  abbrev with_counts : (LimitId → ℕ) → ℕ → List Counted → LimitId → ℕ
  with_counts most slots xs limit = most limit + slots * counts limit xs

  all_below : (most : LimitId → ℕ) (slots : ℕ) (xs : List Counted) (ds : List Demand) → (slots ≡ 0 → ⊥) → Each (IsCounted c groups job) xs → Each (IsBelow most) ds
      → Each (IsBelow (with_counts most slots xs)) (fold (with_demand slots) ds xs)
  all_below most slots [] ds some is each = each_below most (with_counts most slots []) (λ limit. omega arith) ds each
  all_below most slots (x ∷ xs) ds some is each =
      each_below (with_counts (with_slots most slots x) slots xs) (with_counts most slots (x ∷ xs))
      (λ limit. let sums = sum_by-cons (asks (λ (y : Counted). y.limit) (λ (y : Counted). y.amount) limit) x xs in let whole = ap (λ n. slots * n) sums in omega (arith, whole))
      (fold (with_demand slots) (with_demand slots ds x) xs) (all_below (with_slots most slots x) slots xs (with_demand slots ds x) some is.1 (with_below most slots ds x some is.0 each))

  -- what grants count for on a limit
  abbrev pub grant_counts : LimitId → Grant → ℕ
  grant_counts limit grant = grant.slots * counts limit (counted_at c groups job grant.at)

  abbrev pub grants_count : List Grant → LimitId → ℕ
  grants_count grants limit = sum_by (grant_counts limit) grants

  grant_below : (most : LimitId → ℕ) (ds : List Demand) (grant : Grant) → Each (IsBelow most) ds → Each (IsBelow (λ limit. most limit + grant_counts limit grant)) (with_grant c groups job ds grant)
  grant_below most ds grant each =
      cond_both (grant.slots == 0) ds (fold (with_demand grant.slots) ds (counted_at c groups job grant.at)) (λ es. Each (IsBelow (λ limit. most limit + grant_counts limit grant)) es)
      (λ _. each_below most (λ limit. most limit + grant_counts limit grant) (λ limit. omega arith) ds each)
      (λ some. all_below most grant.slots (counted_at c groups job grant.at) ds (eqb-false grant.slots 0 some) (counted_at_each c groups job grant.at) each)

  grants_below : (most : LimitId → ℕ) (grants : List Grant) (ds : List Demand) → Each (IsBelow most) ds → Each (IsBelow (λ limit. most limit + grants_count grants limit)) (fold (with_grant c groups job) ds grants)
  grants_below most [] ds each = each_below most (λ limit. most limit + grants_count [] limit) (λ limit. omega arith) ds each
  grants_below most (grant ∷ grants) ds each =
      each_below (λ limit. most limit + grant_counts limit grant + grants_count grants limit) (λ limit. most limit + grants_count (grant ∷ grants) limit)
      (λ limit. let sums = sum_by-cons (grant_counts limit) grant grants in omega (arith, sums))
      (fold (with_grant c groups job) (with_grant c groups job ds grant) grants)
      (grants_below (λ limit. most limit + grant_counts limit grant) grants (with_grant c groups job ds grant) (grant_below most ds grant each))

  grants_apart : (grants : List Grant) (ds : List Demand) → DemandsApart ds → DemandsApart (fold (with_grant c groups job) ds grants)
  grants_apart [] ds apart = apart
  grants_apart (grant ∷ grants) ds apart =
      grants_apart grants (with_grant c groups job ds grant)
      (cond_both (grant.slots == 0) ds (fold (with_demand grant.slots) ds (counted_at c groups job grant.at)) DemandsApart (λ _. apart) (λ _. each_apart grant.slots (counted_at c groups job grant.at) ds apart))

  -- grants ask each limit once
  pub demands_apart : (grants : List Grant) → DemandsApart (demands_of c groups job grants)
  unfolding demands_of
  demands_apart grants = grants_apart grants [] tt

  -- and something, but no more than what they count for together
  pub demands_below : (grants : List Grant) → Each (IsBelow (grants_count grants)) (demands_of c groups job grants)
  unfolding demands_of
  demands_below grants =
      each_below (λ limit. 0 + grants_count grants limit) (grants_count grants) (λ limit. omega arith) (fold (with_grant c groups job) [] grants) (grants_below (λ limit. 0) grants [] tt)
