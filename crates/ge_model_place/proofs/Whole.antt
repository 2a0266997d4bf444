-- The demands of grants are those of the rule's own words.
use Rattle.std.proofs.Common.{◌≡◌, ℕ, ◌+◌, ◌*◌, ◌≤◌, ◌==◌, inl, inr, Bool, true, false, not, ◌||◌, cond, min, List, [], ◌∷◌, ◌++◌, fold, flat_map, sum_by, refl, sym, subst, ap, ◌∙◌, mul-le-mul_right, add-mul, zero-mul, arith}
use Rattle.std.specs.List.{list_all, list_any}
use Rattle.std.proofs.Math.Bool.{or-false, or_assoc}
use Rattle.std.proofs.lemmas.Bool.{cond_both, cond-true, cond-false, cases_Bool, and_parts, or_cases, or_from, or_left, or_right, true≢false, false_from_ne_true, eqb-true, eqb-false}
use Rattle.std.proofs.lemmas.List.Folds.{list_any-append}
use Rattle.std.proofs.lemmas.List.Sums.{sum_by-cons, sum_by-append}
use Rattle.ge_model_rows.specs.ClusterRows.{Cluster}
use Rattle.ge_model_rows.specs.HostRows.{Groups, InstanceId}
use Rattle.ge_model_rows.specs.JobRows.{Job, Grant}
use Rattle.ge_model_rows.specs.ScheduleRows.{LimitId, Demand}
use Rattle.ge_model_place.specs.Bookings.{same_limit, demand_on}
use Rattle.ge_model_place.specs.Demands.{counts_for, slots_for, amount_for, DemandsEach}
use Rattle.ge_model_place.specs.Limits.{greatest_demand, capacity_of, limits_at, with_limit_once, each_limit_once, counted, counted_at, per_slot, is_per_job, resource_of, demands_of}
use Rattle.ge_model_place.proofs.Demanded.{counts, IsBelow, demands_apart, demands_below, grant_counts, grants_count}
use Rattle.ge_model_place.proofs.Exact.{asks_of, demands_reach}
use Rattle.ge_model_place.proofs.Once.{Each, differs, asks_once}
use Rattle.ge_model_place.proofs.Same.{limits_equal}
use Rattle.ge_model_place.proofs.Taken.{LimitsApart, once_apart, together}

-- whether a limit is among some
abbrev among : LimitId → List LimitId → Bool
among limit limits = list_any (λ other. same_limit other limit) limits

-- none is one that differs from all
none_among : (limit : LimitId) (limits : List LimitId) → list_all (differs (λ (x : LimitId). x) (λ (x : LimitId). 0) limit) limits ≡ true → among limit limits ≡ false
none_among limit [] apart = refl
none_among limit (x ∷ xs) apart =
    let parts = and_parts (differs (λ (y : LimitId). y) (λ (y : LimitId). 0) limit x) (list_all (differs (λ (y : LimitId). y) (λ (y : LimitId). 0) limit) xs) apart in
    or_from (same_limit x limit) (among limit xs) (false_from_ne_true (same_limit x limit) (λ same. true≢false (sym parts.0 ∙ ap not same))) (none_among limit xs parts.1)

module _ (limit : LimitId) where
  -- one that is there already
  there_already : (x : LimitId) (limits : List LimitId) → list_any (same_limit x) limits ≡ true → same_limit x limit ≡ true → among limit limits ≡ true
  there_already x [] found same = absurd (true≢false (sym found))
  there_already x (y ∷ ys) found same =
      elim (or_cases (same_limit x y) (list_any (same_limit x) ys) found) [
        | inl here ↦ or_left (same_limit y limit) (among limit ys) (subst (λ z. same_limit z limit ≡ true) (limits_equal x y here) same)
        | inr later ↦ or_right (same_limit y limit) (among limit ys) (there_already x ys later same)
      ]

  same_bools : (a b : Bool) → (a ≡ true → b ≡ true) → (b ≡ true → a ≡ true) → a ≡ b
  same_bools true b to back = sym (to refl)
  same_bools false true to back = back refl
  same_bools false false to back = refl

  -- one more is there, and those before
  one_among : (limits : List LimitId) (x : LimitId) → among limit (with_limit_once limits x) ≡ (among limit limits || same_limit x limit)
  one_among limits x =
      cond_both (list_any (same_limit x) limits) limits (limits ++ x ∷ []) (λ ls. among limit ls ≡ (among limit limits || same_limit x limit))
      (λ found. same_bools (among limit limits) (among limit limits || same_limit x limit) (λ e. or_left (among limit limits) (same_limit x limit) e)
      (λ e. elim (or_cases (among limit limits) (same_limit x limit) e) [ inl was ↦ was | inr same ↦ there_already x limits found same ]))
      (λ _. list_any-append (λ other. same_limit other limit) limits (x ∷ []) ∙ ap (λ b. among limit limits || b) (or-false (same_limit x limit)))

  -- each limit once are all of them
  once_among : (limits so_far : List LimitId) → among limit (fold with_limit_once so_far limits) ≡ (among limit so_far || among limit limits)
  once_among [] so_far = sym (or-false (among limit so_far))
  once_among (x ∷ xs) so_far =
      once_among xs (with_limit_once so_far x) ∙ ap (λ b. b || among limit xs) (one_among so_far x) ∙ or_assoc (among limit so_far) (same_limit x limit) (among limit xs)

  module _ (c : Cluster) (groups : Groups) (job : Job) where
    abbrev amount : ℕ
    amount = per_slot c job (resource_of limit)

    -- what one slot asks by one limit that it may count for
    one_counts : (x : LimitId) → counts limit (counted c groups job x) ≡ cond (same_limit x limit) amount 0
    one_counts x =
        cond_both (per_slot c job (resource_of x) == 0) [] (record { limit = x; capacity = capacity_of c groups x; amount = per_slot c job (resource_of x); once = is_per_job c (resource_of x) } ∷ [])
        (λ xs. counts limit xs ≡ cond (same_limit x limit) amount 0)
        (λ none.
        let nothing = eqb-true (per_slot c job (resource_of x)) 0 none in
        elim (cases_Bool (same_limit x limit)) [
          | inl same ↦ rw same (sym (subst (λ l. per_slot c job (resource_of l) ≡ 0) (limits_equal x limit same) nothing))
          | inr other ↦ rw other refl
        ])
        (λ _. elim (cases_Bool (same_limit x limit)) [
          | inl same ↦ rw same (subst (λ l. 0 + per_slot c job (resource_of x) ≡ per_slot c job (resource_of l)) (limits_equal x limit same) (omega arith))
          | inr other ↦ rw other (omega arith)
        ])

    -- what one slot asks by limits that are each there once
    all_count : (limits : List LimitId) → LimitsApart limits → counts limit (flat_map (counted c groups job) limits) ≡ cond (among limit limits) amount 0
    all_count [] apart = refl
    all_count (x ∷ xs) apart =
        let rest = all_count xs apart.1 in
        let both = sum_by-append (asks_of limit) (counted c groups job x) (flat_map (counted c groups job) xs) in
        let one = one_counts x in
        elim (cases_Bool (same_limit x limit)) [
          | inl same ↦
              let alone : among limit xs ≡ false = subst (λ l. among l xs ≡ false) (limits_equal x limit same) (none_among x xs apart.0) in
              let none : counts limit (flat_map (counted c groups job) xs) ≡ 0 = rest ∙ cond-false _ _ _ alone in
              let here : counts limit (counted c groups job x) ≡ amount = one ∙ cond-true _ _ _ same in
              rw same (omega (arith, both, none, here))
          | inr other ↦
              let nothing : counts limit (counted c groups job x) ≡ 0 = one ∙ cond-false _ _ _ other in
              rw other (omega (arith, both, nothing, rest))
        ]

    -- what one slot at an instance asks
    counts_at : (at : InstanceId) → counts limit (counted_at c groups job at) ≡ cond (among limit (limits_at c groups job at)) amount 0
    unfolding counted_at
    counts_at at =
        all_count (each_limit_once (limits_at c groups job at)) (once_apart (limits_at c groups job at) [] tt) ∙ ap (λ b. cond b amount 0) (once_among (limits_at c groups job at) [])

    grant_counts_is : (grant : Grant) → grant_counts c groups job limit grant ≡ cond (counts_for c groups job limit grant) grant.slots 0 * amount
    grant_counts_is grant =
        ap (λ n. grant.slots * n) (counts_at grant.at)
        ∙ (elim (cases_Bool (counts_for c groups job limit grant)) [ inl does ↦ rw does refl | inr doesnt ↦ rw doesnt (omega arith) ])

    grants_count_slots : (grants : List Grant) → grants_count c groups job grants limit ≡ slots_for c groups job limit grants * amount
    grants_count_slots [] = sym (zero-mul amount)
    grants_count_slots (grant ∷ grants) =
        let slots : Grant → ℕ = λ (g : Grant). cond (counts_for c groups job limit g) g.slots 0 in
        let first = sum_by-cons (grant_counts c groups job limit) grant grants in
        let second = ap (λ n. n * amount) (sum_by-cons slots grant grants) in
        let one = grant_counts_is grant in
        let rest = grants_count_slots grants in
        let split = add-mul (slots grant) (sum_by slots grants) amount in
        omega (arith, first, second, one, rest, split)

    -- together they ask the amount for each slot, or once
    together_is : (slots : ℕ) → together c groups job limit (slots * amount) ≡ amount_for c groups job limit slots
    together_is slots =
        elim (cases_Bool (slots == 0)) [
          | inl none ↦
              let zero_slots = eqb-true slots 0 none in
              let nothing : slots * amount ≡ 0 = ap (λ n. n * amount) zero_slots ∙ zero-mul amount in
              rw none (elim (cases_Bool (is_per_job c (resource_of limit))) [ inl once ↦ rw once (omega (arith, nothing)) | inr each ↦ rw each nothing ])
          | inr some ↦
              let least : 1 * amount ≤ slots * amount = mul-le-mul_right amount (let more = eqb-false slots 0 some in omega (arith, more)) in
              rw some (elim (cases_Bool (is_per_job c (resource_of limit))) [ inl once ↦ rw once (omega (arith, least)) | inr each ↦ rw each refl ])
        ]

    abbrev Within : (LimitId → ℕ) → LimitId → ℕ → Type 0
    Within most l n = n ≤ min (together c groups job l (most l)) greatest_demand

    each_within : (most : LimitId → ℕ) (ds : List Demand) → Each (IsBelow c groups job most) ds → Each (λ (d : Demand). Within most d.limit d.amount) ds
    each_within most [] each = tt
    each_within most (d ∷ ds) each = (omega (arith, each.0.below, each.0.asked.within), each_within most ds each.1)

    demand_is : (grants : List Grant) → demand_on (demands_of c groups job grants) limit ≡ min (together c groups job limit (grants_count c groups job grants limit)) greatest_demand
    demand_is grants =
        let most = grants_count c groups job grants in
        let least = demands_reach c groups job limit grants in
        elim (asks_once (λ (d : Demand). d.limit) (λ (d : Demand). d.amount) (Within most) (demands_of c groups job grants) (demands_apart c groups job grants) (each_within most (demands_of c groups job grants) (demands_below c groups job grants)) limit) [
          | inl nothing ↦ omega (arith, nothing, least)
          | inr within ↦ omega (arith, within, least)
        ]

-- the demands of grants are those of the rule
pub demands_each : (c : Cluster) (groups : Groups) (job : Job) (grants : List Grant) → DemandsEach c groups job grants
demands_each c groups job grants limit =
    demand_is limit c groups job grants ∙ ap (λ n. min n greatest_demand) (ap (λ n. together c groups job limit n) (grants_count_slots limit c groups job grants) ∙ together_is limit c groups job (slots_for c groups job limit grants))
