-- What grants ask is all that their slots count for together, up to the greatest demand; so slots whose grants are
-- admissible keep all limits.
use Rattle.std.proofs.Common.{◌≡◌, ℕ, ◌+◌, ◌*◌, ◌≤◌, ◌<◌, ◌⊎◌, ◌==◌, inl, inr, true, false, min, List, [], ◌∷◌, fold, sum_by, refl, sym, subst, ap, ◌∙◌, zero-mul, arith}
use Rattle.std.specs.List.{filter_map}
use Rattle.std.proofs.lemmas.Bool.{cond_both, cond-true, cond-false, cases_Bool, eqb-true, eqb-false}
use Rattle.std.proofs.lemmas.List.Sums.{sum_by-cons}
use Rattle.ge_model_rows.specs.ClusterRows.{Cluster}
use Rattle.ge_model_rows.specs.HostRows.{Groups}
use Rattle.ge_model_rows.specs.JobRows.{Job, Grant}
use Rattle.ge_model_rows.specs.ScheduleRows.{LimitId, Demand, Booking}
use Rattle.ge_model_place.specs.Bookings.{same_limit, asked_of, demand_on}
use Rattle.ge_model_place.specs.Limits.{Counted, greatest_demand, per_slot, is_per_job, resource_of, counted_at, demand_for, with_more, with_demand, with_grant, demands_of}
use Rattle.ge_model_place.specs.Placement.{Cell, asked_so_far, grant_of, are_admissible}
use Rattle.ge_model_place.proofs.Once.{Each, asks}
use Rattle.ge_model_place.proofs.Same.{limits_equal, limit_same}
use Rattle.ge_model_place.proofs.Taken.{IsCounted, counted_at_each, together}
use Rattle.ge_model_place.proofs.Demanded.{counts, IsAsked, more_on, more_asked, with_asked, grant_counts, grants_count}
use Rattle.ge_model_place.proofs.Filled.{until, IsCell, IsKept}
use Rattle.ge_model_place.proofs.Admitted.{grants_count_is}
use Rattle.ge_model_place.proofs.Sums.{room_or_none}

-- what one slot asks of a limit by one that it counts for
abbrev pub asks_of : LimitId → Counted → ℕ
asks_of limit x = asks (λ (y : Counted). y.limit) (λ (y : Counted). y.amount) limit x

module _ (c : Cluster) (groups : Groups) (job : Job) (limit : LimitId) where
  abbrev on : List Demand → ℕ
  on ds = sum_by (asked_of limit) ds

  -- more of a demand on another limit asks nothing of this one
  more_elsewhere : (slots : ℕ) (x : Counted) (d : Demand) → d.limit ≡ x.limit → same_limit x.limit limit ≡ false → asked_of limit d ≡ asked_of limit (with_more slots x d)
  more_elsewhere slots x d same there =
      let other : same_limit d.limit limit ≡ false = ap (λ l. same_limit l limit) same ∙ there in
      let more_other : same_limit (with_more slots x d).limit limit ≡ false = ap (λ l. same_limit l limit) (more_on slots x d) ∙ other in
      cond-false _ _ _ other ∙ sym (cond-false _ _ _ more_other)

  -- more of a demand on this limit asks what it says
  more_here : (slots : ℕ) (x : Counted) (d : Demand) → d.limit ≡ x.limit → same_limit x.limit limit ≡ true → asked_of limit (with_more slots x d) ≡ (with_more slots x d).amount
  more_here slots x d same here = cond-true _ _ _ (ap (λ l. same_limit l limit) (more_on slots x d ∙ same) ∙ here)

  -- a limit of which each slot asks
  module _ (plain : is_per_job c (resource_of limit) ≡ false) where
    counts_each : (x : Counted) → IsCounted c groups job x → same_limit x.limit limit ≡ true → x.once ≡ false
    counts_each x is here = is.once ∙ ap (λ l. is_per_job c (resource_of l)) (limits_equal x.limit limit here) ∙ plain

    more_adds : (slots : ℕ) (x : Counted) (d : Demand) → IsCounted c groups job x → d.limit ≡ x.limit → min (asked_of limit d + slots * asks_of limit x) greatest_demand ≤ asked_of limit (with_more slots x d)
    more_adds slots x d is same =
        elim (cases_Bool (same_limit x.limit limit)) [
          | inl here ↦
              let each = counts_each x is here in
              let more = more_here slots x d same here in
              let amount : (with_more slots x d).amount ≡ min (d.amount + min (slots * x.amount) greatest_demand) greatest_demand = rw each refl in
              let before : asked_of limit d ≡ d.amount = cond-true _ _ _ (ap (λ l. same_limit l limit) same ∙ here) in
              let own : asks_of limit x ≡ x.amount = cond-true _ _ _ here in
              rw own (omega (arith, more, amount, before))
          | inr there ↦
              let none : asks_of limit x ≡ 0 = cond-false _ _ _ there in
              let stays = more_elsewhere slots x d same there in
              rw none (omega (arith, stays))
        ]

    one_alone : (slots : ℕ) (x : Counted) → IsCounted c groups job x → min (slots * asks_of limit x) greatest_demand ≤ asked_of limit (demand_for slots x)
    one_alone slots x is =
        elim (cases_Bool (same_limit x.limit limit)) [
          | inl here ↦ let each = counts_each x is here in let own : asks_of limit x ≡ x.amount = cond-true _ _ _ here in
              let amount : asked_of limit (demand_for slots x) ≡ min (slots * x.amount) greatest_demand = cond-true _ _ _ here ∙ rw each refl in
              rw own (omega (arith, amount))
          | inr there ↦ let none : asks_of limit x ≡ 0 = cond-false _ _ _ there in rw none (omega arith)
        ]

    one_adds : (slots : ℕ) (ds : List Demand) (x : Counted) → IsCounted c groups job x → min (on ds + slots * asks_of limit x) greatest_demand ≤ on (with_demand slots ds x)
    one_adds slots [] x is =
        let first = one_alone slots x is in
        let one = sum_by-cons (asked_of limit) (demand_for slots x) [] in
        omega (arith, first, one)
    one_adds slots (e ∷ es) x is =
        let before = sum_by-cons (asked_of limit) e es in
        elim (cases_Bool (same_limit e.limit x.limit)) [
          | inl same ↦
              let behind = sum_by-cons (asked_of limit) (with_more slots x e) es in
              let more = more_adds slots x e is (limits_equal e.limit x.limit same) in
              rw (same, with_demand) (omega (arith, before, behind, more))
          | inr other ↦
              let behind = sum_by-cons (asked_of limit) e (with_demand slots es x) in
              let rest = one_adds slots es x is in
              rw (other, with_demand) (omega (arith, before, behind, rest))
        ]

    slots_add : (slots : ℕ) (xs : List Counted) (ds : List Demand) → Each (IsCounted c groups job) xs → min (on ds + slots * counts limit xs) greatest_demand ≤ on (fold (with_demand slots) ds xs)
    slots_add slots [] ds is = omega arith
    slots_add slots (x ∷ xs) ds is =
        let whole = ap (λ n. slots * n) (sum_by-cons (asks_of limit) x xs) in
        let one = one_adds slots ds x is.0 in
        let rest = slots_add slots xs (with_demand slots ds x) is.1 in
        omega (arith, whole, one, rest)

    grants_add : (grants : List Grant) (ds : List Demand) → min (on ds + grants_count c groups job grants limit) greatest_demand ≤ on (fold (with_grant c groups job) ds grants)
    grants_add [] ds = omega arith
    grants_add (grant ∷ grants) ds =
        let whole = sum_by-cons (grant_counts c groups job limit) grant grants in
        let rest = grants_add grants (with_grant c groups job ds grant) in
        let one : min (on ds + grant_counts c groups job limit grant) greatest_demand ≤ on (with_grant c groups job ds grant) =
        cond_both (grant.slots == 0) ds (fold (with_demand grant.slots) ds (counted_at c groups job grant.at)) (λ es. min (on ds + grant_counts c groups job limit grant) greatest_demand ≤ on es)
        (λ none. let nothing : grant_counts c groups job limit grant ≡ 0 = ap (λ n. n * counts limit (counted_at c groups job grant.at)) (eqb-true grant.slots 0 none) ∙ zero-mul (counts limit (counted_at c groups job grant.at)) in omega (arith, nothing))
        (λ _. slots_add grant.slots (counted_at c groups job grant.at) ds (counted_at_each c groups job grant.at)) in
        omega (arith, whole, one, rest)

  -- a limit that is asked once
  module _ (once : is_per_job c (resource_of limit) ≡ true) where
    abbrev asked_once : ℕ
    asked_once = min (per_slot c job (resource_of limit)) greatest_demand

    -- nothing counts for the limit, or what is asked once is asked
    abbrev Reaches : ℕ → ℕ → Type 0
    Reaches n sum = (n ≡ 0) ⊎ (asked_once ≤ sum)

    both_reach : (n m first sum : ℕ) → Reaches n first → first ≤ sum → Reaches m sum → Reaches (n + m) sum
    both_reach n m first sum (inl none) h (inl nothing) = inl (omega (arith, none, nothing))
    both_reach n m first sum (inl none) h (inr rest) = inr rest
    both_reach n m first sum (inr one) h rest = inr (omega (arith, one, h))

    more_grows : (slots : ℕ) (x : Counted) (d : Demand) → d.limit ≡ x.limit → IsAsked c groups job d → asked_of limit d ≤ asked_of limit (with_more slots x d)
    more_grows slots x d same asked =
        elim (cases_Bool x.once) [
          | inl is ↦ rw is (omega arith)
          | inr each ↦ rw each (elim (cases_Bool (same_limit d.limit limit)) [ inl here ↦ rw here (omega (arith, asked.within)) | inr there ↦ rw there (omega arith) ])
        ]

    one_grows : (slots : ℕ) (ds : List Demand) (x : Counted) → Each (IsAsked c groups job) ds → on ds ≤ on (with_demand slots ds x)
    one_grows slots [] x asked = omega arith
    one_grows slots (e ∷ es) x asked =
        let before = sum_by-cons (asked_of limit) e es in
        elim (cases_Bool (same_limit e.limit x.limit)) [
          | inl same ↦
              let behind = sum_by-cons (asked_of limit) (with_more slots x e) es in
              let more = more_grows slots x e (limits_equal e.limit x.limit same) asked.0 in
              rw (same, with_demand) (omega (arith, before, behind, more))
          | inr other ↦
              let behind = sum_by-cons (asked_of limit) e (with_demand slots es x) in
              let rest = one_grows slots es x asked.1 in
              rw (other, with_demand) (omega (arith, before, behind, rest))
        ]

    -- a demand on the limit has all of it
    has_whole : (d : Demand) → IsAsked c groups job d → d.limit ≡ limit → asked_once ≤ d.amount
    has_whole d asked is = let whole = asked.whole (ap (λ l. is_per_job c (resource_of l)) is ∙ once) in subst (λ l. min (per_slot c job (resource_of l)) greatest_demand ≤ d.amount) is whole

    -- a demand on the limit asks all of it
    asks_whole : (d : Demand) → IsAsked c groups job d → d.limit ≡ limit → asked_once ≤ asked_of limit d
    asks_whole d asked is =
        let whole = has_whole d asked is in
        let own : asked_of limit d ≡ d.amount = cond-true _ _ _ (ap (λ l. same_limit l limit) is ∙ limit_same limit) in
        omega (arith, whole, own)

    one_reaches : (slots : ℕ) (ds : List Demand) (x : Counted) → (slots ≡ 0 → ⊥) → IsCounted c groups job x → Each (IsAsked c groups job) ds → x.limit ≡ limit → asked_once ≤ on (with_demand slots ds x)
    one_reaches slots [] x some is asked here =
        let whole = asks_whole (demand_for slots x) (with_asked c groups job slots [] x some is tt).0 here in
        let sum = sum_by-cons (asked_of limit) (demand_for slots x) [] in
        omega (arith, whole, sum)
    one_reaches slots (e ∷ es) x some is asked here =
        elim (cases_Bool (same_limit e.limit x.limit)) [
          | inl same ↦
              let equal = limits_equal e.limit x.limit same in
              let whole = asks_whole (with_more slots x e) (more_asked c groups job slots x e is equal asked.0) (more_on slots x e ∙ equal ∙ here) in
              let sum = sum_by-cons (asked_of limit) (with_more slots x e) es in
              rw (same, with_demand) (omega (arith, whole, sum))
          | inr other ↦
              let rest = one_reaches slots es x some is asked.1 here in
              let sum = sum_by-cons (asked_of limit) e (with_demand slots es x) in
              rw (other, with_demand) (omega (arith, rest, sum))
        ]

    slots_grow : (slots : ℕ) (xs : List Counted) (ds : List Demand) → (slots ≡ 0 → ⊥) → Each (IsCounted c groups job) xs → Each (IsAsked c groups job) ds
        → (on ds ≤ on (fold (with_demand slots) ds xs)) × Each (IsAsked c groups job) (fold (with_demand slots) ds xs)
    slots_grow slots [] ds some is asked = (omega arith, asked)
    slots_grow slots (x ∷ xs) ds some is asked =
        let one = one_grows slots ds x asked in
        let rest = slots_grow slots xs (with_demand slots ds x) some is.1 (with_asked c groups job slots ds x some is.0 asked) in
        (omega (arith, one, rest.0), rest.1)

    slots_reach : (slots : ℕ) (xs : List Counted) (ds : List Demand) → (slots ≡ 0 → ⊥) → Each (IsCounted c groups job) xs → Each (IsAsked c groups job) ds
        → Reaches (slots * counts limit xs) (on (fold (with_demand slots) ds xs))
    slots_reach slots [] ds some is asked = inl (omega arith)
    slots_reach slots (x ∷ xs) ds some is asked =
        let next = with_asked c groups job slots ds x some is.0 asked in
        let whole : slots * asks_of limit x + slots * counts limit xs ≡ slots * counts limit (x ∷ xs) = let sums = ap (λ n. slots * n) (sum_by-cons (asks_of limit) x xs) in omega (arith, sums) in
        let first : Reaches (slots * asks_of limit x) (on (with_demand slots ds x)) =
        elim (cases_Bool (same_limit x.limit limit)) [
          | inl here ↦ inr (one_reaches slots ds x some is.0 asked (limits_equal x.limit limit here))
          | inr there ↦ let none : asks_of limit x ≡ 0 = cond-false _ _ _ there in inl (ap (λ n. slots * n) none ∙ omega arith)
        ] in
        subst (λ n. Reaches n (on (fold (with_demand slots) ds (x ∷ xs)))) whole
        (both_reach (slots * asks_of limit x) (slots * counts limit xs) (on (with_demand slots ds x)) (on (fold (with_demand slots) (with_demand slots ds x) xs)) first
        (slots_grow slots xs (with_demand slots ds x) some is.1 next).0 (slots_reach slots xs (with_demand slots ds x) some is.1 next))

    -- one more grant takes nothing away, and asks what it counts for
    pub record Adds (ds : List Demand) (n : ℕ) (more : List Demand) : Type 0 where
      pub grows : on ds ≤ on more
      pub asked : Each (IsAsked c groups job) more
      pub reaches : Reaches n (on more)

    grant_adds : (ds : List Demand) (grant : Grant) → Each (IsAsked c groups job) ds → Adds ds (grant_counts c groups job limit grant) (with_grant c groups job ds grant)
    grant_adds ds grant asked =
        let xs = counted_at c groups job grant.at in
        let is = counted_at_each c groups job grant.at in
        cond_both (grant.slots == 0) ds (fold (with_demand grant.slots) ds xs) (λ es. Adds ds (grant_counts c groups job limit grant) es)
        (λ none. record { grows = omega arith; asked = asked; reaches = inl (ap (λ n. n * counts limit xs) (eqb-true grant.slots 0 none) ∙ zero-mul (counts limit xs)) })
        (λ e.
        let some = eqb-false grant.slots 0 e in
        let grown = slots_grow grant.slots xs ds some is asked in
        record { grows = grown.0; asked = grown.1; reaches = slots_reach grant.slots xs ds some is asked })

    grants_reach : (grants : List Grant) (ds : List Demand) → Each (IsAsked c groups job) ds → Adds ds (grants_count c groups job grants limit) (fold (with_grant c groups job) ds grants)
    grants_reach [] ds asked = record { grows = omega arith; asked = asked; reaches = inl refl }
    grants_reach (grant ∷ grants) ds asked =
        let one = grant_adds ds grant asked in
        let rest = grants_reach grants (with_grant c groups job ds grant) one.asked in
        let whole = sum_by-cons (grant_counts c groups job limit) grant grants in
        record {
          grows = omega (arith, one.grows, rest.grows);
          asked = rest.asked;
          reaches = subst (λ n. Reaches n (on (fold (with_grant c groups job) ds (grant ∷ grants)))) (sym whole)
              (both_reach (grant_counts c groups job limit grant) (grants_count c groups job grants limit) (on (with_grant c groups job ds grant)) (on (fold (with_grant c groups job) (with_grant c groups job ds grant) grants)) one.reaches rest.grows rest.reaches);
        }

  -- what the demands of grants come to
  pub demands_reach : (grants : List Grant) → min (together c groups job limit (grants_count c groups job grants limit)) greatest_demand ≤ demand_on (demands_of c groups job grants) limit
  unfolding demands_of
  demands_reach grants =
      elim (cases_Bool (is_per_job c (resource_of limit))) [
        | inl once ↦ rw once (elim (grants_reach once grants [] tt).reaches [ inl none ↦ omega (arith, none) | inr all ↦ omega (arith, all) ])
        | inr plain ↦ rw plain (let all = grants_add plain grants [] in omega (arith, all))
      ]

module _ (c : Cluster) (groups : Groups) (job : Job) (bookings : List Booking) (from : ℕ) where
  -- slots whose grants are admissible keep all limits
  pub admissible_keeps : from < until c groups job bookings from → (cells : List Cell) → Each (IsCell c groups job bookings from) cells → are_admissible c groups job bookings from (filter_map grant_of cells) ≡ true
      → (limit : LimitId) → IsKept c groups job bookings from limit (asked_so_far cells limit)
  admissible_keeps ever cells is admissible limit =
      let counted = ap (λ n. together c groups job limit n) (grants_count_is c groups job bookings from ever cells is limit) in
      let asked = demands_reach c groups job limit (filter_map grant_of cells) in
      elim (room_or_none c groups limit 0 job bookings from (filter_map grant_of cells) ever admissible) [
        | inl nothing ↦ inl (omega (arith, nothing, asked, counted))
        | inr room ↦ inr (omega (arith, room, asked, counted))
      ]
