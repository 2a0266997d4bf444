-- A booking's demands are added one after the other.
use Rattle.std.proofs.Common.{◌≡◌, ℕ, ◌+◌, ◌≤◌, inl, inr, cond, min, List, [], ◌∷◌, ◌++◌, sym, ap, subst, ◌∙◌, arith}
use Rattle.std.specs.Prelude.{nat_le, nat_lt, count_by, flat_map}
use Rattle.std.proofs.lemmas.Bool.{cases_Bool, cond-true, cond-false, and_parts, leb-true, ltb-true}
use Rattle.std.proofs.lemmas.Grind.{flat_map-append}
use Rattle.std.proofs.lemmas.List.{append-nil, append_assoc}
use Rattle.std.proofs.lemmas.List.Concat.{flat_map-cons}
use Rattle.std.proofs.lemmas.List.Sums.{sum_by_push, sum_by-append}
use Rattle.ge_timeline.specs.declared.points.Point.{Point}
use Rattle.ge_timeline.specs.StepFunctions.{level_with}
use Rattle.ge_model_rows.specs.ScheduleRows.{LimitId, Demand, Booking}
use Rattle.ge_model_place.specs.Bookings.{same_limit, greatest_sum, asked_of, is_within, taken_by, demand_on, plain_sum}
use Rattle.ge_model_place.proofs.Same.{limits_equal}
use Rattle.ge_timeline.specs.Looks.{changes_by, changes_in, changes}
use Rattle.ge_timeline.specs.Shown.{HasNoMore, Draws, sums_but, changes_but, sums_with, changes_with, own_with}
use Rattle.ge_timeline.proofs.Putting.{no_more_self, draws_more}

-- no demand yet
pub none_with : (bookings : List Booking) (b : Booking) (limit : LimitId) (t : ℕ) → plain_sum bookings limit t ≡ sums_with bookings b [] limit t
none_with bookings b limit t =
    elim (cases_Bool (is_within b t)) [
      | inl on ↦ (let e : plain_sum bookings limit t ≡ min (plain_sum bookings limit t + 0) greatest_sum = omega arith in e) ∙ sym (cond-true _ _ _ on)
      | inr off ↦ sym (cond-false _ _ _ off)
    ]

pub none_changes : (bookings : List Booking) (b : Booking) (limit : LimitId) → changes bookings limit ≡ changes_with bookings b [] limit
none_changes bookings b limit = sym (append-nil (changes bookings limit))

-- one demand more, on one limit
pub own_more : (bookings : List Booking) (b : Booking) (ds : List Demand) (d : Demand) (limit : LimitId) (t : ℕ)
    → own_with limit b d (sums_with bookings b ds limit) t ≡ sums_with bookings b (ds ++ d ∷ []) limit t
own_more bookings b ds d limit t =
    let sums = sums_with bookings b ds limit t in
    let push = sum_by_push (asked_of limit) ds d in
    elim (cases_Bool (same_limit d.limit limit)) [
      | inl same ↦
          let asks : asked_of limit d ≡ d.amount = cond-true _ _ _ same in
          cond-true _ _ _ same
          ∙ elim (cases_Bool (is_within b t)) [
            | inl on ↦
                cond-true _ _ _ on
                ∙ (let was : sums ≡ min (plain_sum bookings limit t + demand_on ds limit) greatest_sum = cond-true _ _ _ on in
                let e : min (sums + d.amount) greatest_sum ≡ min (plain_sum bookings limit t + demand_on (ds ++ d ∷ []) limit) greatest_sum = omega (arith, was, push, asks) in e)
                ∙ sym (cond-true _ _ _ on)
            | inr off ↦ cond-false _ _ _ off ∙ cond-false _ _ _ off ∙ sym (cond-false _ _ _ off)
          ]
      | inr other ↦
          let asks : asked_of limit d ≡ 0 = cond-false _ _ _ other in
          cond-false _ _ _ other
          ∙ ap (λ n. cond (is_within b t) (min (plain_sum bookings limit t + n) greatest_sum) (plain_sum bookings limit t)) (let e : demand_on ds limit ≡ demand_on (ds ++ d ∷ []) limit = omega (arith, push, asks) in e)
    ]

pub changes_more : (bookings : List Booking) (b : Booking) (ds : List Demand) (d : Demand) (limit : LimitId) → changes_with bookings b ds limit ++ changes_by limit b d ≡ changes_with bookings b (ds ++ d ∷ []) limit
changes_more bookings b ds d limit =
    append_assoc (changes bookings limit) (flat_map (changes_by limit b) ds) (changes_by limit b d)
    ∙ ap (λ xs. changes bookings limit ++ xs) (ap (λ xs. flat_map (changes_by limit b) ds ++ xs) (sym (flat_map-cons (changes_by limit b) d [] ∙ append-nil (changes_by limit b d))) ∙ sym (flat_map-append (changes_by limit b) ds (d ∷ [])))

-- one demand more, on all limits
pub but_more : (bookings : List Booking) (b : Booking) (ds : List Demand) (d : Demand) (limit : LimitId) (t : ℕ)
    → sums_but d.limit (λ m. level_with b.from b.until d.amount m (sums_with bookings b ds d.limit m)) (sums_with bookings b ds) limit t ≡ sums_with bookings b (ds ++ d ∷ []) limit t
but_more bookings b ds d limit t =
    elim (cases_Bool (same_limit d.limit limit)) [
      | inl same ↦
          let is : d.limit ≡ limit = limits_equal d.limit limit same in
          cond-true _ _ _ same
          ∙ ap (λ l. level_with b.from b.until d.amount t (sums_with bookings b ds l t)) is
          ∙ sym (cond-true _ _ _ same)
          ∙ own_more bookings b ds d limit t
      | inr other ↦ cond-false _ _ _ other ∙ sym (cond-false _ _ _ other) ∙ own_more bookings b ds d limit t
    ]

pub but_changes : (bookings : List Booking) (b : Booking) (ds : List Demand) (d : Demand) (limit : LimitId)
    → HasNoMore (changes_but d.limit (changes_with bookings b ds d.limit ++ b.from ∷ b.until ∷ []) (changes_with bookings b ds) limit) (changes_with bookings b (ds ++ d ∷ []) limit)
but_changes bookings b ds d limit =
    elim (cases_Bool (same_limit d.limit limit)) [
      | inl same ↦
          let is : d.limit ≡ limit = limits_equal d.limit limit same in
          let by : changes_by limit b d ≡ b.from ∷ b.until ∷ [] = cond-true _ _ _ same in
          let e : changes_but d.limit (changes_with bookings b ds d.limit ++ b.from ∷ b.until ∷ []) (changes_with bookings b ds) limit ≡ changes_with bookings b (ds ++ d ∷ []) limit =
          cond-true _ _ _ same ∙ ap (λ l. changes_with bookings b ds l ++ b.from ∷ b.until ∷ []) is ∙ ap (λ xs. changes_with bookings b ds limit ++ xs) (sym by) ∙ changes_more bookings b ds d limit in
          subst (λ c. HasNoMore c (changes_with bookings b (ds ++ d ∷ []) limit)) (sym e) (no_more_self (changes_with bookings b (ds ++ d ∷ []) limit))
      | inr other ↦
          let by : changes_by limit b d ≡ [] = cond-false _ _ _ other in
          let e : changes_but d.limit (changes_with bookings b ds d.limit ++ b.from ∷ b.until ∷ []) (changes_with bookings b ds) limit ≡ changes_with bookings b (ds ++ d ∷ []) limit =
          cond-false _ _ _ other ∙ sym (append-nil (changes_with bookings b ds limit)) ∙ ap (λ xs. changes_with bookings b ds limit ++ xs) (sym by) ∙ changes_more bookings b ds d limit in
          subst (λ c. HasNoMore c (changes_with bookings b (ds ++ d ∷ []) limit)) (sym e) (no_more_self (changes_with bookings b (ds ++ d ∷ []) limit))
    ]

-- all of them
pub all_with : (bookings : List Booking) (b : Booking) (limit : LimitId) (t : ℕ) → sums_with bookings b b.demands limit t ≡ plain_sum (bookings ++ b ∷ []) limit t
all_with bookings b limit t =
    let whole = sum_by_push (taken_by limit t) bookings b in
    elim (cases_Bool (is_within b t)) [
      | inl on ↦
          let takes : taken_by limit t b ≡ demand_on b.demands limit = cond-true _ _ _ on in
          cond-true _ _ _ on ∙ (let e : min (plain_sum bookings limit t + demand_on b.demands limit) greatest_sum ≡ plain_sum (bookings ++ b ∷ []) limit t = omega (arith, whole, takes) in e)
      | inr off ↦
          let takes : taken_by limit t b ≡ 0 = cond-false _ _ _ off in
          cond-false _ _ _ off ∙ (let e : plain_sum bookings limit t ≡ plain_sum (bookings ++ b ∷ []) limit t = omega (arith, whole, takes) in e)
    ]

pub all_changes : (bookings : List Booking) (b : Booking) (limit : LimitId) → changes_with bookings b b.demands limit ≡ changes (bookings ++ b ∷ []) limit
all_changes bookings b limit = ap (λ xs. changes bookings limit ++ xs) (sym (flat_map-cons (changes_in limit) b [] ∙ append-nil (changes_in limit b))) ∙ sym (flat_map-append (changes_in limit) bookings (b ∷ []))

-- a booking that ends before it begins takes nothing
pub none_within : (bookings : List Booking) (b : Booking) (limit : LimitId) (t : ℕ) → b.until ≤ b.from → plain_sum bookings limit t ≡ plain_sum (bookings ++ b ∷ []) limit t
none_within bookings b limit t over =
    let whole = sum_by_push (taken_by limit t) bookings b in
    elim (cases_Bool (is_within b t)) [
      | inl on ↦ let parts = and_parts (nat_le b.from t) (nat_lt t b.until) on in let since = leb-true b.from t parts.0 in let before = ltb-true t b.until parts.1 in absurd (omega (arith, since, before, over))
      | inr off ↦ let takes : taken_by limit t b ≡ 0 = cond-false _ _ _ off in omega (arith, whole, takes)
    ]

pub some_changes : (bookings : List Booking) (b : Booking) (limit : LimitId) → HasNoMore (changes bookings limit) (changes (bookings ++ b ∷ []) limit)
some_changes bookings b limit test =
    let e = ap (count_by test) (all_changes bookings b limit) in
    let parts = sum_by-append (λ (m : ℕ). cond (test m) 1 0) (changes bookings limit) (flat_map (changes_by limit b) b.demands) in
    omega (arith, e, parts)

-- the points of one limit, with one demand more and with all of them

no_more_same : (c d : List ℕ) → c ≡ d → HasNoMore c d
no_more_same c d e = subst (λ x. HasNoMore c x) e (no_more_self c)

pub own_step : (bookings : List Booking) (b : Booking) (ds : List Demand) (d : Demand) (limit : LimitId) (points : List Point) → Draws (own_with limit b d (sums_with bookings b ds limit)) (changes_with bookings b ds limit ++ changes_by limit b d) points
    → Draws (sums_with bookings b (ds ++ d ∷ []) limit) (changes_with bookings b (ds ++ d ∷ []) limit) points
own_step bookings b ds d limit points s =
    draws_more _ (sums_with bookings b (ds ++ d ∷ []) limit) _ (changes_with bookings b (ds ++ d ∷ []) limit) points (λ t. own_more bookings b ds d limit t) (no_more_same _ _ (changes_more bookings b ds d limit)) s

pub own_end : (bookings : List Booking) (b : Booking) (limit : LimitId) (points : List Point) → Draws (sums_with bookings b b.demands limit) (changes_with bookings b b.demands limit) points → Draws (plain_sum (bookings ++ b ∷ []) limit) (changes (bookings ++ b ∷ []) limit) points
own_end bookings b limit points s =
    draws_more _ (plain_sum (bookings ++ b ∷ []) limit) _ (changes (bookings ++ b ∷ []) limit) points (λ t. all_with bookings b limit t) (no_more_same _ _ (all_changes bookings b limit)) s
