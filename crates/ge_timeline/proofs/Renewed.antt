-- The sums of a booking's limits are taken anew once it is out.
use Rattle.std.proofs.Common.{◌≡◌, ℕ, ◌+◌, inl, inr, Bool, true, false, cond, ◌||◌, List, [], ◌∷◌, ◌++◌, refl, sym, ap, subst, ◌∙◌, arith}
use Rattle.std.specs.Prelude.{Vec, flat_map, Some, slice_get, remove, take, drop}
use Rattle.std.proofs.Common.{get_or, suc}
use Rattle.std.proofs.lemmas.List.{take-append-drop, drop_more}
use Rattle.std.proofs.lemmas.Option.{slice_get_within, get_or_from_slice_get}
use Rattle.std.specs.declared.alloc.Global.{Global}
use Rattle.std.proofs.lemmas.Bool.{cases_Bool, cond-true, cond-false, or_parts}
use Rattle.std.proofs.lemmas.Grind.{flat_map-append}
use Rattle.std.proofs.lemmas.List.Concat.{flat_map-cons}
use Rattle.std.proofs.lemmas.List.Sums.{sum_by-append, sum_by-cons}
use Rattle.slab.specs.Slab.{Slab}
use Rattle.ge_timeline.specs.declared.points.Point.{Point}
use Rattle.ge_model_rows.specs.ScheduleRows.{LimitId, Demand, Booking}
use Rattle.ge_model_place.specs.Bookings.{same_limit, asked_of, is_within, taken_by, demand_on, plain_sum}
use Rattle.ge_model_place.proofs.Same.{limits_equal}
use Rattle.ge_timeline.specs.Looks.{changes_by, changes_in, changes}
use Rattle.ge_timeline.specs.Shown.{HasNoMore, Shows, sums_but, changes_but, is_asked, sums_anew, changes_anew}
use Rattle.ge_timeline.specs.Taking.{IsTakenOut}
use Rattle.ge_timeline.proofs.Putting.{no_more_self, shows_more}

-- whether one of more demands is on a limit
asked_more : (ds : List Demand) (d : Demand) (limit : LimitId) → is_asked (ds ++ d ∷ []) limit ≡ (is_asked ds limit || same_limit d.limit limit)
asked_more [] d limit = flip (same_limit d.limit limit)
  where
    flip : (b : Bool) → (b || false) ≡ b
    flip true = refl
    flip false = refl
asked_more (e ∷ ds) d limit = ap (λ b. same_limit e.limit limit || b) (asked_more ds d limit) ∙ regroup (same_limit e.limit limit) (is_asked ds limit) (same_limit d.limit limit)
  where
    regroup : (a b c : Bool) → (a || (b || c)) ≡ ((a || b) || c)
    regroup true b c = refl
    regroup false b c = refl

cond_or : {A : Type 0} (a b : Bool) (x y : A) → cond b x (cond a x y) ≡ cond (a || b) x y
cond_or true true x y = refl
cond_or true false x y = refl
cond_or false true x y = refl
cond_or false false x y = refl

-- one limit more was taken anew
pub sums_one_more : (bookings : List Booking) (ds : List Demand) (d : Demand) (sums : LimitId → ℕ → ℕ) (limit : LimitId) (t : ℕ)
    → sums_but d.limit (plain_sum bookings d.limit) (sums_anew bookings ds sums) limit t ≡ sums_anew bookings (ds ++ d ∷ []) sums limit t
sums_one_more bookings ds d sums limit t =
    own_is (same_limit d.limit limit) refl
    ∙ cond_or (is_asked ds limit) (same_limit d.limit limit) (plain_sum bookings limit t) (sums limit t)
    ∙ ap (λ b. cond b (plain_sum bookings limit t) (sums limit t)) (sym (asked_more ds d limit))
  where
    own_is : (b : Bool) → same_limit d.limit limit ≡ b → cond b (plain_sum bookings d.limit t) (sums_anew bookings ds sums limit t) ≡ cond b (plain_sum bookings limit t) (sums_anew bookings ds sums limit t)
    own_is true e = ap (λ l. plain_sum bookings l t) (limits_equal d.limit limit e)
    own_is false e = refl

pub changes_one_more : (bookings : List Booking) (ds : List Demand) (d : Demand) (changed : LimitId → List ℕ) (limit : LimitId)
    → changes_but d.limit (changes bookings d.limit) (changes_anew bookings ds changed) limit ≡ changes_anew bookings (ds ++ d ∷ []) changed limit
changes_one_more bookings ds d changed limit =
    own_is (same_limit d.limit limit) refl
    ∙ cond_or (is_asked ds limit) (same_limit d.limit limit) (changes bookings limit) (changed limit)
    ∙ ap (λ b. cond b (changes bookings limit) (changed limit)) (sym (asked_more ds d limit))
  where
    own_is : (b : Bool) → same_limit d.limit limit ≡ b → cond b (changes bookings d.limit) (changes_anew bookings ds changed limit) ≡ cond b (changes bookings limit) (changes_anew bookings ds changed limit)
    own_is true e = ap (λ l. changes bookings l) (limits_equal d.limit limit e)
    own_is false e = refl

no_more_same : (c d : List ℕ) → c ≡ d → HasNoMore c d
no_more_same c d e = subst (λ x. HasNoMore c x) e (no_more_self c)

pub shows_one_more : (index : List (LimitId × ℕ)) (functions : Slab (Vec Point Global)) (bookings : List Booking) (ds : List Demand) (d : Demand) (sums : LimitId → ℕ → ℕ) (changed : LimitId → List ℕ)
    → Shows index functions (sums_but d.limit (plain_sum bookings d.limit) (sums_anew bookings ds sums)) (changes_but d.limit (changes bookings d.limit) (changes_anew bookings ds changed))
    → Shows index functions (sums_anew bookings (ds ++ d ∷ []) sums) (changes_anew bookings (ds ++ d ∷ []) changed)
shows_one_more index functions bookings ds d sums changed s =
    shows_more index functions _ (sums_anew bookings (ds ++ d ∷ []) sums) _ (changes_anew bookings (ds ++ d ∷ []) changed) (λ limit t. sums_one_more bookings ds d sums limit t)
    (λ limit. no_more_same _ _ (changes_one_more bookings ds d changed limit)) s

-- a booking without a demand on a limit takes nothing of it
unasked_sum : (limit : LimitId) (ds : List Demand) → is_asked ds limit ≡ false → demand_on ds limit ≡ 0
unasked_sum limit [] e = refl
unasked_sum limit (d ∷ ds) e =
    let parts = or_parts (same_limit d.limit limit) (is_asked ds limit) e in
    let rest = unasked_sum limit ds parts.1 in
    let first : asked_of limit d ≡ 0 = cond-false _ _ _ parts.0 in
    let both = sum_by-cons (asked_of limit) d ds in
    omega (arith, rest, first, both)

unasked_changes : (limit : LimitId) (b : Booking) (ds : List Demand) → is_asked ds limit ≡ false → flat_map (changes_by limit b) ds ≡ []
unasked_changes limit b [] e = refl
unasked_changes limit b (d ∷ ds) e =
    let parts = or_parts (same_limit d.limit limit) (is_asked ds limit) e in
    flat_map-cons (changes_by limit b) d ds ∙ ap (λ xs. xs ++ flat_map (changes_by limit b) ds) (cond-false (same_limit d.limit limit) (b.from ∷ b.until ∷ []) [] parts.0) ∙ unasked_changes limit b ds parts.1

-- so without it the sum is the same
without_same : (b : Booking) (old new : List Booking) (limit : LimitId) (t : ℕ) → IsTakenOut b old new → is_asked b.demands limit ≡ false → plain_sum old limit t ≡ plain_sum new limit t
without_same b old new limit t out e =
    let zero_in : taken_by limit t b ≡ 0 = elim (cases_Bool (is_within b t)) [
      | inl on ↦ cond-true _ _ _ on ∙ unasked_sum limit b.demands e
      | inr off ↦ cond-false _ _ _ off
    ] in
    let was = ap (λ bs. plain_sum bs limit t) out.before in
    let is = ap (λ bs. plain_sum bs limit t) out.after in
    let all = sum_by-append (taken_by limit t) out.front (b ∷ out.behind) in
    let one = sum_by-cons (taken_by limit t) b out.behind in
    let left = sum_by-append (taken_by limit t) out.front out.behind in
    omega (arith, zero_in, was, is, all, one, left)

without_changes : (b : Booking) (old new : List Booking) (limit : LimitId) → IsTakenOut b old new → is_asked b.demands limit ≡ false → changes old limit ≡ changes new limit
without_changes b old new limit out e =
    ap (λ bs. changes bs limit) out.before
    ∙ flat_map-append (changes_in limit) out.front (b ∷ out.behind)
    ∙ ap (λ xs. changes out.front limit ++ xs) (flat_map-cons (changes_in limit) b out.behind ∙ ap (λ xs. xs ++ changes out.behind limit) (unasked_changes limit b b.demands e))
    ∙ sym (flat_map-append (changes_in limit) out.front out.behind)
    ∙ sym (ap (λ bs. changes bs limit) out.after)

anew_sum : (b : Booking) (old new : List Booking) (limit : LimitId) (t : ℕ) → IsTakenOut b old new → sums_anew new b.demands (plain_sum old) limit t ≡ plain_sum new limit t
anew_sum b old new limit t out =
    elim (cases_Bool (is_asked b.demands limit)) [
      | inl asked ↦ cond-true _ _ _ asked
      | inr unasked ↦ cond-false _ _ _ unasked ∙ without_same b old new limit t out unasked
    ]

anew_changes : (b : Booking) (old new : List Booking) (limit : LimitId) → IsTakenOut b old new → changes_anew new b.demands (changes old) limit ≡ changes new limit
anew_changes b old new limit out =
    elim (cases_Bool (is_asked b.demands limit)) [
      | inl asked ↦ cond-true _ _ _ asked
      | inr unasked ↦ cond-false _ _ _ unasked ∙ without_changes b old new limit out unasked
    ]

-- once all its limits are taken anew, the step functions show the bookings that are left
pub anew_shows : (index : List (LimitId × ℕ)) (functions : Slab (Vec Point Global)) (b : Booking) (old new : List Booking) → IsTakenOut b old new
    → Shows index functions (sums_anew new b.demands (plain_sum old)) (changes_anew new b.demands (changes old)) → Shows index functions (plain_sum new) (changes new)
anew_shows index functions b old new out s =
    shows_more index functions _ (plain_sum new) _ (changes new) (λ limit t. anew_sum b old new limit t out) (λ limit. no_more_same _ _ (anew_changes b old new limit out)) s

-- a list in parts, by the booking at a place
pub stood_at : (old : List Booking) (place : ℕ) (b : Booking) → slice_get old place ≡ Some b → old ≡ take place old ++ b ∷ drop (place + 1) old
stood_at old place b at =
    let within = slice_get_within old place b at in
    let here : get_or old place b ≡ b = get_or_from_slice_get old place b b at in
    sym (take-append-drop place old) ∙ ap (λ xs. take place old ++ xs) (drop_more old place b within ∙ ap (λ x. x ∷ drop (place + 1) old) here)

-- and what is left without it
pub left_by : (old new : List Booking) (place : ℕ) → new ≡ remove old place → new ≡ take place old ++ drop (place + 1) old
left_by old new place rest = rest ∙ ap (λ n. take place old ++ drop n old) (let e : suc place ≡ place + 1 = omega arith in e)

-- what stood at a place and was removed is taken out
pub taken_out : (old new : List Booking) (place : ℕ) (b : Booking) → slice_get old place ≡ Some b → new ≡ remove old place → IsTakenOut b old new
taken_out old new place b at rest =
    record {
      front = take place old;
      behind = drop (place + 1) old;
      before = stood_at old place b at;
      after = left_by old new place rest;
    }
