-- A limit gets a step function, and points are put in the place of others.
use Rattle.std.proofs.Common.{◌≡◌, ◌≢◌, ℕ, inl, inr, true, cond, List, [], ◌∷◌, ◌++◌, Option, Some, None, ◌⊎◌, ◌<◌, refl, sym, ap, subst, ◌∙◌, arith}
use Rattle.std.specs.Prelude.{Vec, IsSome, IsSomeAnd, OnOk, Result, Ok, Err}
use Rattle.std.specs.declared.alloc.Global.{Global}
use Rattle.std.proofs.lemmas.Bool.{cases_Bool, cond-true, cond-false, true≢false}
use Rattle.std.proofs.lemmas.List.Sums.{sum_by-append}
use Rattle.slab.specs.Slab.{Slab, get}
use Rattle.ge_model_rows.specs.ScheduleRows.{LimitId}
use Rattle.ge_model_place.specs.Bookings.{same_limit}
use Rattle.ge_model_place.proofs.Same.{limits_equal, limit_same}
use Rattle.ge_timeline.specs.declared.points.Point.{Point}
use Rattle.ge_timeline.specs.StepFunctions.{IsRising, level, level_with, HasMoments}
use Rattle.ge_timeline.specs.Shown.{IsRaised, number_in, HasNoMore, Draws, ShowsPoints, ShowsLimit, Shows, IsWhole, sums_but, changes_but}

-- a limit that has no step function gets one of no points

nothing_below : (n : ℕ) → n < 0 → ⊥
nothing_below n h = omega (arith, h)

pub empty_draws : (f : ℕ → ℕ) (changed : List ℕ) → ((t : ℕ) → f t ≡ 0) → Draws f changed []
empty_draws f changed zeros = record { rising = λ i j d h l. absurd (nothing_below j l); same = λ t. sym (zeros t); within = λ test. omega arith }

module _ (index : List (LimitId × ℕ)) (functions more : Slab (Vec Point Global)) (limit : LimitId) (number : ℕ) (points : Vec Point Global) (sums : LimitId → ℕ → ℕ) (changed : LimitId → List ℕ) (new : number_in index limit ≡ None) (vacant : get functions number ≡ None)
    (put_in : get more number ≡ Some points) (empty : points.items ≡ []) (others : (other : ℕ) → other ≢ number → get more other ≡ get functions other) (s : Shows index functions sums changed) where
  -- no other limit has this number
  free : (other : LimitId) → number_in index other ≡ Some number → ⊥
  free other e = subst (λ o. ShowsPoints (sums other) (changed other) o) vacant (subst (λ k. ShowsLimit functions (sums other) (changed other) k) e (s.each other))

  kept : (other : LimitId) (found : Option ℕ) → number_in index other ≡ found → ShowsLimit more (sums other) (changed other) found
  kept other None e = subst (λ k. ShowsLimit functions (sums other) (changed other) k) e (s.each other)
  kept other (Some k) e =
      subst (λ o. ShowsPoints (sums other) (changed other) o) (sym (others k (λ same. free other (e ∙ ap (λ n. Some n) same)))) (subst (λ n. ShowsLimit functions (sums other) (changed other) n) e (s.each other))

  here : ShowsLimit more (sums limit) (changed limit) (Some number)
  here =
      let zeros : (t : ℕ) → sums limit t ≡ 0 = subst (λ k. ShowsLimit functions (sums limit) (changed limit) k) new (s.each limit) in
      subst (λ o. ShowsPoints (sums limit) (changed limit) o) (sym put_in) (subst (λ items. Draws (sums limit) (changed limit) items) (sym empty) (empty_draws (sums limit) (changed limit) zeros))

  each_more : (other : LimitId) → ShowsLimit more (sums other) (changed other) (number_in ((limit, number) ∷ index) other)
  each_more other =
      elim (cases_Bool (same_limit other limit)) [
        | inl same ↦ subst (λ k. ShowsLimit more (sums other) (changed other) k) (sym (cond-true _ _ _ same)) (subst (λ l. ShowsLimit more (sums l) (changed l) (Some number)) (sym (limits_equal other limit same)) here)
        | inr apart ↦ subst (λ k. ShowsLimit more (sums other) (changed other) k) (sym (cond-false _ _ _ apart)) (kept other (number_in index other) refl)
      ]

  has : (other : LimitId) (k : ℕ) → number_in ((limit, number) ∷ index) other ≡ Some k → ((other ≡ limit) × (k ≡ number)) ⊎ (number_in index other ≡ Some k)
  has other k e =
      elim (cases_Bool (same_limit other limit)) [
        | inl same ↦ let is : Some number ≡ Some k = sym (cond-true _ _ _ same) ∙ e in inl (limits_equal other limit same, one_number k is)
        | inr apart ↦ inr (sym (cond-false _ _ _ apart) ∙ e)
      ]
    where
      one_number : (k : ℕ) → Some number ≡ Some k → k ≡ number
      one_number k e = cc

  pub put_shows : Shows ((limit, number) ∷ index) more sums changed
  put_shows = record {
    each = each_more;
    apart = λ a b k e f. elim (has a k e) [
      | inl first ↦ elim (has b k f) [
        | inl second ↦ first.0 ∙ sym second.0
        | inr old ↦ absurd (free b (old ∙ ap (λ n. Some n) first.1))
      ]
      | inr old ↦ elim (has b k f) [
        | inl second ↦ absurd (free a (old ∙ ap (λ n. Some n) second.1))
        | inr other ↦ s.apart a b k old other
      ]
    ];
  }

pub put_number : (index : List (LimitId × ℕ)) (limit : LimitId) (number : ℕ) → number_in ((limit, number) ∷ index) limit ≡ Some number
put_number index limit number = cond-true _ _ _ (limit_same limit)

-- the same sums in other words, and more moments

pub no_more_self : (xs : List ℕ) → HasNoMore xs xs
no_more_self xs test = omega arith

pub draws_more : (f h : ℕ → ℕ) (c d : List ℕ) (points : List Point) → ((t : ℕ) → f t ≡ h t) → HasNoMore c d → Draws f c points → Draws h d points
draws_more f h c d points same more s = record { rising = s.rising; same = λ t. s.same t ∙ same t; within = λ test. let a = s.within test in let b = more test in omega (arith, a, b) }

points_more : (f h : ℕ → ℕ) (c d : List ℕ) (o : Option (Vec Point Global)) → ((t : ℕ) → f t ≡ h t) → HasNoMore c d → ShowsPoints f c o → ShowsPoints h d o
points_more f h c d None same more s = s
points_more f h c d (Some points) same more s = draws_more f h c d points.items same more s

pub limit_more : (functions : Slab (Vec Point Global)) (f h : ℕ → ℕ) (c d : List ℕ) (found : Option ℕ) → ((t : ℕ) → f t ≡ h t) → HasNoMore c d → ShowsLimit functions f c found → ShowsLimit functions h d found
limit_more functions f h c d None same more s = λ t. sym (same t) ∙ s t
limit_more functions f h c d (Some number) same more s = points_more f h c d (get functions number) same more s

pub shows_more : (index : List (LimitId × ℕ)) (functions : Slab (Vec Point Global)) (f h : LimitId → ℕ → ℕ) (c d : LimitId → List ℕ) → ((limit : LimitId) (t : ℕ) → f limit t ≡ h limit t) → ((limit : LimitId) → HasNoMore (c limit) (d limit)) → Shows index functions f c → Shows index functions h d
shows_more index functions f h c d same more s =
    record { each = λ limit. limit_more functions (f limit) (h limit) (c limit) (d limit) (number_in index limit) (same limit) (more limit) (s.each limit); apart = s.apart }

-- the points of one limit are others now

module _ (index : List (LimitId × ℕ)) (functions more : Slab (Vec Point Global)) (limit : LimitId) (number : ℕ) (own : ℕ → ℕ) (own_changed : List ℕ) (sums : LimitId → ℕ → ℕ) (changed : LimitId → List ℕ) (is : number_in index limit ≡ Some number)
    (others : (other : ℕ) → other ≢ number → get more other ≡ get functions other) (drawn : ShowsPoints own own_changed (get more number)) (s : Shows index functions sums changed) where
  other_points : (other : LimitId) (found : Option ℕ) → number_in index other ≡ found → (other ≡ limit → ⊥) → ShowsLimit more (sums other) (changed other) found
  other_points other None e apart = subst (λ k. ShowsLimit functions (sums other) (changed other) k) e (s.each other)
  other_points other (Some k) e apart =
      subst (λ o. ShowsPoints (sums other) (changed other) o) (sym (others k (λ same. apart (s.apart other limit number (e ∙ ap (λ n. Some n) same) is)))) (subst (λ n. ShowsLimit functions (sums other) (changed other) n) e (s.each other))

  each_but : (other : LimitId) → ShowsLimit more (sums_but limit own sums other) (changes_but limit own_changed changed other) (number_in index other)
  each_but other =
      elim (cases_Bool (same_limit limit other)) [
        | inl same ↦
            let it : limit ≡ other = limits_equal limit other same in
            let found : number_in index other ≡ Some number = subst (λ l. number_in index l ≡ Some number) it is in
            subst (λ k. ShowsLimit more (sums_but limit own sums other) (changes_but limit own_changed changed other) k) (sym found)
            (limit_more more own (sums_but limit own sums other) own_changed (changes_but limit own_changed changed other) (Some number) (λ t. sym (cond-true _ _ _ same)) (subst (λ c. HasNoMore own_changed c) (sym (cond-true _ _ _ same)) (no_more_self own_changed)) drawn)
        | inr differs ↦
            limit_more more (sums other) (sums_but limit own sums other) (changed other) (changes_but limit own_changed changed other) (number_in index other) (λ t. sym (cond-false _ _ _ differs))
            (subst (λ c. HasNoMore (changed other) c) (sym (cond-false _ _ _ differs)) (no_more_self (changed other)))
            (other_points other (number_in index other) refl (λ same. true≢false (sym (subst (λ l. same_limit limit l ≡ true) (sym same) (limit_same limit)) ∙ differs)))
      ]

  pub but_shows : Shows index more (sums_but limit own sums) (changes_but limit own_changed changed)
  but_shows = record { each = each_but; apart = s.apart }

-- an amount is added

pub draws_added : (f : ℕ → ℕ) (c : List ℕ) (from until amount : ℕ) (old new : List Point) → IsRising new → ((t : ℕ) → level new t ≡ level_with from until amount t (level old t)) → HasMoments old (from ∷ until ∷ []) new
    → Draws f c old → Draws (λ t. level_with from until amount t (f t)) (c ++ from ∷ until ∷ []) new
draws_added f c from until amount old new rising raised brought s = record {
  rising = rising;
  same = λ t. raised t ∙ ap (λ n. level_with from until amount t n) (s.same t);
  within = λ test.
      let a = brought test in
      let b = s.within test in
      let both = sum_by-append (λ (m : ℕ). cond (test m) 1 0) c (from ∷ until ∷ []) in
      omega (arith, a, b, both);
}

raised_points : (f : ℕ → ℕ) (c : List ℕ) (from until amount : ℕ) (old new : Option (Vec Point Global)) → IsRaised from until amount old new → IsSomeAnd new (λ points. IsRising points.items) → ShowsPoints f c old → ShowsPoints (λ t. level_with from until amount t (f t)) (c ++ from ∷ until ∷ []) new
raised_points f c from until amount None new r still s = absurd r
raised_points f c from until amount (Some old) None r still s = absurd r
raised_points f c from until amount (Some old) (Some new) r still s = draws_added f c from until amount old.items new.items still r.0 r.1 s

pub raised_shows : (index : List (LimitId × ℕ)) (functions more : Slab (Vec Point Global)) (limit : LimitId) (number from until amount : ℕ) (sums : LimitId → ℕ → ℕ) (changed : LimitId → List ℕ) → number_in index limit ≡ Some number
    → ((other : ℕ) → other ≢ number → get more other ≡ get functions other) → IsRaised from until amount (get functions number) (get more number) → IsSomeAnd (get more number) (λ points. IsRising points.items) → Shows index functions sums changed
    → Shows index more (sums_but limit (λ t. level_with from until amount t (sums limit t)) sums) (changes_but limit (changed limit ++ from ∷ until ∷ []) changed)
raised_shows index functions more limit number from until amount sums changed is others raised still s =
    but_shows index functions more limit number (λ t. level_with from until amount t (sums limit t)) (changed limit ++ from ∷ until ∷ []) sums changed is others
    (raised_points (sums limit) (changed limit) from until amount (get functions number) (get more number) raised still (subst (λ k. ShowsLimit functions (sums limit) (changed limit) k) is (s.each limit))) s

-- what has a number has points, which rise

points_rise : (f : ℕ → ℕ) (c : List ℕ) (o : Option (Vec Point Global)) → ShowsPoints f c o → IsSomeAnd o (λ points. IsRising points.items)
points_rise f c None s = s
points_rise f c (Some points) s = s.rising

pub whole_rising : (index : List (LimitId × ℕ)) (functions : Slab (Vec Point Global)) (limit : LimitId) (number : ℕ) → number_in index limit ≡ Some number → IsWhole index functions → IsSomeAnd (get functions number) (λ points. IsRising points.items)
whole_rising index functions limit number is whole = points_rise (whole.0 limit) (whole.1 limit) (get functions number) (subst (λ k. ShowsLimit functions (whole.0 limit) (whole.1 limit) k) is (whole.2.each limit))

points_some : (f : ℕ → ℕ) (c : List ℕ) (o : Option (Vec Point Global)) → ShowsPoints f c o → IsSome o
points_some f c None s = absurd s
points_some f c (Some points) s = refl

pub whole_some : (index : List (LimitId × ℕ)) (functions : Slab (Vec Point Global)) (limit : LimitId) (number : ℕ) → number_in index limit ≡ Some number → IsWhole index functions → IsSome (get functions number)
whole_some index functions limit number is whole = points_some (whole.0 limit) (whole.1 limit) (get functions number) (subst (λ k. ShowsLimit functions (whole.0 limit) (whole.1 limit) k) is (whole.2.each limit))

pub on_ok : {A E : Type 0} (P Q : Type 0) (r : Result A E) → OnOk r P → (P → Q) → OnOk r Q
on_ok P Q (Ok x) p f = f p
on_ok P Q (Err e) p f = tt
