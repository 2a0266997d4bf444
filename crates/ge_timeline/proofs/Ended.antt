-- The set of the moments at which bookings end.
use Rattle.std.proofs.Common.{◌≡◌, ℕ, ◌+◌, ◌≤◌, ◌<◌, ◌==◌, ◌||◌, not, inl, inr, Bool, true, false, cond, List, [], ◌∷◌, ◌++◌, Option, Some, None, refl, sym, ap, subst, ◌∙◌, arith}
use Rattle.std.specs.Prelude.{filter, slice_get, IfSome, MatchOption}
use Rattle.std.proofs.Common.{Bor}
use Rattle.std.specs.Option.{option_copied}
use Rattle.std.specs.List.{list_any}
use Rattle.std.specs.BTreeMap.{is_at}
use Rattle.std.specs.BTreeMap.Range.{range_contains, IsLeBy}
use Rattle.std.specs.BTreeSet.{BTreeSet, contains, keys_between, IsKeyInRange, IsKeyRangeOf}
use Rattle.std.specs.Cmp.{unsigned_ties, nat_cmp_is}
use Rattle.std.specs.Ordering.{nat_cmp, is_gt, is_le, is_lt}
use Rattle.std.specs.declared.cmp.Ordering.TheVariants.{Less, Equal, Greater}
use Rattle.std.specs.declared.ops.Bound.TheVariants.{Included, Excluded}
use Rattle.std.proofs.lemmas.Bool.{cases_Bool, cases_lt, and_from, cond-true, cond-false, eqb-true, true≢false, false_from_ne_true}
use Rattle.std.proofs.lemmas.Map.Keys.{le_from_not_gt}
use Rattle.ge_model_rows.specs.ScheduleRows.{Booking}
use Rattle.ge_model_place.specs.Bookings.{forever}
use Rattle.ge_model_place.specs.Running.{next_end_after}
use Rattle.ge_model_place.specs.Runs.{ends_at}
use Rattle.ge_model_place.proofs.Earliest.{earliest_does, none_sooner, none_passes}
use Rattle.ge_timeline.specs.Taking.{IsTakenOut, HasEnds}

-- one end more

ends_more : (bs : List Booking) (b : Booking) (moment : ℕ) → ends_at (bs ++ b ∷ []) moment ≡ cond (b.until == moment) true (ends_at bs moment)
ends_more [] b moment = flip (b.until == moment)
  where
    flip : (t : Bool) → (t || false) ≡ cond t true false
    flip true = refl
    flip false = refl
ends_more (a ∷ bs) b moment = ap (λ t. (a.until == moment) || t) (ends_more bs b moment) ∙ turn (a.until == moment) (b.until == moment) (ends_at bs moment)
  where
    turn : (x y z : Bool) → (x || cond y true z) ≡ cond y true (x || z)
    turn true true z = refl
    turn true false z = refl
    turn false true z = refl
    turn false false z = refl

at_is : (q m : ℕ) → is_at (nat_cmp q) m ≡ (q == m)
at_is q m = sym (unsigned_ties q m)

pub put_ends : (old new : BTreeSet ℕ) (bookings : List Booking) (b : Booking) → ((q : ℕ) → contains nat_cmp new q ≡ cond (is_at (nat_cmp b.until) q) true (contains nat_cmp old q)) → HasEnds old bookings → HasEnds new (bookings ++ b ∷ [])
put_ends old new bookings b changes has moment =
    changes moment ∙ ap (λ t. cond t true (contains nat_cmp old moment)) (at_is b.until moment) ∙ ap (λ t. cond (b.until == moment) true t) (has moment) ∙ sym (ends_more bookings b moment)

-- one end less

ends_apart : (front behind : List Booking) (b : Booking) (moment : ℕ) → ends_at (front ++ b ∷ behind) moment ≡ cond (b.until == moment) true (ends_at (front ++ behind) moment)
ends_apart [] behind b moment = flip (b.until == moment) (ends_at behind moment)
  where
    flip : (t z : Bool) → (t || z) ≡ cond t true z
    flip true z = refl
    flip false z = refl
ends_apart (a ∷ front) behind b moment = ap (λ t. (a.until == moment) || t) (ends_apart front behind b moment) ∙ turn (a.until == moment) (b.until == moment) (ends_at (front ++ behind) moment)
  where
    turn : (x y z : Bool) → (x || cond y true z) ≡ cond y true (x || z)
    turn true true z = refl
    turn true false z = refl
    turn false true z = refl
    turn false false z = refl

out_ends : (b : Booking) (old new : List Booking) (moment : ℕ) → IsTakenOut b old new → ends_at old moment ≡ cond (b.until == moment) true (ends_at new moment)
out_ends b old new moment out =
    ap (λ bs. ends_at bs moment) out.before ∙ ends_apart out.front out.behind b moment ∙ ap (λ bs. cond (b.until == moment) true (ends_at bs moment)) (sym out.after)

-- another booking ends then too
pub kept_ends : (ends : BTreeSet ℕ) (b : Booking) (old new : List Booking) → ends_at new b.until ≡ true → IsTakenOut b old new → HasEnds ends old → HasEnds ends new
kept_ends ends b old new still out has moment =
    has moment ∙ out_ends b old new moment out
    ∙ elim (cases_Bool (b.until == moment)) [
      | inl here ↦ cond-true _ _ _ here ∙ sym (subst (λ m. ends_at new m ≡ true) (eqb-true b.until moment here) still)
      | inr there ↦ cond-false _ _ _ there
    ]

-- no other does
pub less_ends : (ends less : BTreeSet ℕ) (b : Booking) (old new : List Booking) → ends_at new b.until ≡ false → ((q : ℕ) → contains nat_cmp less q ≡ cond (is_at (nat_cmp b.until) q) false (contains nat_cmp ends q)) → IsTakenOut b old new → HasEnds ends old → HasEnds less new
less_ends ends less b old new gone changes out has moment =
    changes moment
    ∙ ap (λ t. cond t false (contains nat_cmp ends moment)) (at_is b.until moment)
    ∙ elim (cases_Bool (b.until == moment)) [
      | inl here ↦ cond-true _ _ _ here ∙ sym (subst (λ m. ends_at new m ≡ false) (eqb-true b.until moment here) gone)
      | inr there ↦ cond-false _ _ _ there ∙ has moment ∙ out_ends b old new moment out ∙ cond-false _ _ _ there
    ]

-- the first end after a moment

abbrev any : ℕ → Bool
any end = true

-- what is in the range of a set's moments, once the range is empty
none_in : (keys : List ℕ) (low high q : ℕ) → filter (range_contains nat_cmp (Included low) (Excluded high)) keys ≡ [] → range_contains nat_cmp (Included low) (Excluded high) q ≡ true → list_any (is_at (nat_cmp q)) keys ≡ false
none_in [] low high q e inside = refl
none_in (x ∷ xs) low high q e inside = go (λ behind. none_in xs low high q behind inside) (range_contains nat_cmp (Included low) (Excluded high) x) refl
  where
    go : (filter (range_contains nat_cmp (Included low) (Excluded high)) xs ≡ [] → list_any (is_at (nat_cmp q)) xs ≡ false) → (t : Bool) → range_contains nat_cmp (Included low) (Excluded high) x ≡ t → list_any (is_at (nat_cmp q)) (x ∷ xs) ≡ false
    go others true h = absurd (full (ap (λ t. cond t (x ∷ filter (range_contains nat_cmp (Included low) (Excluded high)) xs) (filter (range_contains nat_cmp (Included low) (Excluded high)) xs)) (sym h) ∙ e))
      where
        full : (x ∷ filter (range_contains nat_cmp (Included low) (Excluded high)) xs) ≡ [] → ⊥
        full f = cc
    go others false h =
        let rest = others (ap (λ t. cond t (x ∷ filter (range_contains nat_cmp (Included low) (Excluded high)) xs) (filter (range_contains nat_cmp (Included low) (Excluded high)) xs)) (sym h) ∙ e) in
        let apart : is_at (nat_cmp q) x ≡ false =
        false_from_ne_true (is_at (nat_cmp q) x) (λ here.
        let same : q ≡ x = eqb-true q x (sym (at_is q x) ∙ here) in
        true≢false (sym (subst (λ m. range_contains nat_cmp (Included low) (Excluded high) m ≡ true) same inside) ∙ h)) in
        rw apart rest

less_is : (a b : ℕ) → a < b → nat_cmp a b ≡ Less
less_is a b h = sym (nat_cmp_is a b Less h)

le_is : (a b : ℕ) → a ≤ b → (is_le (nat_cmp a b) ≡ true) × (is_gt (nat_cmp a b) ≡ false)
le_is a b h =
    elim (cases_lt a b) [
      | inl less ↦ (ap is_le (less_is a b less), ap is_gt (less_is a b less))
      | inr more ↦ let same : a ≡ b = omega (arith, h, more) in let e = sym (nat_cmp_is a b Equal same) in (ap is_le e, ap is_gt e)
    ]

gt_is : (a b : ℕ) → b < a → is_le (nat_cmp a b) ≡ false
gt_is a b h = ap is_le (sym (nat_cmp_is a b Greater h))

not_less : (a b : ℕ) → b ≤ a → is_lt (nat_cmp a b) ≡ false
not_less a b more =
    elim (cases_lt b a) [
      | inl greater ↦ ap is_lt (sym (nat_cmp_is a b Greater greater))
      | inr by ↦ ap is_lt (sym (nat_cmp_is a b Equal (omega (arith, by, more))))
    ]

lt_from : (a b : ℕ) → nat_cmp a b ≡ Less → a < b
lt_from a b e =
    elim (cases_lt a b) [
      | inl less ↦ less
      | inr more ↦ absurd (true≢false (sym (ap is_lt e) ∙ not_less a b more))
    ]

is_inside : (low high q : ℕ) → low ≤ q → q < high → range_contains nat_cmp (Included low) (Excluded high) q ≡ true
is_inside low high q since before = and_from (is_le (nat_cmp low q)) (not (is_le (nat_cmp high q))) (le_is low q since).0 (ap not (gt_is high q before))

none_first : (r : List ℕ) → slice_get r 0 ≡ None → r ≡ []
none_first [] e = refl
none_first (x ∷ xs) e = cc

module _ (ends : BTreeSet ℕ) (moment : ℕ) (bookings : List Booking) (r : List ℕ) (is : r ≡ keys_between nat_cmp (Included (moment + 1)) (Excluded forever) ends) (range : IsKeyRangeOf nat_cmp (Included (moment + 1)) (Excluded forever) ends r) (has : HasEnds ends bookings) where
  found_does : (k : ℕ) → slice_get r 0 ≡ Some k → (moment < k) × (k < forever) × (ends_at bookings k ≡ true)
  found_does k e =
      let here : IsKeyInRange nat_cmp (Included (moment + 1)) (Excluded forever) ends k = subst (λ o. IfSome o (IsKeyInRange nat_cmp (Included (moment + 1)) (Excluded forever) ends)) e range.1 in
      let since = le_from_not_gt (moment + 1) k here.0.0 in
      (omega (arith, since), lt_from k forever here.0.1, sym (has k) ∙ here.1)

  found_least : (k q : ℕ) → slice_get r 0 ≡ Some k → moment < q → q < forever → ends_at bookings q ≡ true → k ≤ q
  found_least k q e later ever ends_then =
      le_from_not_gt k q (subst (λ o. IfSome o (λ n. IsLeBy nat_cmp n q)) e (range.2 q ((le_is (moment + 1) q (omega (arith, later))).1, less_is q forever ever) (has q ∙ ends_then)))

  go : (found next : Option ℕ) → slice_get r 0 ≡ found → next_end_after bookings moment ≡ next → found ≡ next
  go None None e n = refl
  go None (Some m) e n =
      let does = earliest_does any moment bookings m n in
      let later = does.1.later in
      let out = none_in ends.keys (moment + 1) forever m (sym is ∙ none_first r e) (is_inside (moment + 1) forever m (omega (arith, later)) does.1.ever) in
      absurd (true≢false (sym does.0 ∙ sym (has m) ∙ out))
  go (Some k) None e n =
      let does = found_does k e in
      absurd (true≢false (none_passes any moment bookings k n does.0 does.1 does.2))
  go (Some k) (Some m) e n =
      let does = earliest_does any moment bookings m n in
      let found = found_does k e in
      let least = found_least k m e does.1.later does.1.ever does.0 in
      let not_sooner : k < m → ⊥ = λ less. true≢false (none_sooner any moment bookings m k n less found.0 found.1 found.2) in
      ap (λ x. Some x) (omega (arith, least, not_sooner))

  pub first_is : slice_get r 0 ≡ next_end_after bookings moment
  first_is = go (slice_get r 0) (next_end_after bookings moment) refl refl

-- at the end of all and behind it there is none
pub none_at_end : (bookings : List Booking) (moment : ℕ) → forever ≤ moment → None ≡ next_end_after bookings moment
none_at_end bookings moment past = go (next_end_after bookings moment) refl
  where
    go : (next : Option ℕ) → next_end_after bookings moment ≡ next → None ≡ next
    go None n = refl
    go (Some m) n =
        let does = earliest_does any moment bookings m n in
        let later = does.1.later in
        let ever = does.1.ever in
        absurd (omega (arith, later, ever, past))

-- what the range gives first
pub next_first : (r : List ℕ) (next : Option (Bor ℕ)) (rest : List ℕ) → MatchOption next ((r ≡ []) × (rest ≡ [])) (λ x. r ≡ x.now ∷ rest) → option_copied next ≡ slice_get r 0
next_first r None rest e = sym (ap (λ xs. slice_get xs 0) e.0)
next_first r (Some x) rest e = sym (ap (λ xs. slice_get xs 0) e)
