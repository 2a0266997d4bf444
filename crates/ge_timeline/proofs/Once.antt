-- Numbers that rise, counted among numbers that are taken once each.
use Rattle.std.proofs.Common.{◌≡◌, ℕ, ◌+◌, ◌≤◌, ◌<◌, inl, inr, Bool, true, false, cond, not, ◌&&◌, ◌||◌, List, [], ◌∷◌, refl, sym, ap, subst, ◌∙◌, arith}
use Rattle.std.specs.Prelude.{nat_eq, count_by}
use mathlib.Core.Bool.{true≢false}
use Rattle.std.specs.List.{list_any}
use Rattle.std.proofs.lemmas.Bool.{cases_Bool, eqb-true, eq-eqb, ne_eqb}
use Rattle.std.proofs.lemmas.List.Sums.{sum_by-cons}
use Rattle.ge_timeline.specs.StepFunctions.{AllAbove, Rises}
use Rattle.ge_timeline.specs.Looks.{once}
use Rattle.ge_timeline.specs.Shown.{HasNoMore}

at_false : (b : Bool) → b ≡ false → cond b 1 0 ≤ 0
at_false true e = absurd (true≢false e)
at_false false e = omega arith

at_most : (b : Bool) → cond b 1 0 ≤ 1
at_most true = omega arith
at_most false = omega arith

count_by_none : (p : ℕ → Bool) (xs : List ℕ) → ((m : ℕ) → p m ≡ false) → count_by p xs ≤ 0
count_by_none p [] none = omega arith
count_by_none p (x ∷ xs) none =
    let rest = count_by_none p xs none in
    let one = sum_by-cons (λ (m : ℕ). cond (p m) 1 0) x xs in
    let own = at_false (p x) (none x) in
    omega (arith, rest, one, own)

-- what each number counts at most, all do
count_by_most : (p q r : ℕ → Bool) (xs : List ℕ) → ((m : ℕ) → cond (p m) 1 0 ≤ cond (q m) 1 0 + cond (r m) 1 0) → count_by p xs ≤ count_by q xs + count_by r xs
count_by_most p q r [] each = omega arith
count_by_most p q r (x ∷ xs) each =
    let rest = count_by_most p q r xs each in
    let one = sum_by-cons (λ (m : ℕ). cond (p m) 1 0) x xs in
    let two = sum_by-cons (λ (m : ℕ). cond (q m) 1 0) x xs in
    let three = sum_by-cons (λ (m : ℕ). cond (r m) 1 0) x xs in
    let here = each x in
    omega (arith, rest, one, two, three, here)

by_kinds : (t known : Bool) → cond t 1 0 ≤ cond (t && known) 1 0 + cond (not known) 1 0
by_kinds true true = omega arith
by_kinds true false = omega arith
by_kinds false true = omega arith
by_kinds false false = omega arith

by_places : (t here later : Bool) → cond (t && (here || later)) 1 0 ≤ cond (t && here) 1 0 + cond (t && later) 1 0
by_places true true true = omega arith
by_places true true false = omega arith
by_places true false true = omega arith
by_places true false false = omega arith
by_places false here later = omega arith

less_unknown : (here later : Bool) → cond (not (here || later)) 1 0 ≤ cond (not later) 1 0 + cond false 1 0
less_unknown true true = omega arith
less_unknown true false = omega arith
less_unknown false true = omega arith
less_unknown false false = omega arith

without : (t here : Bool) → cond (t && here) 1 0 ≤ cond here 1 0 + cond false 1 0
without true true = omega arith
without true false = omega arith
without false true = omega arith
without false false = omega arith

same_number : (m y : ℕ) → nat_eq m y ≡ nat_eq y m
same_number m y =
    elim (cases_Bool (nat_eq m y)) [
      | inl e ↦ e ∙ sym (eq-eqb y m (sym (eqb-true m y e)))
      | inr e ↦ elim (cases_Bool (nat_eq y m)) [
        | inl f ↦ eq-eqb m y (sym (eqb-true y m f)) ∙ sym f
        | inr f ↦ e ∙ sym f
      ]
    ]

-- none of a list's own numbers is unknown to it
none_unknown : (ys : List ℕ) → count_by (λ (m : ℕ). not (list_any (nat_eq m) ys)) ys ≤ 0
none_unknown [] = omega arith
none_unknown (y ∷ ys) =
    let rest = none_unknown ys in
    let less = count_by_most (λ m. not (nat_eq m y || list_any (nat_eq m) ys)) (λ m. not (list_any (nat_eq m) ys)) (λ m. false) ys (λ m. less_unknown (nat_eq m y) (list_any (nat_eq m) ys)) in
    let nothing = count_by_none (λ m. false) ys (λ m. refl) in
    let one = sum_by-cons (λ (m : ℕ). cond (not (nat_eq m y || list_any (nat_eq m) ys)) 1 0) y ys in
    let own = at_false (not (nat_eq y y || list_any (nat_eq y) ys)) (ap (λ b. not (b || list_any (nat_eq y) ys)) (eq-eqb y y refl)) in
    omega (arith, rest, less, nothing, one, own)

module _ (test : ℕ → Bool) (xs : List ℕ) (single : (m : ℕ) → count_by (nat_eq m) xs ≤ 1) where
  -- a number among them is met once where the test takes it
  met_once : (y : ℕ) (taken : Bool) → test y ≡ taken → count_by (λ (m : ℕ). test m && nat_eq m y) xs ≤ cond taken 1 0
  met_once y true e =
      let less = count_by_most (λ m. test m && nat_eq m y) (nat_eq y) (λ m. false) xs (λ m. own m) in
      let nothing = count_by_none (λ m. false) xs (λ m. refl) in
      let one = single y in
      omega (arith, less, nothing, one)
    where
      own : (m : ℕ) → cond (test m && nat_eq m y) 1 0 ≤ cond (nat_eq y m) 1 0 + cond false 1 0
      own m = let less = without (test m) (nat_eq m y) in let same = ap {B = ℕ} (λ b. cond b 1 0) (same_number m y) in omega (arith, less, same)
  met_once y false e =
      let nothing = count_by_none (λ m. test m && nat_eq m y) xs (λ m. no m) in
      omega (arith, nothing)
    where
      no : (m : ℕ) → (test m && nat_eq m y) ≡ false
      no m =
          elim (cases_Bool (nat_eq m y)) [
            | inl same ↦ (λ i. (ap test (eqb-true m y same) ∙ e) i && nat_eq m y)
            | inr apart ↦ ap (λ b. test m && b) apart ∙ never (test m)
          ]
        where
          never : (b : Bool) → (b && false) ≡ false
          never true = refl
          never false = refl

  known_once : (ys : List ℕ) → count_by (λ (m : ℕ). test m && list_any (nat_eq m) ys) xs ≤ count_by test (once ys)
  known_once [] =
      let nothing = count_by_none (λ m. test m && false) xs (λ m. never (test m)) in
      omega (arith, nothing)
    where
      never : (b : Bool) → (b && false) ≡ false
      never true = refl
      never false = refl
  known_once (y ∷ ys) = step (known_once ys) (list_any (nat_eq y) ys) refl
    where
      again : list_any (nat_eq y) ys ≡ true → (m : ℕ) → cond (test m && (nat_eq m y || list_any (nat_eq m) ys)) 1 0 ≤ cond (test m && list_any (nat_eq m) ys) 1 0 + cond false 1 0
      again there m =
          let same : (nat_eq m y || list_any (nat_eq m) ys) ≡ list_any (nat_eq m) ys =
          elim (cases_Bool (nat_eq m y)) [
            | inl e ↦ ap (λ b. b || list_any (nat_eq m) ys) e ∙ sym (ap (λ k. list_any (nat_eq k) ys) (eqb-true m y e) ∙ there)
            | inr e ↦ ap (λ b. b || list_any (nat_eq m) ys) e
          ] in
          let counted = ap {B = ℕ} (λ b. cond (test m && b) 1 0) same in
          omega (arith, counted)

      step : count_by (λ (m : ℕ). test m && list_any (nat_eq m) ys) xs ≤ count_by test (once ys) → (known : Bool) → list_any (nat_eq y) ys ≡ known → count_by (λ (m : ℕ). test m && (nat_eq m y || list_any (nat_eq m) ys)) xs ≤ count_by test (cond known (once ys) (y ∷ once ys))
      step rest true there =
          let less = count_by_most (λ m. test m && (nat_eq m y || list_any (nat_eq m) ys)) (λ m. test m && list_any (nat_eq m) ys) (λ m. false) xs (again there) in
          let nothing = count_by_none (λ m. false) xs (λ m. refl) in
          omega (arith, less, nothing, rest)
      step rest false new =
          let less = count_by_most (λ m. test m && (nat_eq m y || list_any (nat_eq m) ys)) (λ m. test m && nat_eq m y) (λ m. test m && list_any (nat_eq m) ys) xs (λ m. by_places (test m) (nat_eq m y) (list_any (nat_eq m) ys)) in
          let own = met_once y (test y) refl in
          let one = sum_by-cons (λ (m : ℕ). cond (test m) 1 0) y (once ys) in
          omega (arith, less, own, rest, one)

-- numbers that are met once, and no more than others, are no more than these taken once
pub once_no_more : (xs ys : List ℕ) → ((m : ℕ) → count_by (nat_eq m) xs ≤ 1) → HasNoMore xs ys → HasNoMore xs (once ys)
once_no_more xs ys single more test =
    let parts = count_by_most test (λ m. test m && list_any (nat_eq m) ys) (λ m. not (list_any (nat_eq m) ys)) xs (λ m. by_kinds (test m) (list_any (nat_eq m) ys)) in
    let known = known_once test xs single ys in
    let unknown = more (λ m. not (list_any (nat_eq m) ys)) in
    let none = none_unknown ys in
    omega (arith, parts, known, unknown, none)

-- numbers that rise are met once each

not_above : (m : ℕ) (xs : List ℕ) → AllAbove m xs → count_by (nat_eq m) xs ≤ 0
not_above m [] above = omega arith
not_above m (x ∷ xs) above =
    let rest = not_above m xs above.1 in
    let one = sum_by-cons (λ (k : ℕ). cond (nat_eq m k) 1 0) x xs in
    let own = at_false (nat_eq m x) (ne_eqb m x (λ same. omega (arith, same, above.0))) in
    omega (arith, rest, one, own)

pub rising_once : (xs : List ℕ) → Rises xs → (m : ℕ) → count_by (nat_eq m) xs ≤ 1
rising_once [] rising m = omega arith
rising_once (x ∷ xs) rising m =
    let one = sum_by-cons (λ (k : ℕ). cond (nat_eq m k) 1 0) x xs in
    elim (cases_Bool (nat_eq m x)) [
      | inl same ↦
          let none = not_above m xs (subst (λ k. AllAbove k xs) (sym (eqb-true m x same)) rising.0) in
          let own = at_most (nat_eq m x) in
          omega (arith, one, none, own)
      | inr apart ↦
          let rest = rising_once xs rising.1 m in
          let own = at_false (nat_eq m x) apart in
          omega (arith, one, rest, own)
    ]
