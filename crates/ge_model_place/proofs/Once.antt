-- A list of things that each have a limit and an amount, each limit once: what it asks of a limit is nothing, or what one of them asks.
use Rattle.std.proofs.Common.{◌≡◌, ℕ, ◌⊎◌, inl, inr, Bool, true, false, not, cond, List, [], ◌∷◌, ◌++◌, sum_by, refl, sym, subst, ap, ◌∙◌, arith}
use Rattle.std.specs.List.{list_all, list_any}
use Rattle.std.proofs.lemmas.Bool.{cases_Bool, and_parts, and_from, or_parts, not_from_false, true≢false}
use Rattle.std.proofs.lemmas.List.Sums.{sum_by-cons}
use Rattle.ge_model_rows.specs.ScheduleRows.{LimitId}
use Rattle.ge_model_place.specs.Bookings.{same_limit}
use Rattle.ge_model_place.proofs.Same.{limits_equal}

-- a property of each element
abbrev pub Each : {X : Type 0} → (X → Type 0) → List X → Type 0
Each P [] = Unit {0}
Each P (x ∷ xs) = P x × Each P xs

pub each_of_both : {X : Type 0} (P : X → Type 0) (xs ys : List X) → Each P xs → Each P ys → Each P (xs ++ ys)
each_of_both P [] ys first second = second
each_of_both P (x ∷ xs) ys first second = (first.0, each_of_both P xs ys first.1 second)

module _ {X : Type 0} (limit_of : X → LimitId) (amount_of : X → ℕ) where
  -- what one asks of a limit
  abbrev pub asks : LimitId → X → ℕ
  asks limit x = cond (same_limit (limit_of x) limit) (amount_of x) 0

  -- whether one has another limit
  abbrev pub differs : LimitId → X → Bool
  differs limit x = not (same_limit (limit_of x) limit)

  -- each has its own
  abbrev pub Apart : List X → Type 0
  Apart [] = Unit {0}
  Apart (x ∷ xs) = (list_all (differs (limit_of x)) xs ≡ true) × Apart xs

  none_asks : (limit : LimitId) (xs : List X) → list_all (differs limit) xs ≡ true → sum_by (asks limit) xs ≡ 0
  none_asks limit [] e = refl
  none_asks limit (x ∷ xs) e =
      let parts = and_parts (differs limit x) (list_all (differs limit) xs) e in
      let rest = none_asks limit xs parts.1 in
      elim (cases_Bool (same_limit (limit_of x) limit)) [
        | inl same ↦ absurd (true≢false (sym parts.0 ∙ ap not same))
        | inr other ↦ let nothing : asks limit x ≡ 0 = rw other refl in sum_by-cons (asks limit) x xs ∙ omega (arith, rest, nothing)
      ]

  -- what they ask of a limit is nothing, or what one of them asks
  pub asks_once : (P : LimitId → ℕ → Type 0) (xs : List X) → Apart xs → Each (λ x. P (limit_of x) (amount_of x)) xs → (limit : LimitId) → (sum_by (asks limit) xs ≡ 0) ⊎ P limit (sum_by (asks limit) xs)
  asks_once P [] apart each limit = inl refl
  asks_once P (x ∷ xs) apart each limit =
      elim (cases_Bool (same_limit (limit_of x) limit)) [
        | inl same ↦
            let is : limit_of x ≡ limit = limits_equal (limit_of x) limit same in
            let rest : sum_by (asks limit) xs ≡ 0 = subst (λ l. sum_by (asks l) xs ≡ 0) is (none_asks (limit_of x) xs apart.0) in
            let first : asks limit x ≡ amount_of x = rw same refl in
            let whole : sum_by (asks limit) (x ∷ xs) ≡ amount_of x = sum_by-cons (asks limit) x xs ∙ omega (arith, rest, first) in
            inr (subst (λ n. P limit n) (sym whole) (subst (λ l. P l (amount_of x)) is each.0))
        | inr other ↦
            let first : asks limit x ≡ 0 = rw other refl in
            let whole : sum_by (asks limit) (x ∷ xs) ≡ sum_by (asks limit) xs = sum_by-cons (asks limit) x xs ∙ omega (arith, first) in
            elim (asks_once P xs apart.1 each.1 limit) [
              | inl none ↦ inl (whole ∙ none)
              | inr some ↦ inr (subst (λ n. P limit n) (sym whole) some)
            ]
      ]

  -- one more, behind those that have other limits
  pub apart_push : (xs : List X) (x : X) → Apart xs → list_any (λ y. same_limit (limit_of x) (limit_of y)) xs ≡ false → Apart (xs ++ x ∷ [])
  apart_push [] x apart new = (refl, tt)
  apart_push (y ∷ ys) x apart new =
      let parts = or_parts (same_limit (limit_of x) (limit_of y)) (list_any (λ z. same_limit (limit_of x) (limit_of z)) ys) new in
      (differs_push (limit_of y) ys x apart.0 (not_from_false (same_limit (limit_of x) (limit_of y)) parts.0), apart_push ys x apart.1 parts.1)
    where
      differs_push : (limit : LimitId) (zs : List X) (z : X) → list_all (differs limit) zs ≡ true → differs limit z ≡ true → list_all (differs limit) (zs ++ z ∷ []) ≡ true
      differs_push limit [] z all one = and_from (differs limit z) true one refl
      differs_push limit (w ∷ ws) z all one =
          let both = and_parts (differs limit w) (list_all (differs limit) ws) all in and_from (differs limit w) (list_all (differs limit) (ws ++ z ∷ [])) both.0 (differs_push limit ws z both.1 one)
