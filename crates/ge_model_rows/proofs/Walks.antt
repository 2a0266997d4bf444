-- A walk over a set takes its first numbers that pass a test.
use Rattle.std.proofs.Common.{◌≡◌, ℕ, zero, suc, ◌-◌, ◌%◌, ◌≤◌, ◌==◌, ◌&&◌, ◌||◌, Bool, true, false, min, cond, nat_lt, List, [], ◌∷◌, ◌++◌, take, filter, refl, sym, ap, subst, ◌∙◌, arith}
use Rattle.std.proofs.Math.Nat.{zero-mod}
use Rattle.std.proofs.lemmas.Bool.{eqb-true}
use Rattle.ge_model_rows.specs.TaskRows.{TaskSpan, is_form}
use Rattle.ge_model_rows.specs.Spans.{in_span, above_in}
use Rattle.ge_model_rows.specs.Sets.{has_number, numbers_of, count_of, passing, first_numbers}
use Rattle.ge_model_rows.proofs.Steps.{both_ways, lies_back}
use Rattle.ge_model_rows.proofs.Form.{IsMade, Rises}
use Rattle.ge_model_rows.proofs.Sets.{form_rises}
use Rattle.ge_model_rows.proofs.Turns.{left_rises, left_size, size, counted}
use Rattle.ge_model_rows.proofs.Merged.{left_numbers}
use Rattle.ge_model_rows.proofs.Numbers.{same_numbers, numbers_has, numbers_rise}

-- a number of a span is its first, or above that
first_or_later : (m : ℕ) (s : TaskSpan) → IsMade s → in_span m s ≡ (m == s.first || (in_span m s && nat_lt s.first m))
first_or_later m s made = both_ways (λ h. grind arith) from
  where
    from : (m == s.first || (in_span m s && nat_lt s.first m)) ≡ true → in_span m s ≡ true
    from h = by (m == s.first) refl h
      where
        by : (here : Bool) → (m == s.first) ≡ here → (here || (in_span m s && nat_lt s.first m)) ≡ true → in_span m s ≡ true
        by true is h =
            let e = eqb-true m s.first is in
            let o = made.ordered in
            let none : m - s.first ≡ 0 = omega arith in
            lies_back m s.first s.last s.step (omega arith, omega arith, ap (λ x. x % s.step) none ∙ zero-mod s.step)
        by false is h = grind arith

grouped : (a b c d : Bool) → a ≡ (b || c) → (a || d) ≡ (b || (c || d))
grouped a b c d e = grind arith

-- the numbers of a set are the first one and those that are left
pub numbers_first : (low : ℕ) (s : TaskSpan) (rest : List TaskSpan) → Rises low (s ∷ rest) → numbers_of (s ∷ rest) ≡ s.first ∷ numbers_of (above_in s.first s ++ rest)
numbers_first low s rest (higher, made, rises) =
    same_numbers low (numbers_of (s ∷ rest)) (s.first ∷ numbers_of (above_in s.first s ++ rest))
    (numbers_rise low (s ∷ rest) (higher, made, rises))
    (higher, numbers_rise s.first (above_in s.first s ++ rest) left)
    (λ m. numbers_has m low (s ∷ rest) (higher, made, rises)
    ∙ grouped (in_span m s) (m == s.first) (in_span m s && nat_lt s.first m) (has_number m rest) (first_or_later m s made)
    ∙ ap (λ x. m == s.first || x) (sym (left_numbers m s.first s rest made) ∙ sym (numbers_has m s.first (above_in s.first s ++ rest) left)))
  where
    left : Rises s.first (above_in s.first s ++ rest)
    left =
        let o = made.ordered in
        let least : min s.last s.first ≡ s.first = omega arith in
        subst (λ x. Rises x (above_in s.first s ++ rest)) least (left_rises s.first s rest made (omega arith) rises)

take_none : (most : ℕ) → [] ≡ take {A = ℕ} most []
take_none zero = refl
take_none (suc most) = refl

passing_takes : (test : ℕ → Bool) (turns most low : ℕ) (spans : List TaskSpan) → Rises low spans → size spans ≤ turns
    → passing test turns most spans ≡ take most (filter test (numbers_of spans))
passing_takes test zero most low [] rises enough = take_none most
passing_takes test zero most low (s ∷ rest) rises enough = absurd (omega arith)
passing_takes test (suc turns) most low [] rises enough = take_none most
passing_takes test (suc turns) zero low (s ∷ rest) rises enough = refl
passing_takes test (suc turns) (suc most) low (s ∷ rest) (higher, made, rises) enough =
    by (test s.first) (passing_takes test turns most s.first left left_up shorter) (passing_takes test turns (suc most) s.first left left_up shorter)
    ∙ ap (λ x. take (suc most) (filter test x)) (sym (numbers_first low s rest (higher, made, rises)))
  where
    left : List TaskSpan
    left = above_in s.first s ++ rest

    left_up : Rises s.first left
    left_up =
        let o = made.ordered in
        let least : min s.last s.first ≡ s.first = omega arith in
        subst (λ x. Rises x (above_in s.first s ++ rest)) least (left_rises s.first s rest made (omega arith) rises)

    shorter : size left ≤ turns
    shorter = let l = left_size s.first s rest made (omega arith) in omega arith

    by : (fits : Bool) → passing test turns most left ≡ take most (filter test (numbers_of left)) → passing test turns (suc most) left ≡ take (suc most) (filter test (numbers_of left))
        → elim fits [ true ↦ s.first ∷ passing test turns most left | false ↦ passing test turns (suc most) left ]
        ≡ take (suc most) (cond fits (s.first ∷ filter test (numbers_of left)) (filter test (numbers_of left)))
    by true one all = ap (λ x. s.first ∷ x) one
    by false one all = all

-- the first numbers of a set that pass a test, at most so many
pub first_numbers_take : (test : ℕ → Bool) (most : ℕ) (spans : List TaskSpan) → is_form spans ≡ true
    → first_numbers test most spans ≡ take most (filter test (numbers_of spans))
first_numbers_take test most spans form =
    passing_takes test (count_of spans) most 0 spans (form_rises spans form) (let c = counted 0 spans in omega arith)
