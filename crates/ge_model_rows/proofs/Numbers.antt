-- The numbers of a set: they rise, and are those that it has; rising numbers make a set in the form.
use Rattle.std.proofs.Common.{◌≡◌, ℕ, zero, suc, ◌+◌, ◌-◌, ◌*◌, ◌%◌, ◌≤◌, ◌<◌, ◌==◌, ◌||◌, Bool, true, false, List, [], ◌∷◌, ◌++◌, map, refl, sym, ap, subst, ◌∙◌, arith}
use Rattle.std.specs.List.{list_any}
use Rattle.std.proofs.lemmas.Bool.{eqb-true, eq-eqb, true≢false}
use Rattle.std.proofs.lemmas.List.Folds.{list_any-append}
use Rattle.std.proofs.lemmas.Nat.{div-add-mod'}
use Rattle.std.proofs.Math.Nat.{zero-mod}
use Rattle.ge_model_rows.specs.TaskRows.{TaskSpan, is_form}
use Rattle.ge_model_rows.specs.Spans.{one, in_span, steps_of, stepping, span_numbers}
use Rattle.ge_model_rows.specs.Sets.{has_number, numbers_of, set_of}
use Rattle.ge_model_rows.proofs.Steps.{raw, joined, alone}
use Rattle.ge_model_rows.proofs.Form.{IsMade, Rises}
use Rattle.ge_model_rows.proofs.Runs.{in_form_form, in_form_numbers}
use Rattle.ge_model_rows.proofs.Sets.{one_made}

-- ---- rising numbers

-- numbers above a number, each above the one before it
abbrev pub Rising : ℕ → List ℕ → Type 0
Rising low [] = Unit {0}
Rising low (n ∷ rest) = (low < n) × Rising n rest

-- whether a number is one of these
abbrev pub is_among : ℕ → List ℕ → Bool
is_among m numbers = list_any (λ n. m == n) numbers

singles_rise : (low : ℕ) (numbers : List ℕ) → Rising low numbers → Rises low (map one numbers)
singles_rise low [] rising = tt
singles_rise low (n ∷ rest) (higher, rising) = (higher, one_made n (omega arith), singles_rise n rest rising)

singles_has : (m : ℕ) (numbers : List ℕ) → has_number m (map one numbers) ≡ is_among m numbers
singles_has m [] = refl
singles_has m (n ∷ rest) = λ i. alone m n 1 i || singles_has m rest i

-- the set of rising numbers is in the form, and has them
pub set_of_form : (numbers : List ℕ) → Rising 0 numbers → is_form (set_of numbers) ≡ true
set_of_form numbers rising = in_form_form 0 (map one numbers) (singles_rise 0 numbers rising)

pub set_of_has : (m : ℕ) (numbers : List ℕ) → Rising 0 numbers → has_number m (set_of numbers) ≡ is_among m numbers
set_of_has m numbers rising = in_form_numbers m 0 (map one numbers) (singles_rise 0 numbers rising) ∙ singles_has m numbers

-- rising numbers are among those above the first
pub among_above : (m low : ℕ) (numbers : List ℕ) → Rising low numbers → is_among m numbers ≡ true → low < m
among_above m low [] rising has = absurd (true≢false (sym has))
among_above m low (n ∷ rest) (higher, rising) has = by (m == n) refl has (among_above m n rest rising)
  where
    by : (here : Bool) → (m == n) ≡ here → (here || is_among m rest) ≡ true → (is_among m rest ≡ true → n < m) → low < m
    by true is has again = let e = eqb-true m n is in omega arith
    by false is has again = let l = again has in omega arith

-- two rising lists of the same numbers are the same
pub same_numbers : (low : ℕ) (xs ys : List ℕ) → Rising low xs → Rising low ys → ((m : ℕ) → is_among m xs ≡ is_among m ys) → xs ≡ ys
same_numbers low [] [] one two same = refl
same_numbers low [] (y ∷ ys) one two same = absurd (true≢false (ap (λ x. x || is_among y ys) (sym (eq-eqb y y refl)) ∙ sym (same y)))
same_numbers low (x ∷ xs) [] one two same = absurd (true≢false (ap (λ z. z || is_among x xs) (sym (eq-eqb x x refl)) ∙ same x))
same_numbers low (x ∷ xs) (y ∷ ys) (higher, rising) (above, going) same =
    let e : x ≡ y = heads in
    let rest = same_numbers x xs ys rising (rw e going) (tails e) in
    λ i. e i ∷ rest i
  where
    among_head : (n : ℕ) (ns : List ℕ) → is_among n (n ∷ ns) ≡ true
    among_head n ns = ap (λ z. z || is_among n ns) (eq-eqb n n refl)

    at_least : (n k : ℕ) (ns : List ℕ) → Rising n ns → is_among k (n ∷ ns) ≡ true → n ≤ k
    at_least n k ns rising has = by (k == n) refl has
      where
        by : (here : Bool) → (k == n) ≡ here → (here || is_among k ns) ≡ true → n ≤ k
        by true is has = let e = eqb-true k n is in omega arith
        by false is has = let l = among_above k n ns rising has in omega arith

    heads : x ≡ y
    heads =
        let a = at_least y x ys going (sym (same x) ∙ among_head x xs) in
        let b = at_least x y xs rising (same y ∙ among_head y ys) in
        omega arith

    tails : x ≡ y → (m : ℕ) → is_among m xs ≡ is_among m ys
    tails e m = by (m == x) refl (is_among m xs) refl (is_among m ys) refl
      where
        by : (here : Bool) → (m == x) ≡ here → (u : Bool) → is_among m xs ≡ u → (v : Bool) → is_among m ys ≡ v → u ≡ v
        by true is true p v q = absurd (let l = among_above m x xs rising p in let e = eqb-true m x is in omega arith)
        by true is false p true q = absurd (let l = among_above m y ys going q in let f = eqb-true m x is in omega arith)
        by true is false p false q = refl
        by false is u p v q =
            sym p ∙ ap (λ z. z || is_among m xs) (sym is) ∙ same m ∙ ap (λ z. (m == z) || is_among m ys) (sym e) ∙ ap (λ z. z || is_among m ys) is ∙ q

-- ---- the numbers of a set

stepping_has : (m more first step : ℕ) → 0 < step → is_among m (stepping (suc more) first step) ≡ in_span m (raw first (first + more * step) step)
stepping_has m zero first step p = or_nothing (m == first) ∙ sym (alone m first step) ∙ ap (λ x. in_span m (raw first x step)) (omega arith)
  where
    or_nothing : (u : Bool) → (u || false) ≡ u
    or_nothing true = refl
    or_nothing false = refl
stepping_has m (suc more) first step p =
    (λ i. sym (alone m first step) i || stepping_has m more (first + step) step p i)
    ∙ ap (λ x. in_span m (raw first first step) || in_span m (raw (first + step) x step)) there
    ∙ sym (joined m first first (first + suc more * step) step (omega arith) none (omega arith))
  where
    there : first + step + more * step ≡ first + suc more * step
    there = omega arith

    none : (first - first) % step ≡ 0
    none = let e : first - first ≡ 0 = omega arith in ap (λ x. x % step) e ∙ zero-mod step

stepping_rises : (low more first step : ℕ) (rest : List ℕ) → 0 < step → low < first → Rising (first + more * step) rest
    → Rising low (stepping (suc more) first step ++ rest)
stepping_rises low zero first step rest p q rising = (q, subst (λ x. Rising x rest) (omega arith) rising)
stepping_rises low (suc more) first step rest p q rising =
    (q, stepping_rises first more (first + step) step rest p (omega arith) (subst (λ x. Rising x rest) (omega arith) rising))

-- a made span ends where its steps lead
pub steps_lead : (s : TaskSpan) → IsMade s → s.first + steps_of s * s.step ≡ s.last
steps_lead s made =
    let e = div-add-mod' (s.last - s.first) s.step in
    let r = made.reached in
    let o = made.ordered in
    omega arith

pub plus_one : (n first step : ℕ) → stepping (n + 1) first step ≡ stepping (suc n) first step
plus_one n first step = let e : n + 1 ≡ suc n = omega arith in ap (λ x. stepping x first step) e

span_numbers_has : (m : ℕ) (s : TaskSpan) → IsMade s → is_among m (span_numbers s) ≡ in_span m s
span_numbers_has m s made =
    ap (is_among m) (plus_one (steps_of s) s.first s.step) ∙ stepping_has m (steps_of s) s.first s.step made.forward
    ∙ ap (λ x. in_span m (raw s.first x s.step)) (steps_lead s made)

pub numbers_has : (m low : ℕ) (spans : List TaskSpan) → Rises low spans → is_among m (numbers_of spans) ≡ has_number m spans
numbers_has m low [] rises = refl
numbers_has m low (s ∷ rest) (higher, made, rises) =
    list_any-append (λ n. m == n) (span_numbers s) (numbers_of rest) ∙ (λ i. span_numbers_has m s made i || numbers_has m s.last rest rises i)

pub numbers_rise : (low : ℕ) (spans : List TaskSpan) → Rises low spans → Rising low (numbers_of spans)
numbers_rise low [] rises = tt
numbers_rise low (s ∷ rest) (higher, made, rises) =
    subst (λ x. Rising low (x ++ numbers_of rest)) (sym (plus_one (steps_of s) s.first s.step))
    (stepping_rises low (steps_of s) s.first s.step (numbers_of rest) made.forward higher
    (subst (λ x. Rising x (numbers_of rest)) (sym (steps_lead s made)) (numbers_rise s.last rest rises)))
