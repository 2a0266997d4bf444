-- The first numbers of a span, and of a set.
use Rattle.std.proofs.Common.{◌≡◌, ℕ, zero, suc, ◌+◌, ◌-◌, ◌*◌, ◌≤◌, ◌<◌, ◌==◌, ◌||◌, ◌&&◌, Bool, true, false, nat_le, nat_lt, min, List, [], ◌∷◌, ◌++◌, take, get_or, length, refl, sym, ap, ◌∙◌, arith, append_assoc, append-nil, take_all, mul-le-mul_right}
use Rattle.std.proofs.Math.Nat.{div-mul-le_self}
use Rattle.std.proofs.lemmas.Bool.{eqb-true}
use Rattle.std.proofs.lemmas.List.{take_more}
use Rattle.ge_model_rows.specs.TaskRows.{TaskSpan, is_form}
use Rattle.ge_model_rows.specs.Spans.{steps_of, stepping, span_numbers}
use Rattle.ge_model_rows.specs.Sets.{numbers_of, count_of, set_of}
use Rattle.ge_model_rows.proofs.Limits.{count_numbers}
use Rattle.ge_model_rows.proofs.Numbers.{Rising, set_of_form}
use Rattle.ge_ranges.specs.Forming.{has_second, is_rising}

-- a span's first number isn't above its last
pub ordered : (s : TaskSpan) → has_second s ≡ true → s.first ≤ s.last
ordered s h = by (s.first == s.last) refl h
  where
    by : (one : Bool) → (s.first == s.last) ≡ one → (one || nat_le (s.first + s.step) s.last) ≡ true → s.first ≤ s.last
    by true is h = let e = eqb-true s.first s.last is in omega arith
    by false is h = grind arith

-- no number of a span stands above its last
pub inside : (s : TaskSpan) (place : ℕ) → has_second s ≡ true → place ≤ steps_of s → s.first + place * s.step ≤ s.last
inside s place h le =
    let o = ordered s h in
    let more : place * s.step ≤ steps_of s * s.step = mul-le-mul_right s.step le in
    let l = div-mul-le_self (s.last - s.first) s.step in
    omega arith

-- the first of the numbers that are left
pub next_number : (numbers : List ℕ) (n k first step : ℕ) → k < n
    → (numbers ++ (first + k * step) ∷ []) ++ stepping (n - (k + 1)) (first + (k + 1) * step) step ≡ numbers ++ stepping (n - k) (first + k * step) step
next_number numbers n k first step lt =
    let left : n - k ≡ suc (n - (k + 1)) = omega arith in
    let place : first + (k + 1) * step ≡ first + k * step + step = omega arith in
    append_assoc numbers ((first + k * step) ∷ []) (stepping (n - (k + 1)) (first + (k + 1) * step) step)
    ∙ ap (λ a. numbers ++ (first + k * step) ∷ stepping (n - (k + 1)) a step) place
    ∙ sym (ap (λ m. numbers ++ stepping m (first + k * step) step) left)

-- a front of rising steps
pub steps_taken : (room count first step : ℕ) → take room (stepping count first step) ≡ stepping (min room count) first step
steps_taken zero count first step = sym (ap (λ m. stepping m first step) (let z : min 0 count ≡ 0 = omega arith in z))
steps_taken (suc room) zero first step = sym (ap (λ m. stepping m first step) (let z : min (suc room) 0 ≡ 0 = omega arith in z))
steps_taken (suc room) (suc count) first step =
    ap (λ r. first ∷ r) (steps_taken room count (first + step) step)
    ∙ sym (ap (λ m. stepping m first step) (let z : min (suc room) (suc count) ≡ suc (min room count) = omega arith in z))

take_both : {X : Type 0} (n : ℕ) (xs ys : List X) → take n (xs ++ ys) ≡ take n xs ++ take (n - length xs) ys
take_both n [] ys = ap (λ m. take m ys) (let z : n ≡ n - 0 = omega arith in z) ∙ none n
  where
    none : (n : ℕ) → take (n - 0) ys ≡ take n [] ++ take (n - 0) ys
    none zero = refl
    none (suc n) = refl
take_both zero (x ∷ xs) ys = ap (λ m. take m ys) (let z : 0 ≡ 0 - length (x ∷ xs) = omega arith in z)
take_both (suc n) (x ∷ xs) ys =
    ap (λ r. x ∷ r) (take_both n xs ys) ∙ ap (λ m. x ∷ take n xs ++ take m ys) (let z : n - length xs ≡ suc n - length (x ∷ xs) = omega arith in z)

take_length : {X : Type 0} (n : ℕ) (xs : List X) → length (take n xs) ≡ min n (length xs)
take_length zero xs = omega arith
take_length (suc n) [] = omega arith
take_length (suc n) (x ∷ xs) = let h = take_length n xs in omega arith

more_numbers : (xs : List TaskSpan) (x : TaskSpan) → numbers_of (xs ++ x ∷ []) ≡ numbers_of xs ++ span_numbers x
more_numbers [] x = append-nil (span_numbers x)
more_numbers (y ∷ xs) x = ap (λ r. span_numbers y ++ r) (more_numbers xs x) ∙ sym (append_assoc (span_numbers y) (numbers_of xs) (span_numbers x))

-- the first numbers with those of one more span
pub more_taken : (spans : List TaskSpan) (i most room : ℕ) (d : TaskSpan) (numbers after : List ℕ) → i < length spans → room ≡ most - length numbers
    → numbers ≡ take most (numbers_of (take i spans)) → after ≡ numbers ++ take room (span_numbers (get_or spans i d))
    → after ≡ take most (numbers_of (take (i + 1) spans))
more_taken spans i most room d numbers after lt left so_far is =
    let front : List ℕ = numbers_of (take i spans) in
    let x = span_numbers (get_or spans i d) in
    let l : length numbers ≡ min most (length front) = ap (λ ys. length ys) so_far ∙ take_length most front in
    is ∙ same_room (length front) l
    ∙ ap (λ ys. ys ++ take (most - length front) x) so_far
    ∙ sym (take_both most front x)
    ∙ sym (ap (λ ys. take most ys) (ap numbers_of (take_more spans i d lt) ∙ more_numbers (take i spans) (get_or spans i d)))
  where
    same_room : (n : ℕ) → length numbers ≡ min most n → numbers ++ take room (span_numbers (get_or spans i d)) ≡ numbers ++ take (most - n) (span_numbers (get_or spans i d))
    same_room n l = ap (λ m. numbers ++ take m (span_numbers (get_or spans i d))) (let z : room ≡ most - n = omega (arith, left, l) in z)

-- there is no room for more
pub no_room : (spans : List TaskSpan) (i most : ℕ) (numbers : List ℕ) → most ≤ length numbers → numbers ≡ take most (numbers_of (take i spans))
    → numbers ≡ take most (numbers_of spans)
no_room spans i most numbers full so_far = by (front_of i spans)
  where
    front_of : (i : ℕ) (xs : List TaskSpan) → (rest : List ℕ) × (numbers_of xs ≡ numbers_of (take i xs) ++ rest)
    front_of zero xs = (numbers_of xs, refl)
    front_of (suc i) [] = ([], refl)
    front_of (suc i) (x ∷ xs) = let h = front_of i xs in (h.0, ap (λ r. span_numbers x ++ r) h.1 ∙ sym (append_assoc (span_numbers x) (numbers_of (take i xs)) h.0))

    by : (rest : List ℕ) × (numbers_of spans ≡ numbers_of (take i spans) ++ rest) → numbers ≡ take most (numbers_of spans)
    by (rest, e) =
        let front : List ℕ = numbers_of (take i spans) in
        let l : length numbers ≡ min most (length front) = ap (λ ys. length ys) so_far ∙ take_length most front in
        let none : most - length front ≡ 0 = omega arith in
        sym (ap (λ ys. take most ys) e ∙ take_both most front rest ∙ ap (λ m. take most front ++ take m rest) none ∙ append-nil (take most front) ∙ sym so_far)

-- as many numbers as there are, are all
pub all_numbers : (spans : List TaskSpan) → take (count_of spans) (numbers_of spans) ≡ numbers_of spans
all_numbers spans = let e = count_numbers spans in take_all (count_of spans) (numbers_of spans) (omega arith)

-- numbers that are found to rise do
pub rises : (low : ℕ) (numbers : List ℕ) → is_rising low numbers ≡ true → Rising low numbers
rises low [] up = tt
rises low (n ∷ rest) up = let e = both (nat_lt low n) (is_rising n rest) up in (higher low n e.0, rises n rest e.1)
  where
    both : (a b : Bool) → (a && b) ≡ true → (a ≡ true) × (b ≡ true)
    both a b h = grind arith

    higher : (low n : ℕ) → nat_lt low n ≡ true → low < n
    higher low n h = grind arith

-- rising numbers make a set in the form
pub rising_form : (numbers : List ℕ) → is_rising 0 numbers ≡ true → is_form (set_of numbers) ≡ true
rising_form numbers up = set_of_form numbers (rises 0 numbers up)
