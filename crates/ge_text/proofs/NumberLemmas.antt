-- Digits, the numbers that they count, and where these are cut.
use Rattle.std.proofs.Common.{◌≡◌, ℕ, suc, zero, ◌+◌, ◌-◌, ◌*◌, ◌<◌, ◌≤◌, Bool, true, false, cond, ◌==◌, nat_le, List, [], ◌∷◌, ◌++◌, length, refl, ap, sym, subst, ◌∙◌, arith, Option, Some, None, IfSome, ◌⊎◌, inl, inr, lit≤}
use Rattle.std.proofs.Math.Nat.{mul-le-mul, mul-le-mul_left}
use Rattle.std.proofs.lemmas.Bool.{and_parts, and_from, leb-true, eqb-true, cases_lt}
use Rattle.ge_model_text.specs.Value.{is_digit, AreDigits, number_with_digits, unit_at, millionths_from, factor, scaled}
use Rattle.ge_model_text.specs.Reading.{amount_cut, limit, appended}

-- digits

pub AreDigits-append : (text : List ℕ) (b : ℕ) → AreDigits text → is_digit b ≡ true → AreDigits (text ++ b ∷ [])
AreDigits-append [] b digits digit = and_from (is_digit b) true digit refl
AreDigits-append (c ∷ text) b digits digit =
    let parts = and_parts (is_digit c) _ digits in
    and_from (is_digit c) _ parts.0 (AreDigits-append text b parts.1 digit)

pub digit_at_most : (b : ℕ) → is_digit b ≡ true → b - 48 ≤ 9
digit_at_most b digit =
    let parts = and_parts (nat_le 48 b) (nat_le b 57) digit in
    let low : 48 ≤ b = leb-true 48 b parts.0 in
    let high : b ≤ 57 = leb-true b 57 parts.1 in
    omega arith

-- numbers

pub number_after-append : (n : ℕ) (text : List ℕ) (b : ℕ) → number_with_digits n (text ++ b ∷ []) ≡ 10 * number_with_digits n text + (b - 48)
number_after-append n [] b = refl
number_after-append n (c ∷ text) b = number_after-append (10 * n + (c - 48)) text b

pub cut-appended : (n b : ℕ) → appended (amount_cut n) b ≡ amount_cut (10 * n + (b - 48))
cut-appended n b = omega arith

-- a number that is cut after each digit
abbrev pub cut_after : ℕ → List ℕ → ℕ
cut_after n [] = n
cut_after n (b ∷ digits) = cut_after (appended n b) digits

pub cut_after-cut : (n : ℕ) (digits : List ℕ) → cut_after (amount_cut n) digits ≡ amount_cut (number_with_digits n digits)
cut_after-cut n [] = refl
cut_after-cut n (b ∷ digits) = ap (λ m. cut_after m digits) (cut-appended n b) ∙ cut_after-cut (10 * n + (b - 48)) digits

-- the digits behind a point

pub unit_at_most : (place : ℕ) → unit_at place ≤ 100000
unit_at_most zero = omega arith
unit_at_most (suc zero) = omega arith
unit_at_most (suc (suc zero)) = omega arith
unit_at_most (suc (suc (suc zero))) = omega arith
unit_at_most (suc (suc (suc (suc zero)))) = omega arith
unit_at_most (suc (suc (suc (suc (suc zero))))) = omega arith
unit_at_most (suc (suc (suc (suc (suc (suc place)))))) = omega arith

pub digit_counts : (b place : ℕ) → is_digit b ≡ true → (b - 48) * unit_at place ≤ 900000
digit_counts b place digit =
    let most : (b - 48) * unit_at place ≤ 9 * 100000 = mul-le-mul (digit_at_most b digit) (unit_at_most place) in
    omega arith

pub part_at_most : (place : ℕ) (digits : List ℕ) → AreDigits digits → millionths_from place digits ≤ 900000 * length digits
part_at_most place [] digits = omega arith
part_at_most place (b ∷ rest) digits =
    let parts = and_parts (is_digit b) _ digits in
    let here : (b - 48) * unit_at place ≤ 900000 = digit_counts b place parts.0 in
    let later : millionths_from (place + 1) rest ≤ 900000 * length rest = part_at_most (place + 1) rest parts.1 in
    omega arith

pub millionths_from-append : (place : ℕ) (digits : List ℕ) (b : ℕ) → millionths_from place (digits ++ b ∷ []) ≡ millionths_from place digits + (b - 48) * unit_at (place + length digits)
millionths_from-append place [] b =
    let here : place ≡ place + length {A = ℕ} [] = omega arith in
    let alone : (b - 48) * unit_at place + 0 ≡ 0 + (b - 48) * unit_at place = omega arith in
    alone ∙ ap (λ p. 0 + (b - 48) * unit_at p) here
millionths_from-append place (c ∷ digits) b =
    let later : millionths_from (place + 1) (digits ++ b ∷ []) ≡ millionths_from (place + 1) digits + (b - 48) * unit_at (place + 1 + length digits) = millionths_from-append (place + 1) digits b in
    let same : place + 1 + length digits ≡ place + suc (length digits) = omega arith in
    let there : millionths_from (place + 1) (digits ++ b ∷ []) ≡ millionths_from (place + 1) digits + (b - 48) * unit_at (place + suc (length digits)) = rw same at later in
    omega arith

-- one more digit behind a point isn't cut
pub part_uncut : (millionths count b : ℕ) → millionths ≤ 900000 * count → count ≤ 6 → is_digit b ≡ true
    → amount_cut (millionths + (b - 48) * unit_at count) ≡ millionths + (b - 48) * unit_at count
part_uncut millionths count b low few digit =
    let here : (b - 48) * unit_at count ≤ 900000 = digit_counts b count digit in
    omega arith

-- multiples

-- a letter that multiplies: it stands for nothing else behind a number
pub record IsLetter (b times : ℕ) : Type 0 where
  pub no_digit : is_digit b ≡ false
  pub no_colon : (b == 58) ≡ false
  pub no_point : (b == 46) ≡ false
  pub grows : 1 ≤ times

letter_by : (t : Bool) (b times : ℕ) (others : Option ℕ) → (t ≡ true → IsLetter b times) → IfSome others (IsLetter b) → IfSome (cond t (Some times) others) (IsLetter b)
letter_by true b times others here later = here refl
letter_by false b times others here later = later

letter_at : (b code times : ℕ) → IsLetter code times → (b == code) ≡ true → IsLetter b times
letter_at b code times letter same = subst (λ (c : ℕ). IsLetter c times) (sym (eqb-true b code same)) letter

pub letters : (b : ℕ) → IfSome (factor b) (IsLetter b)
letters b =
    letter_by (b == 107) b 1000 _ (letter_at b 107 1000 (record { no_digit = refl; no_colon = refl; no_point = refl; grows = lit≤ tt }))
    (letter_by (b == 75) b 1024 _ (letter_at b 75 1024 (record { no_digit = refl; no_colon = refl; no_point = refl; grows = lit≤ tt }))
    (letter_by (b == 109) b 1000000 _ (letter_at b 109 1000000 (record { no_digit = refl; no_colon = refl; no_point = refl; grows = lit≤ tt }))
    (letter_by (b == 77) b 1048576 _ (letter_at b 77 1048576 (record { no_digit = refl; no_colon = refl; no_point = refl; grows = lit≤ tt }))
    (letter_by (b == 103) b 1000000000 _ (letter_at b 103 1000000000 (record { no_digit = refl; no_colon = refl; no_point = refl; grows = lit≤ tt }))
    (letter_by (b == 71) b 1073741824 None (letter_at b 71 1073741824 (record { no_digit = refl; no_colon = refl; no_point = refl; grows = lit≤ tt }))
    tt)))))

-- a number that is cut before it is multiplied is cut to the same amount

scaled_grows : (millionths times : ℕ) → 1 ≤ times → 1000000 * limit ≤ millionths → limit ≤ scaled millionths times
scaled_grows millionths times grows large =
    let more : millionths * 1 ≤ millionths * times = mul-le-mul_left millionths grows in
    omega arith

scaled_by : (n millionths times : ℕ) → 1 ≤ times → (n ≤ limit) ⊎ (limit ≤ n) → amount_cut (scaled (1000000 * amount_cut n + millionths) times) ≡ amount_cut (scaled (1000000 * n + millionths) times)
scaled_by n millionths times grows (inl small) =
    let same : amount_cut n ≡ n = omega arith in
    ap (λ m. amount_cut (scaled (1000000 * m + millionths) times)) same
scaled_by n millionths times grows (inr large) =
    let before : limit ≤ scaled (1000000 * amount_cut n + millionths) times = scaled_grows (1000000 * amount_cut n + millionths) times grows (omega arith) in
    let after : limit ≤ scaled (1000000 * n + millionths) times = scaled_grows (1000000 * n + millionths) times grows (omega arith) in
    omega arith

within_or_past : (n : ℕ) → (n < limit) ⊎ (limit ≤ n) → (n ≤ limit) ⊎ (limit ≤ n)
within_or_past n (inl below) = inl (omega arith)
within_or_past n (inr above) = inr above

pub cut-scaled : (n millionths times : ℕ) → 1 ≤ times → amount_cut (scaled (1000000 * amount_cut n + millionths) times) ≡ amount_cut (scaled (1000000 * n + millionths) times)
cut-scaled n millionths times grows = scaled_by n millionths times grows (within_or_past n (cases_lt n limit))
