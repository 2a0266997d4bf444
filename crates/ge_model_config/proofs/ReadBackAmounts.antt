-- Amounts that are printed as a time, as bytes or with six decimals are read to themselves.
use Rattle.std.proofs.Common.{◌≡◌, ℕ, ◌+◌, ◌-◌, ◌*◌, ◌/◌, ◌%◌, ◌^◌, ◌≤◌, ◌<◌, true, nat_lt, List, [], ◌∷◌, ◌++◌, map, Option, Some, None, Result, Ok, Err, decimal, codes, refl, sym, ap, ◌∙◌, arith, append_assoc, append-nil, mul-le-mul}
use Rattle.std.specs.List.{list_all}
use Rattle.std.proofs.Math.Nat.{div-div-eq-div-mul}
use Rattle.std.proofs.lemmas.Bool.{and_parts, cond-true}
use Rattle.std.proofs.lemmas.Nat.{div-add-mod'}
use Rattle.ge_model_rows.specs.ValueRows.{million}
use Rattle.ge_model_text.specs.declared.Form.TheVariants as form
use Rattle.ge_model_text.specs.declared.Progress.{Progress}
use Rattle.ge_model_text.specs.declared.Progress.TheVariants.{Whole, Minutes, Seconds, Part}
use Rattle.ge_model_text.specs.declared.ValueFault.{ValueFault}
use Rattle.ge_model_text.specs.declared.ValueFault.TheVariants.{Digit}
use Rattle.ge_model_text.specs.Reading.{amount_cut, bounded, if_occurs, reading_from, reading}
use Rattle.ge_model_text.specs.Value.{is_digit, unit_at, number_with_digits, number}
use Rattle.ge_model_rows.specs.Values.{digit_at, fixed_text, clock_text}
use Rattle.ge_model_rows.proofs.Digits.{decimal_digits, decimal_number, all_digits}
use Rattle.ge_model_config.proofs.ReadBackNumbers.{GoesOn, decimal_on, cut_twice, within_limit}

-- ---- digits behind a colon

-- minutes and seconds behind a colon
minutes_on : (hours n place : ℕ) (digits rest : List ℕ) → list_all is_digit digits ≡ true
    → GoesOn form.Time (Minutes hours (amount_cut (number_with_digits n digits))) rest (reading_from form.Time (Minutes hours (amount_cut n)) place (digits ++ rest))
minutes_on hours n place [] rest all = (place, refl)
minutes_on hours n place (b ∷ digits) rest all =
    let parts = and_parts (is_digit b) (list_all is_digit digits) all in
    let more = minutes_on hours (10 * n + (b - 48)) (place + 1) digits rest parts.1 in (
      more.0,
      ap (λ (z : Option Progress). elim (if_occurs form.Time z) as (λ x. Result ℕ ValueFault) [ None ↦ Err (Digit place) | Some after ↦ reading_from form.Time after (place + 1) (digits ++ rest) ]) (cond-true (is_digit b) _ _ parts.0)
          ∙ ap (λ z. reading_from form.Time (Minutes hours z) (place + 1) (digits ++ rest)) (cut_twice n b)
          ∙ more.1,
    )

seconds_on : (hours minutes n place : ℕ) (digits : List ℕ) → list_all is_digit digits ≡ true
    → reading_from form.Time (Seconds hours minutes (amount_cut n)) place digits ≡ bounded (amount_cut (3600 * hours + 60 * minutes + amount_cut (number_with_digits n digits)))
seconds_on hours minutes n place [] all = refl
seconds_on hours minutes n place (b ∷ digits) all =
    let parts = and_parts (is_digit b) (list_all is_digit digits) all in
    ap (λ (z : Option Progress). elim (if_occurs form.Time z) as (λ x. Result ℕ ValueFault) [ None ↦ Err (Digit place) | Some after ↦ reading_from form.Time after (place + 1) digits ]) (cond-true (is_digit b) _ _ parts.0)
    ∙ ap (λ z. reading_from form.Time (Seconds hours minutes z) (place + 1) digits) (cut_twice n b)
    ∙ seconds_on hours minutes (10 * n + (b - 48)) (place + 1) digits parts.1

digits_of : (n : ℕ) → list_all is_digit (decimal n) ≡ true
digits_of n = all_digits (decimal n) (decimal_digits n)

-- ---- times

clock_worth : (n : ℕ) → n < 2 ^ 48 → 3600 * amount_cut (n / 3600) + 60 * amount_cut (n / 60 % 60) + amount_cut (n % 60) ≡ n
clock_worth n small =
    let hours : n / 60 / 60 ≡ n / 3600 = div-div-eq-div-mul n 60 60 in
    let minutes = div-add-mod' (n / 60) 60 in
    let seconds = div-add-mod' n 60 in
    omega arith

-- hours, minutes and seconds
pub clock_back : (n : ℕ) → n < 2 ^ 48 → reading form.Time (clock_text n) ≡ Ok n
clock_back n small =
    ap (reading form.Time) (append_assoc (decimal (n / 3600) ++ codes ":" ++ decimal (n / 60 % 60)) (codes ":") (decimal (n % 60)) ∙ append_assoc (decimal (n / 3600) ++ codes ":") (decimal (n / 60 % 60)) seconds ∙ append_assoc (decimal (n / 3600)) (codes ":") (decimal (n / 60 % 60) ++ seconds))
    ∙ hours.1
    ∙ minutes.1
    ∙ ap (λ z. reading_from form.Time (Minutes (amount_cut (n / 3600)) (amount_cut z)) minutes.0 seconds) (decimal_number (n / 60 % 60) (omega arith))
    ∙ seconds_on (amount_cut (n / 3600)) (amount_cut (n / 60 % 60)) 0 (minutes.0 + 1) (decimal (n % 60)) (digits_of (n % 60))
    ∙ ap (λ z. bounded (amount_cut (3600 * amount_cut (n / 3600) + 60 * amount_cut (n / 60 % 60) + amount_cut z))) (decimal_number (n % 60) (omega arith))
    ∙ ap (λ z. bounded (amount_cut z)) (clock_worth n small)
    ∙ within_limit n small
  where
    seconds : List ℕ
    seconds = codes ":" ++ decimal (n % 60)

    hours : GoesOn form.Time (Whole (amount_cut (n / 3600))) (codes ":" ++ (decimal (n / 60 % 60) ++ seconds)) (reading form.Time (decimal (n / 3600) ++ (codes ":" ++ (decimal (n / 60 % 60) ++ seconds))))
    hours = decimal_on form.Time (n / 3600) (codes ":" ++ (decimal (n / 60 % 60) ++ seconds)) (omega arith)

    minutes : GoesOn form.Time (Minutes (amount_cut (n / 3600)) (amount_cut (number (decimal (n / 60 % 60))))) seconds
        (reading_from form.Time (Minutes (amount_cut (n / 3600)) (amount_cut 0)) (hours.0 + 1) (decimal (n / 60 % 60) ++ seconds))
    minutes = minutes_on (amount_cut (n / 3600)) 0 (hours.0 + 1) (decimal (n / 60 % 60)) seconds (digits_of (n / 60 % 60))

-- ---- bytes

-- a decimal as an amount of bytes
pub bytes_back : (n : ℕ) → n < 2 ^ 48 → reading form.Memory (decimal n) ≡ Ok n
bytes_back n small = ap (reading form.Memory) (sym (append-nil (decimal n))) ∙ whole.1 ∙ within_limit n small
  where
    whole : GoesOn form.Memory (Whole (amount_cut n)) [] (reading form.Memory (decimal n ++ []))
    whole = decimal_on form.Memory n [] (omega arith)

-- ---- six decimals

-- a digit behind the point
part_on : (whole millionths count place b : ℕ) (rest : List ℕ) → is_digit b ≡ true → nat_lt count 6 ≡ true
    → reading_from form.Fixed (Part whole millionths count) place (b ∷ rest) ≡ reading_from form.Fixed (Part whole (amount_cut (millionths + (b - 48) * unit_at count)) (count + 1)) (place + 1) rest
part_on whole millionths count place b rest digit few =
    ap (λ (z : Option Progress). elim (if_occurs form.Fixed z) as (λ x. Result ℕ ValueFault) [ None ↦ Err (Digit place) | Some after ↦ reading_from form.Fixed after (place + 1) rest ])
    (cond-true (is_digit b) _ _ digit ∙ cond-true (nat_lt count 6) _ _ few)

is_a_digit : (x : ℕ) → x < 10 → is_digit (48 + x) ≡ true
is_a_digit x small = grind arith

-- the digit at a unit
digit_on : (n unit whole millionths count place : ℕ) (rest : List ℕ) → nat_lt count 6 ≡ true → unit_at count ≡ unit → unit ≤ 100000 → millionths ≤ 1000000
    → reading_from form.Fixed (Part whole millionths count) place (digit_at n unit ∷ rest) ≡ reading_from form.Fixed (Part whole (millionths + n / unit % 10 * unit) (count + 1)) (place + 1) rest
digit_on n unit whole millionths count place rest few same low little =
    part_on whole millionths count place (digit_at n unit) rest (is_a_digit (n / unit % 10) small) few
    ∙ ap (λ z. reading_from form.Fixed (Part whole (amount_cut (millionths + (digit_at n unit - 48) * z)) (count + 1)) (place + 1) rest) same
    ∙ ap (λ z. reading_from form.Fixed (Part whole (amount_cut (millionths + z * unit)) (count + 1)) (place + 1) rest) worth
    ∙ ap (λ z. reading_from form.Fixed (Part whole z (count + 1)) (place + 1) rest) uncut
  where
    small : n / unit % 10 < 10
    small = omega arith

    worth : digit_at n unit - 48 ≡ n / unit % 10
    worth = omega arith

    bound : n / unit % 10 * unit ≤ 9 * 100000
    bound = mul-le-mul (let s = small in let most : n / unit % 10 ≤ 9 = omega arith in most) low

    uncut : amount_cut (millionths + n / unit % 10 * unit) ≡ millionths + n / unit % 10 * unit
    uncut = let b = bound in omega arith

tenths : (n unit : ℕ) → n / unit ≡ n / (unit * 10) * 10 + n / unit % 10
tenths n unit = sym (ap (λ z. z * 10 + n / unit % 10) (sym (div-div-eq-div-mul n unit 10)) ∙ div-add-mod' (n / unit) 10)

fixed_worth : (n : ℕ) → n < 2 ^ 48
    → amount_cut (1000000 * amount_cut (n / million) + (0 + n / 100000 % 10 * 100000 + n / 10000 % 10 * 10000 + n / 1000 % 10 * 1000 + n / 100 % 10 * 100 + n / 10 % 10 * 10 + n / 1 % 10 * 1)) ≡ amount_cut n
fixed_worth n small =
    let one = tenths n 1 in
    let two = tenths n 10 in
    let three = tenths n 100 in
    let four = tenths n 1000 in
    let five = tenths n 10000 in
    let six = tenths n 100000 in
    let same : n / 1 ≡ n = omega arith in
    ap amount_cut (omega arith)

-- a number with six decimals
pub fixed_back : (n : ℕ) → n < 2 ^ 48 → reading form.Fixed (fixed_text n) ≡ Ok n
fixed_back n small =
    ap (reading form.Fixed) (append_assoc (decimal (n / million)) (codes ".") digits)
    ∙ whole.1
    ∙ digit_on n 100000 w 0 0 (whole.0 + 1) (map (digit_at n) (10000 ∷ 1000 ∷ 100 ∷ 10 ∷ 1 ∷ [])) refl refl (omega arith) (omega arith)
    ∙ digit_on n 10000 w m1 1 (whole.0 + 1 + 1) (map (digit_at n) (1000 ∷ 100 ∷ 10 ∷ 1 ∷ [])) refl refl (omega arith) (omega arith)
    ∙ digit_on n 1000 w m2 2 (whole.0 + 1 + 1 + 1) (map (digit_at n) (100 ∷ 10 ∷ 1 ∷ [])) refl refl (omega arith) (omega arith)
    ∙ digit_on n 100 w m3 3 (whole.0 + 1 + 1 + 1 + 1) (map (digit_at n) (10 ∷ 1 ∷ [])) refl refl (omega arith) (omega arith)
    ∙ digit_on n 10 w m4 4 (whole.0 + 1 + 1 + 1 + 1 + 1) (map (digit_at n) (1 ∷ [])) refl refl (omega arith) (omega arith)
    ∙ digit_on n 1 w m5 5 (whole.0 + 1 + 1 + 1 + 1 + 1 + 1) (map (digit_at n) ([])) refl refl (omega arith) (omega arith)
    ∙ ap bounded (fixed_worth n small)
    ∙ within_limit n small
  where
    w : ℕ
    w = amount_cut (n / million)

    digits : List ℕ
    digits = map (digit_at n) (100000 ∷ 10000 ∷ 1000 ∷ 100 ∷ 10 ∷ 1 ∷ [])

    whole : GoesOn form.Fixed (Whole w) (codes "." ++ digits) (reading form.Fixed (decimal (n / million) ++ (codes "." ++ digits)))
    whole = decimal_on form.Fixed (n / million) (codes "." ++ digits) (omega arith)

    m1 : ℕ
    m1 = 0 + n / 100000 % 10 * 100000

    m2 : ℕ
    m2 = m1 + n / 10000 % 10 * 10000

    m3 : ℕ
    m3 = m2 + n / 1000 % 10 * 1000

    m4 : ℕ
    m4 = m3 + n / 100 % 10 * 100

    m5 : ℕ
    m5 = m4 + n / 10 % 10 * 10
