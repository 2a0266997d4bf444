-- Numbers that are printed are read to themselves.
use Rattle.std.proofs.Common.{◌≡◌, ℕ, ◌+◌, ◌-◌, ◌*◌, ◌^◌, ◌<◌, ◌&&◌, Bool, true, false, if◌then◌else◌, nat_eq, List, [], ◌∷◌, Option, Some, None, Result, Ok, Err, decimal, refl, sym, ap, ◌∙◌, append-nil, ◌++◌, arith}
use Rattle.std.specs.Int.{is_in_range}
use Rattle.std.specs.List.{list_all}
use Rattle.std.proofs.lemmas.Bool.{and_parts, cond-true, eqb-true, lt-ltb, true≢false}
use Rattle.ge_base.specs.declared.refusal.Refusal.TheVariants.{BadValue}
use Rattle.ge_collections.specs.Keyed.{text_eq}
use Rattle.ge_model_rows.specs.ValueRows.{Value, Kind}
use Rattle.ge_model_text.specs.declared.Form.{Form}
use Rattle.ge_model_text.specs.declared.Form.TheVariants as form
use Rattle.ge_model_text.specs.declared.Progress.{Progress}
use Rattle.ge_model_text.specs.declared.Progress.TheVariants.{Whole}
use Rattle.ge_model_text.specs.declared.ValueFault.{ValueFault}
use Rattle.ge_model_text.specs.declared.ValueFault.TheVariants.{Digit, TooLarge}
use Rattle.ge_model_text.specs.Reading.{amount_cut, appended, bounded, if_occurs, reading_from, reading}
use Rattle.ge_model_text.specs.Value.{is_digit, number_with_digits, number}
use Rattle.ge_model_rows.specs.Pieces.{is_digits}
use Rattle.ge_model_rows.specs.Values.{amount_in, read_amount}
use Rattle.ge_model_rows.proofs.Digits.{decimal_digits, decimal_number, all_digits}
use Rattle.ge_model_config.specs.Cited.{Read, amount_within, number_read}
use Rattle.ge_model_config.proofs.ReadBackTexts.{is_shown_byte, is_shown, all_weaker}

-- ---- digits

pub cut_twice : (n b : ℕ) → appended (amount_cut n) b ≡ amount_cut (10 * n + (b - 48))
cut_twice n b = omega arith

pub within_limit : (n : ℕ) → n < 2 ^ 48 → bounded (amount_cut n) ≡ Ok n
within_limit n small = ap bounded (let e : amount_cut n ≡ n = omega arith in e) ∙ ap (λ z. if z then Ok n else Err TooLarge) (lt-ltb n (2 ^ 48) small)

-- ---- digits in front of a text

-- what is read of a text of a form from a place on, wherever that is
abbrev pub GoesOn : Form → Progress → List ℕ → Result ℕ ValueFault → Type 0
GoesOn form progress text answer = (place : ℕ) × (answer ≡ reading_from form progress place text)

-- whole numbers
pub whole_on : (sort : Form) (n place : ℕ) (digits rest : List ℕ) → list_all is_digit digits ≡ true
    → GoesOn sort (Whole (amount_cut (number_with_digits n digits))) rest (reading_from sort (Whole (amount_cut n)) place (digits ++ rest))
whole_on sort n place [] rest all = (place, refl)
whole_on sort n place (b ∷ digits) rest all =
    let parts = and_parts (is_digit b) (list_all is_digit digits) all in
    let more = whole_on sort (10 * n + (b - 48)) (place + 1) digits rest parts.1 in (
      more.0,
      ap (λ (z : Option Progress). elim (if_occurs sort z) as (λ x. Result ℕ ValueFault) [ None ↦ Err (Digit place) | Some after ↦ reading_from sort after (place + 1) (digits ++ rest) ]) (cond-true (is_digit b) _ _ parts.0)
          ∙ ap (λ z. reading_from sort (Whole z) (place + 1) (digits ++ rest)) (cut_twice n b)
          ∙ more.1,
    )

-- a decimal in front of a text
pub decimal_on : (sort : Form) (n : ℕ) (rest : List ℕ) → n < 2 ^ 64 → GoesOn sort (Whole (amount_cut n)) rest (reading sort (decimal n ++ rest))
decimal_on sort n rest small = by (decimal n) (decimal_digits n) (decimal_number n small)
  where
    by : (digits : List ℕ) → is_digits digits ≡ true → number digits ≡ n → GoesOn sort (Whole (amount_cut n)) rest (reading sort (digits ++ rest))
    by [] none worth = absurd (let f : false ≡ true = none in cc)
    by (b ∷ digits) some worth =
        let parts = and_parts (is_digit b) (list_all is_digit digits) (all_digits (b ∷ digits) some) in
        let more = whole_on sort (10 * 0 + (b - 48)) 1 digits rest parts.1 in (
          more.0,
          ap (λ (z : Option Progress). elim (if_occurs sort z) as (λ x. Result ℕ ValueFault) [ None ↦ Err (Digit 0) | Some after ↦ reading_from sort after 1 (digits ++ rest) ]) (cond-true (is_digit b) _ _ parts.0)
              ∙ more.1
              ∙ ap (λ z. reading_from sort (Whole (amount_cut z)) more.0 rest) worth,
        )

-- a decimal alone
pub int_back : (n : ℕ) → n < 2 ^ 48 → reading form.Int (decimal n) ≡ Ok n
int_back n small = ap (reading form.Int) (sym (append-nil (decimal n))) ∙ (decimal_on form.Int n [] (omega arith)).1 ∙ within_limit n small

-- ---- amounts

-- a decimal below 2^48 is read to its number
pub number_back : (low high n : ℕ) → n < 2 ^ 48 → is_in_range low high n ≡ true → number_read Kind.Int low high (decimal n) ≡ (n, [])
number_back low high n small fits =
    ap (λ z. amount_within low high (read_amount z))
    (int_back n small)
    ∙ ap (λ z. if z then (n, []) else (low, BadValue ∷ [])) fits

-- without a refusal, an amount that was read is in its range
abbrev Fits : ℕ → ℕ → Read ℕ → Type 0
Fits low high amount = amount.1 ≡ [] → is_in_range low high amount.0 ≡ true

pub in_range : (low high : ℕ) (value : Option Value) → Fits low high (amount_within low high value)
in_range low high None none = absurd (let h : BadValue ∷ [] ≡ [] = none in cc)
in_range low high (Some value) none = by (is_in_range low high (amount_in value)) refl none
  where
    by : (fits : Bool) → is_in_range low high (amount_in value) ≡ fits → Fits low high (if fits then (amount_in value, []) else (low, BadValue ∷ []))
    by true is h = is
    by false is h = absurd (let g : BadValue ∷ [] ≡ [] = h in cc)

-- ---- texts

digit_shown : (b : ℕ) → is_digit b ≡ true → is_shown_byte b ≡ true
digit_shown b h = grind arith

digits_shown : (digits : List ℕ) → is_digits digits ≡ true → is_shown digits ≡ true
digits_shown [] none = absurd (true≢false (sym none))
digits_shown (b ∷ digits) some = all_weaker is_digit is_shown_byte digit_shown (b ∷ digits) (all_digits (b ∷ digits) some)

-- a decimal prints and has no blank
pub decimal_shown : (n : ℕ) → is_shown (decimal n) ≡ true
decimal_shown n = digits_shown (decimal n) (decimal_digits n)

digit_not : (b c : ℕ) → is_digit b ≡ true → is_digit c ≡ false → nat_eq b c ≡ false
digit_not b c h g = by (nat_eq b c) refl
  where
    by : (same : Bool) → nat_eq b c ≡ same → same ≡ false
    by true is = absurd (true≢false (sym h ∙ ap is_digit (eqb-true b c is) ∙ g))
    by false is = refl

digits_are_no_word : (digits : List ℕ) (c : ℕ) (word : List ℕ) → is_digits digits ≡ true → is_digit c ≡ false → text_eq digits (c ∷ word) ≡ false
digits_are_no_word [] c word none other = refl
digits_are_no_word (b ∷ digits) c word some other =
    ap (λ z. z && text_eq digits word) (digit_not b c (and_parts (is_digit b) (list_all is_digit digits) (all_digits (b ∷ digits) some)).0 other)

-- a decimal is no word that begins with another byte
pub decimal_no_word : (n c : ℕ) (word : List ℕ) → is_digit c ≡ false → text_eq (decimal n) (c ∷ word) ≡ false
decimal_no_word n c word other = digits_are_no_word (decimal n) c word (decimal_digits n) other
