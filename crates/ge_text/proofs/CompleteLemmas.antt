-- The machine reads each text of the grammar, to its amount.
use Rattle.std.proofs.Common.{◌≡◌, ℕ, ◌+◌, ◌*◌, ◌<◌, ◌≤◌, false, ◌==◌, nat_lt, List, [], ◌∷◌, length, refl, ap, sym, subst, ◌∙◌, arith, append-nil, Option, Some, None, Ok, Err, IfSome, ◌⊎◌, inl, inr, lit≤}
use Rattle.std.specs.Option.{option_map}
use Rattle.std.proofs.lemmas.Bool.{le-ltb, ne_eqb, cond-true, cond-false, cases_lt}
use Rattle.ge_model_text.specs.declared.Form.{Form}
use Rattle.ge_model_text.specs.declared.Form.TheVariants.{Int, Time, Memory, Fixed}
use Rattle.ge_model_text.specs.declared.Progress.{Progress}
use Rattle.ge_model_text.specs.declared.Progress.TheVariants.{Start, Whole, Seconds, Part, Multiple, Letters}
use Rattle.ge_model_text.specs.declared.ValueFault.TheVariants.{TooLarge}
use Rattle.ge_model_text.specs.Value.{is_digit, IsInt, IsFixed, WithoutFraction, WithFraction, IsTime, InSeconds, ByTheClock, WithoutEnd, IsMemory, InBytes, InMultiples, WithoutLimit, IsWorth, number, millionths_from, factor, scaled}
use Rattle.ge_model_text.specs.Reading.{amount_cut, limit, step, if_occurs, amount_done, answer, bounded, reading_from, multiple, occurs}
use Rattle.ge_text.proofs.NumberLemmas.{IsLetter, letters, cut-scaled}
use Rattle.ge_text.proofs.ReadLemmas.{whole_scaled}
use Rattle.ge_text.proofs.RunLemmas.{run, run-one, run-append, reading_from-append, run_start, run_clock, run_part, HasFractions}

-- a number with or without a fraction is read
record IsReadAs (after : Progress) (fixed : ℕ) : Type 0 where
  as_fixed : amount_done Fixed after ≡ Some (amount_cut fixed)
  as_memory : amount_done Memory after ≡ Some (amount_cut (scaled fixed 1))
  by_letter : (b times : ℕ) → factor b ≡ Some times → IsLetter b times → step after b ≡ Some (Multiple (amount_cut (scaled fixed times)))

letter_of : (whole millionths b times fixed : ℕ) → factor b ≡ Some times → amount_cut (scaled (1000000 * whole + millionths) times) ≡ amount_cut (scaled fixed times)
    → multiple whole millionths b ≡ Some (Multiple (amount_cut (scaled fixed times)))
letter_of whole millionths b times fixed is same =
    ap (λ o. option_map (λ t. Multiple (amount_cut (scaled (1000000 * whole + millionths) t))) o) is ∙ ap (λ n. Some (Multiple n)) same

fixed_amount : (n : ℕ) → amount_cut (1000000 * amount_cut n) ≡ amount_cut (1000000 * n)
fixed_amount n = omega arith

memory_amount : (n : ℕ) → amount_cut n ≡ amount_cut (scaled (1000000 * n) 1)
memory_amount n = omega arith

whole_is_read : (text : List ℕ) → IsReadAs (Whole (amount_cut (number text))) (1000000 * number text)
whole_is_read text = record {
  as_fixed = ap (λ n. Some n) (fixed_amount (number text));
  as_memory = ap (λ n. Some n) (memory_amount (number text));
  by_letter = λ b times is letter.
      cond-false (is_digit b) _ _ letter.no_digit
      ∙ (cond-false (b == 58) _ _ letter.no_colon
      ∙ (cond-false (b == 46) _ _ letter.no_point
      ∙ letter_of (amount_cut (number text)) 0 b times (1000000 * number text) is (whole_scaled text (amount_cut (number text)) times refl letter.grows)));
}

fraction_amount : (n m : ℕ) → amount_cut (1000000 * amount_cut n + m) ≡ amount_cut (1000000 * n + m)
fraction_amount n m = omega arith

part_is_read : (whole part : List ℕ) → 0 < length part → IsReadAs (Part (amount_cut (number whole)) (millionths_from 0 part) (length part)) (1000000 * number whole + millionths_from 0 part)
part_is_read whole part some =
    let n : ℕ = number whole in
    let m : ℕ = millionths_from 0 part in
    let counted : (length part == 0) ≡ false = ne_eqb (length part) 0 (λ none. omega arith) in
    record {
      as_fixed = cond-false (length part == 0) _ _ counted ∙ ap (λ a. Some a) (fraction_amount n m);
      as_memory = cond-false (length part == 0) _ _ counted ∙ ap (λ a. Some a) (cut-scaled n m 1 (lit≤ tt));
      by_letter = λ b times is letter.
          cond-false (is_digit b) _ _ letter.no_digit
          ∙ (cond-false (length part == 0) _ _ counted
          ∙ letter_of (amount_cut n) m b times (1000000 * n + m) is (cut-scaled n m times letter.grows));
    }

same_end : (whole m n j k : ℕ) → m ≡ n → j ≡ k → Some (Part whole m j) ≡ Some (Part whole n k)
same_end whole m n j k p q = cc

letter_is : (b times : ℕ) → factor b ≡ Some times → IsLetter b times
letter_is b times is = subst (λ (o : Option ℕ). IfSome o (IsLetter b)) is (letters b)

fixed_run : (form : Form) (text : List ℕ) (fixed : ℕ) → HasFractions form → IsFixed text fixed
    → (after : Progress) × (run form Start text ≡ Some after) × IsReadAs after fixed
fixed_run form text fixed has (WithoutFraction digits value) =
    (Whole (amount_cut (number text)), run_start form text digits, rw value (whole_is_read text))
fixed_run form text fixed has (WithFraction is) =
    let n : ℕ = amount_cut (number is.whole) in
    let some : 0 < length is.part = is.part_digits.some in
    let short : length is.part ≤ 6 = is.short in (
      Part n (millionths_from 0 is.part) (length is.part),
      ap (λ bytes. run form Start bytes) is.spelled
          ∙ (run-append form Start (Whole n) is.whole (46 ∷ is.part) (run_start form is.whole is.whole_digits)
          ∙ (run-one form (Whole n) (Part n 0 0) 46 is.part (cond-true (occurs (Part n 0 0) form) (Some (Part n 0 0)) None (has n 0 0))
          ∙ (run_part form n 0 0 is.part has is.part_digits.digits (omega arith) (omega arith)
          ∙ same_end n (0 + millionths_from 0 is.part) (millionths_from 0 is.part) (0 + length is.part) (length is.part) (omega arith) (omega arith)))),
      rw is.value (part_is_read is.whole is.part some),
    )

memory_fractions : HasFractions Memory
memory_fractions whole millionths count = refl

fixed_fractions : HasFractions Fixed
fixed_fractions whole millionths count = refl

-- the machine reads the text to its amount
abbrev Reads : Form → List ℕ → ℕ → Type 0
Reads form text amount = (after : Progress) × (run form Start text ≡ Some after) × (amount_done form after ≡ Some (amount_cut amount))

reads_int : (text : List ℕ) (amount : ℕ) → IsInt text amount → Reads Int text amount
reads_int text amount is = (Whole (amount_cut (number text)), run_start Int text is.digits, ap (λ n. Some (amount_cut n)) (sym is.value))

clock_amount : (h m s : ℕ) → amount_cut (3600 * amount_cut h + 60 * amount_cut m + amount_cut s) ≡ amount_cut (3600 * h + 60 * m + s)
clock_amount h m s = omega arith

reads_time : (text : List ℕ) (amount : ℕ) → IsTime text amount → Reads Time text amount
reads_time text amount (InSeconds is) = (Whole (amount_cut (number text)), run_start Time text is.digits, ap (λ n. Some (amount_cut n)) (sym is.value))
reads_time text amount (ByTheClock is) = (
  Seconds (amount_cut (number is.hours)) (amount_cut (number is.minutes)) (amount_cut (number is.rest)),
  ap (λ bytes. run Time Start bytes) is.spelled ∙ run_clock is.hours is.minutes is.rest is.hours_digits is.minutes_digits is.rest_digits,
  ap (λ n. Some n) (clock_amount (number is.hours) (number is.minutes) (number is.rest) ∙ ap amount_cut (sym is.value)),
)
reads_time text amount (WithoutEnd spelled value) =
    (Letters 8, ap (λ bytes. run Time Start bytes) spelled, ap (λ n. Some (amount_cut n)) (sym value))

reads_memory : (text : List ℕ) (amount : ℕ) → IsMemory text amount → Reads Memory text amount
reads_memory text amount (InBytes fixed is value) =
    let ran = fixed_run Memory text fixed memory_fractions is in
    (ran.0, ran.1, ran.2.as_memory ∙ ap (λ n. Some (amount_cut n)) (sym value))
reads_memory text amount (InMultiples is) =
    let ran = fixed_run Memory is.front is.millionths memory_fractions is.fixed in
    let letter = letter_is is.letter is.times is.multiplier in
    let n : ℕ = amount_cut (scaled is.millionths is.times) in (
      Multiple n,
      ap (λ bytes. run Memory Start bytes) is.spelled
          ∙ (run-append Memory Start ran.0 is.front (is.letter ∷ []) ran.1
          ∙ run-one Memory ran.0 (Multiple n) is.letter [] (ap (λ o. if_occurs Memory o) (ran.2.by_letter is.letter is.times is.multiplier letter))),
      ap (λ a. Some (amount_cut a)) (sym is.value),
    )
reads_memory text amount (WithoutLimit spelled value) =
    (Letters 8, ap (λ bytes. run Memory Start bytes) spelled, ap (λ n. Some (amount_cut n)) (sym value))

reads_fixed : (text : List ℕ) (amount : ℕ) → IsFixed text amount → Reads Fixed text amount
reads_fixed text amount is =
    let ran = fixed_run Fixed text amount fixed_fractions is in
    (ran.0, ran.1, ran.2.as_fixed)

reads : (form : Form) (text : List ℕ) (amount : ℕ) → IsWorth form text amount → Reads form text amount
reads Int text amount is = reads_int text amount is
reads Time text amount is = reads_time text amount is
reads Memory text amount is = reads_memory text amount is
reads Fixed text amount is = reads_fixed text amount is

bounded_by : (amount : ℕ) → (amount < limit) ⊎ (limit ≤ amount) → bounded (amount_cut amount) ≡ bounded amount
bounded_by amount (inl below) = let same : amount_cut amount ≡ amount = omega arith in ap bounded same
bounded_by amount (inr above) =
    cond-false (nat_lt (amount_cut amount) limit) (Ok (amount_cut amount)) (Err TooLarge) (le-ltb (amount_cut amount) limit (omega arith))
    ∙ sym (cond-false (nat_lt amount limit) (Ok amount) (Err TooLarge) (le-ltb amount limit above))

-- what a text of the grammar is answered
pub complete_from : (form : Form) (text : List ℕ) (amount : ℕ) → IsWorth form text amount → reading_from form Start 0 text ≡ bounded amount
complete_from form text amount is =
    let read = reads form text amount is in
    ap (λ bytes. reading_from form Start 0 bytes) (sym (append-nil text))
    ∙ (reading_from-append form Start read.0 0 text [] read.1
    ∙ (ap (λ o. answer (0 + length text) o) read.2 ∙ bounded_by amount (cases_lt amount limit)))
