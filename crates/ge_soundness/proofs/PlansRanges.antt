-- Ranges as they are read, and their sets: these are in the form, and have the numbers of the range.
use Rattle.std.proofs.Common.{◌≡◌, ℕ, ◌+◌, ◌-◌, ◌^◌, ◌≤◌, ◌<◌, ◌&&◌, Bool, true, false, if◌then◌else◌, min, nat_lt, nat_le, List, [], ◌∷◌, Option, Some, None, option_and_then, codes, refl, ap, ◌∙◌, arith}
use Rattle.std.specs.Prelude.{IfSome}
use Rattle.ge_model_rows.specs.TaskRows.{TaskSpan, is_form}
use Rattle.ge_model_rows.specs.Pieces.{before_byte, behind_byte, has_byte}
use Rattle.ge_model_rows.specs.Spans.{span_of, in_span, stretch}
use Rattle.ge_model_rows.specs.Sets.{has_number}
use Rattle.ge_model_rows.specs.Ranges.{range_from, digits_number, range_of_texts, range_up_to, range_of, range_set}
use Rattle.ge_model_rows.proofs.Steps.{raw}
use Rattle.ge_model_rows.proofs.Runs.{made_end}
use Rattle.ge_model_rows.proofs.Cuts.{stretched, stretch_numbers, floor}

-- a range: its first number and its step are at least 1, and its last number isn't below the first
pub record IsRange (range : TaskSpan) : Type 0 where
  pub positive : 1 ≤ range.first
  pub ordered : range.first ≤ range.last
  pub forward : 1 ≤ range.step

-- ---- ranges that are read

numbers_are_range : (first last step : ℕ) → IfSome (range_from first last step) IsRange
numbers_are_range first last step = by (nat_le 1 first && nat_le first last && nat_le 1 step) refl
  where
    by : (fits : Bool) → (nat_le 1 first && nat_le first last && nat_le 1 step) ≡ fits → IfSome (if fits then Some (raw first last step) else None) IsRange
    by true is = record { positive = grind arith; ordered = grind arith; forward = grind arith }
    by false is = tt

texts_are_range : (first last step : List ℕ) → IfSome (range_of_texts first last step) IsRange
texts_are_range first last step = by (digits_number first) (digits_number last) (digits_number step)
  where
    by : (n m s : Option ℕ) → IfSome (option_and_then (λ n. option_and_then (λ m. option_and_then (range_from n m) s) m) n) IsRange
    by None m s = tt
    by (Some n) None s = tt
    by (Some n) (Some m) None = tt
    by (Some n) (Some m) (Some s) = numbers_are_range n m s

-- what is read is a range
pub text_is_range : (text : List ℕ) → IfSome (range_of text) IsRange
text_is_range text = dashed (has_byte 45 text)
  where
    colon : (first rest : List ℕ) (there : Bool)
        → IfSome (if there then range_of_texts first (before_byte 58 rest) (behind_byte 58 rest) else range_of_texts first rest (codes "1")) IsRange
    colon first rest true = texts_are_range first (before_byte 58 rest) (behind_byte 58 rest)
    colon first rest false = texts_are_range first rest (codes "1")

    dashed : (there : Bool) → IfSome (if there then range_up_to (before_byte 45 text) (behind_byte 45 text) else range_of_texts text text (codes "1")) IsRange
    dashed true = colon (before_byte 45 text) (behind_byte 45 text) (has_byte 58 (behind_byte 45 text))
    dashed false = texts_are_range text text (codes "1")

-- ---- their sets

-- what steps reach below a bound is in the form, as one span or none
stretch_form : (first bound step : ℕ) → 1 ≤ first → 1 ≤ step → is_form (stretch first bound step) ≡ true
stretch_form first bound step positive forward = by (nat_lt bound first) refl
  where
    by : (empty : Bool) → nat_lt bound first ≡ empty → is_form (if empty then [] else span_of first (first + floor (bound - first) step) step ∷ []) ≡ true
    by true is = refl
    by false is = made_end (span_of first (first + floor (bound - first) step) step) (stretched first bound step positive (grind arith) forward)

-- the set of a range is in the form
pub range_set_form : (range : TaskSpan) → IsRange range → is_form (range_set range) ≡ true
range_set_form range is = by (nat_lt range.first (2 ^ 32))
  where
    by : (some : Bool) → is_form (if some then stretch range.first (min range.last (2 ^ 32 - 1)) range.step else []) ≡ true
    by true = stretch_form range.first (min range.last (2 ^ 32 - 1)) range.step is.positive is.forward
    by false = refl

-- and has the numbers of the range, where all of them have 32 bits
pub range_set_has : (m : ℕ) (range : TaskSpan) → IsRange range → range.last < 2 ^ 32 → has_number m (range_set range) ≡ in_span m range
range_set_has m range is small =
    ap (λ z. has_number m (if z then stretch range.first (min range.last (2 ^ 32 - 1)) range.step else [])) some
    ∙ stretch_numbers m range.first (min range.last (2 ^ 32 - 1)) range.step is.forward
    ∙ ap (λ z. in_span m (raw range.first z range.step)) least
  where
    some : nat_lt range.first (2 ^ 32) ≡ true
    some = let ordered = is.ordered in grind arith

    least : min range.last (2 ^ 32 - 1) ≡ range.last
    least = omega arith
