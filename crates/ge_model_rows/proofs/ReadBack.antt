-- A set's text reads back to the set.
use Rattle.std.proofs.Common.{◌≡◌, ℕ, ◌^◌, ◌≤◌, ◌<◌, ◌==◌, ◌&&◌, ◌||◌, Bool, true, false, if◌then◌else◌, nat_le, List, [], ◌∷◌, ◌++◌, map, decimal, codes, Some, None, option_and_then, option_map, refl, sym, ap, ◌∙◌, arith, append_assoc}
use Rattle.std.proofs.lemmas.Bool.{eqb-true}
use Rattle.std.proofs.lemmas.List.Folds.{list_any-append}
use Rattle.ge_model_rows.specs.TaskRows.{TaskSpan}
use Rattle.ge_model_rows.specs.Pieces.{has_byte, before_byte, behind_byte, number_of}
use Rattle.ge_model_rows.specs.Spans.{is_one}
use Rattle.ge_model_rows.specs.Ranges.{range_from, digits_number, range_of_texts, range_up_to, range_of, ranges_of}
use Rattle.ge_model_rows.specs.SetText.{range_text, span_text}
use Rattle.ge_model_rows.proofs.Steps.{raw}
use Rattle.ge_model_rows.proofs.Form.{IsMade, Rises}
use Rattle.ge_model_rows.proofs.Digits.{decimal_digits, decimal_worth, all_digits, digits_without, before_it, behind_it, it_is_there, AreWithout}

-- ---- the text of a span

read_number : (n : ℕ) → n < 2 ^ 64 → digits_number (decimal n) ≡ Some n
read_number n small = ap (λ b. if b then Some (number_of (decimal n)) else None) (decimal_digits n) ∙ ap (λ x. Some x) (decimal_worth n small)

read_range : (a b c : ℕ) → 1 ≤ a → a ≤ b → 1 ≤ c → range_from a b c ≡ Some (raw a b c)
read_range a b c p q r = ap (λ z. if z then Some (raw a b c) else None) fits
  where
    fits : (nat_le 1 a && nat_le a b && nat_le 1 c) ≡ true
    fits = grind arith

read_texts : (a b c : ℕ) (text : List ℕ) → a < 2 ^ 64 → b < 2 ^ 64 → digits_number text ≡ Some c → range_of_texts (decimal a) (decimal b) text ≡ range_from a b c
read_texts a b c text p q r =
    λ i. option_and_then (λ n. option_and_then (λ m. option_and_then (range_from n m) (r i)) (read_number b q i)) (read_number a p i)

-- the text of a range from the right
from_right : (s : TaskSpan) → range_text s ≡ decimal s.first ++ (45 ∷ (decimal s.last ++ (58 ∷ decimal s.step)))
from_right s =
    append_assoc ((decimal s.first ++ (45 ∷ [])) ++ decimal s.last) (58 ∷ []) (decimal s.step)
    ∙ append_assoc (decimal s.first ++ (45 ∷ [])) (decimal s.last) (58 ∷ decimal s.step)
    ∙ append_assoc (decimal s.first) (45 ∷ []) (decimal s.last ++ (58 ∷ decimal s.step))

no_comma : (n : ℕ) → has_byte 44 (decimal n) ≡ false
no_comma n = digits_without 44 (decimal n) refl (all_digits (decimal n) (decimal_digits n))

no_dash : (n : ℕ) → has_byte 45 (decimal n) ≡ false
no_dash n = digits_without 45 (decimal n) refl (all_digits (decimal n) (decimal_digits n))

no_colon : (n : ℕ) → has_byte 58 (decimal n) ≡ false
no_colon n = digits_without 58 (decimal n) refl (all_digits (decimal n) (decimal_digits n))

-- a span that fits
pub record IsSmall (s : TaskSpan) : Type 0 where
  pub first : s.first < 2 ^ 64
  pub last : s.last < 2 ^ 64
  pub step : s.step < 2 ^ 64

read_single : (s : TaskSpan) → IsMade s → IsSmall s → s.first ≡ s.last → range_of (decimal s.first) ≡ Some s
read_single s made small same =
    ap (λ z. if z then range_up_to (before_byte 45 (decimal s.first)) (behind_byte 45 (decimal s.first)) else range_of_texts (decimal s.first) (decimal s.first) (codes "1")) (no_dash s.first)
    ∙ read_texts s.first s.first 1 (codes "1") small.first small.first refl
    ∙ read_range s.first s.first 1 made.positive (omega arith) (omega arith)
    ∙ (λ i. Some (raw s.first (same i) (sym (made.single same) i)))

read_run : (s : TaskSpan) → IsMade s → IsSmall s → range_of (range_text s) ≡ Some s
read_run s made small =
    ap range_of (from_right s)
    ∙ ap (λ z. if z then range_up_to (before_byte 45 text) (behind_byte 45 text) else range_of_texts text text (codes "1")) (it_is_there 45 first rest)
    ∙ (λ i. range_up_to (before_it 45 first rest (no_dash s.first) i) (behind_it 45 first rest (no_dash s.first) i))
    ∙ ap (λ z. if z then range_of_texts first (before_byte 58 rest) (behind_byte 58 rest) else range_of_texts first rest (codes "1")) (it_is_there 58 last step)
    ∙ (λ i. range_of_texts first (before_it 58 last step (no_colon s.last) i) (behind_it 58 last step (no_colon s.last) i))
    ∙ read_texts s.first s.last s.step step small.first small.last (read_number s.step small.step)
    ∙ read_range s.first s.last s.step made.positive made.ordered made.forward
  where
    first : List ℕ
    first = decimal s.first

    last : List ℕ
    last = decimal s.last

    step : List ℕ
    step = decimal s.step

    rest : List ℕ
    rest = last ++ (58 ∷ step)

    text : List ℕ
    text = first ++ (45 ∷ rest)

read_span : (s : TaskSpan) → IsMade s → IsSmall s → range_of (span_text s) ≡ Some s
read_span s made small = by (is_one s) refl
  where
    by : (single : Bool) → is_one s ≡ single → range_of (if single then decimal s.first else range_text s) ≡ Some s
    by true is = read_single s made small (eqb-true s.first s.last is)
    by false is = read_run s made small

pub span_without : (s : TaskSpan) → has_byte 44 (span_text s) ≡ false
span_without s = by (is_one s)
  where
    by : (single : Bool) → has_byte 44 (if single then decimal s.first else range_text s) ≡ false
    by true = no_comma s.first
    by false =
        ap (has_byte 44) (from_right s)
        ∙ list_any-append (λ b. b == 44) (decimal s.first) (45 ∷ (decimal s.last ++ (58 ∷ decimal s.step)))
        ∙ (λ i. no_comma s.first i || (list_any-append (λ b. b == 44) (decimal s.last) (58 ∷ decimal s.step) ∙ (λ j. no_comma s.last j || no_comma s.step j)) i)

pub texts_without : (spans : List TaskSpan) → AreWithout 44 (map span_text spans)
texts_without [] = tt
texts_without (s ∷ spans) = (span_without s, texts_without spans)

-- all spans are small
abbrev pub AreSmall : List TaskSpan → Type 0
AreSmall [] = Unit {0}
AreSmall (s ∷ spans) = IsSmall s × AreSmall spans

pub read_spans : (low : ℕ) (spans : List TaskSpan) → Rises low spans → AreSmall spans → ranges_of (map span_text spans) ≡ Some spans
read_spans low [] rises small = refl
read_spans low (s ∷ spans) (higher, made, rises) (one, small) =
    λ i. option_and_then (λ range. option_map (λ ranges. range ∷ ranges) (read_spans s.last spans rises small i)) (read_span s made one i)
