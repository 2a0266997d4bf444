-- Values that are printed are read to themselves, of every kind; and what is read is such a value.
use Rattle.std.proofs.Common.{◌≡◌, ℕ, ◌+◌, ◌^◌, ◌<◌, ◌==◌, ◌||◌, Bool, true, false, if◌then◌else◌, nat_lt, List, [], ◌∷◌, Option, Some, None, IfSome, Result, Ok, Err, decimal, codes, refl, sym, ap, ◌∙◌, arith}
use Rattle.std.proofs.lemmas.Bool.{eqb-true, ltb-true}
use Rattle.ge_collections.specs.Keyed.{text_eq}
use Rattle.ge_model_rows.specs.ValueRows.{Value, Amount, Flag, Word, Kind, infinity}
use Rattle.ge_model_text.specs.declared.Form.{Form}
use Rattle.ge_model_text.specs.declared.Form.TheVariants as form
use Rattle.ge_model_text.specs.declared.Progress.{Progress}
use Rattle.ge_model_text.specs.declared.Progress.TheVariants.{Start}
use Rattle.ge_model_text.specs.declared.ValueFault.{ValueFault}
use Rattle.ge_model_text.specs.declared.ValueFault.TheVariants.{Digit, TooLarge}
use Rattle.ge_model_text.specs.Reading.{next, amount_done, answer, bounded, limit, reading_from, reading}
use Rattle.ge_model_rows.specs.Pieces.{is_empty, lower_case}
use Rattle.ge_model_rows.specs.Values.{read_amount, flag_of, is_word, word_of, value_of, value_text, clock_text}
use Rattle.ge_model_config.proofs.ReadBackNumbers.{int_back}
use Rattle.ge_model_config.proofs.ReadBackAmounts.{clock_back, bytes_back, fixed_back}

-- ---- what is read

-- a word is empty, or one that isn't NONE
abbrev pub FitsWord : List ℕ → Type 0
FitsWord [] = Unit {0}
FitsWord (b ∷ word) = (is_word (b ∷ word) ≡ true) × (text_eq (b ∷ word) (codes "NONE") ≡ false)

abbrev pub FitsAmount : Value → Type 0
FitsAmount (Amount n) = n < 2 ^ 48
FitsAmount _ = ⊥

abbrev pub FitsFlag : Value → Type 0
FitsFlag (Flag flag) = Unit {0}
FitsFlag _ = ⊥

abbrev pub FitsText : Value → Type 0
FitsText (Word word) = FitsWord word
FitsText _ = ⊥

-- a value of a kind
abbrev pub FitsKind : Kind → Value → Type 0
FitsKind Kind.Int value = FitsAmount value
FitsKind Kind.Time value = FitsAmount value
FitsKind Kind.Memory value = FitsAmount value
FitsKind Kind.Double value = FitsAmount value
FitsKind Kind.Bool value = FitsFlag value
FitsKind _ value = FitsText value

IsSmall : Result ℕ ValueFault → Type 0
IsSmall (Ok n) = n < 2 ^ 48
IsSmall (Err fault) = Unit {0}

bounded_small : (n : ℕ) → IsSmall (bounded n)
unfolding IsSmall
bounded_small n = by (nat_lt n limit) refl
  where
    by : (small : Bool) → nat_lt n limit ≡ small → IsSmall (if small then Ok n else Err TooLarge)
    by true is = ltb-true n limit is
    by false is = tt

answer_small : (place : ℕ) (amount : Option ℕ) → IsSmall (answer place amount)
unfolding IsSmall
answer_small place None = tt
answer_small place (Some n) = bounded_small n

-- an amount that is read is below 2^48
reading_small : (sort : Form) (progress : Progress) (place : ℕ) (text : List ℕ) → IsSmall (reading_from sort progress place text)
unfolding IsSmall
reading_small sort progress place [] = answer_small place (amount_done sort progress)
reading_small sort progress place (b ∷ rest) = by (next sort progress b) (λ after. reading_small sort after (place + 1) rest)
  where
    by : (next : Option Progress) → ((after : Progress) → IsSmall (reading_from sort after (place + 1) rest))
        → IsSmall (elim next as (λ x. Result ℕ ValueFault) [ None ↦ Err (Digit place) | Some after ↦ reading_from sort after (place + 1) rest ])
    by None again = tt
    by (Some after) again = again after

amount_small : (sort : Form) (text : List ℕ) → IfSome (read_amount (reading sort text)) FitsAmount
unfolding IsSmall
amount_small sort [] = tt
amount_small sort (b ∷ rest) = by (reading sort (b ∷ rest)) (reading_small sort Start 0 (b ∷ rest))
  where
    by : (read : Result ℕ ValueFault) → IsSmall read → IfSome (read_amount read) FitsAmount
    by (Ok n) small = small
    by (Err fault) small = tt

flag_fits : (text : List ℕ) → IfSome (flag_of text) FitsFlag
flag_fits text = by (text_eq (lower_case text) (codes "true") || text_eq text (codes "1")) (text_eq (lower_case text) (codes "false") || text_eq text (codes "0"))
  where
    by : (yes_word no_word : Bool) → IfSome (if yes_word then Some (Flag true) else (if no_word then Some (Flag false) else None)) FitsFlag
    by true no_word = tt
    by false true = tt
    by false false = tt

word_fits : (text : List ℕ) → IfSome (word_of text) FitsText
word_fits text = by (text_eq text (codes "NONE")) (is_word text) refl refl
  where
    whole : (word : List ℕ) → text_eq word (codes "NONE") ≡ false → is_word word ≡ true → FitsWord word
    whole [] other is = tt
    whole (b ∷ word) other is = (is, other)

    by : (none fits : Bool) → text_eq text (codes "NONE") ≡ none → is_word text ≡ fits → IfSome (if none then Some (Word []) else (if fits then Some (Word text) else None)) FitsText
    by true fits p q = tt
    by false true p q = whole text p q
    by false false p q = tt

-- what is read is a value of its kind
pub value_fits : (k : Kind) (text : List ℕ) → IfSome (value_of k text) (FitsKind k)
value_fits Kind.Int text = amount_small form.Int text
value_fits Kind.Time text = amount_small form.Time text
value_fits Kind.Memory text = amount_small form.Memory text
value_fits Kind.Double text = amount_small form.Fixed text
value_fits Kind.Bool text = flag_fits text
value_fits Kind.Str text = word_fits text
value_fits Kind.CStr text = word_fits text
value_fits Kind.ReStr text = word_fits text
value_fits Kind.Host text = word_fits text

-- ---- what is printed is read

-- an amount that may be INFINITY
endless_back : (sort : Form) (show : ℕ → List ℕ) (n : ℕ) → reading sort (codes "INFINITY") ≡ Ok infinity → reading sort (show n) ≡ Ok n → reading sort (if n == infinity then codes "INFINITY" else show n) ≡ Ok n
endless_back sort show n endless plain = by (n == infinity) refl
  where
    by : (same : Bool) → (n == infinity) ≡ same → reading sort (if same then codes "INFINITY" else show n) ≡ Ok n
    by true is = endless ∙ ap (λ z. Ok z) (sym (eqb-true n infinity is))
    by false is = plain

flag_back : (flag : Bool) → flag_of (if flag then codes "TRUE" else codes "FALSE") ≡ Some (Flag flag)
flag_back true = refl
flag_back false = refl

word_back : (word : List ℕ) → FitsWord word → word_of (if is_empty word then codes "NONE" else word) ≡ Some (Word word)
word_back [] fits = refl
word_back (b ∷ word) fits =
    ap (λ z. word_of (if z then codes "NONE" else b ∷ word)) some
    ∙ ap (λ z. if z then Some (Word []) else (if is_word (b ∷ word) then Some (Word (b ∷ word)) else None)) fits.1
    ∙ ap (λ z. if z then Some (Word (b ∷ word)) else None) fits.0
  where
    some : is_empty (b ∷ word) ≡ false
    some = grind arith

text_back : (value : Value) (k : Kind) → FitsText value → word_of (value_text k value) ≡ Some value
text_back (Amount n) k fits = absurd fits
text_back (Flag flag) k fits = absurd fits
text_back (Word word) k fits = word_back word fits

-- a value is printed as it is read
pub value_back : (k : Kind) (value : Value) → FitsKind k value → value_of k (value_text k value) ≡ Some value
value_back Kind.Int (Amount n) fits = ap read_amount (int_back n fits)
value_back Kind.Time (Amount n) fits = ap read_amount (endless_back form.Time clock_text n refl (clock_back n fits))
value_back Kind.Memory (Amount n) fits = ap read_amount (endless_back form.Memory decimal n refl (bytes_back n fits))
value_back Kind.Double (Amount n) fits = ap read_amount (fixed_back n fits)
value_back Kind.Bool (Flag flag) fits = flag_back flag
value_back Kind.Int (Flag flag) fits = absurd fits
value_back Kind.Int (Word word) fits = absurd fits
value_back Kind.Time (Flag flag) fits = absurd fits
value_back Kind.Time (Word word) fits = absurd fits
value_back Kind.Memory (Flag flag) fits = absurd fits
value_back Kind.Memory (Word word) fits = absurd fits
value_back Kind.Double (Flag flag) fits = absurd fits
value_back Kind.Double (Word word) fits = absurd fits
value_back Kind.Bool (Amount n) fits = absurd fits
value_back Kind.Bool (Word word) fits = absurd fits
value_back Kind.Str value fits = text_back value Kind.Str fits
value_back Kind.CStr value fits = text_back value Kind.CStr fits
value_back Kind.ReStr value fits = text_back value Kind.ReStr fits
value_back Kind.Host value fits = text_back value Kind.Host fits
