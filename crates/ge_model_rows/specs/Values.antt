-- Texts of values, and values of texts (complex, sge_types).
use Rattle.std.specs.Prelude.{ℕ, ◌+◌, ◌/◌, ◌%◌, ◌==◌, Bool, true, false, not, ◌&&◌, ◌||◌, if◌then◌else◌, nat_le, List, [], ◌∷◌, ◌++◌, length, map, Result, Ok, Err, Option, Some, None, codes, decimal}
use Rattle.std.specs.Int.{is_in_range}
use Rattle.std.specs.List.{list_all}
use Rattle.ge_collections.specs.Keyed.{text_eq}
use Rattle.ge_model_rows.specs.ValueRows.{Value, Amount, Flag, Word, Kind, infinity, million}
use Rattle.ge_model_text.specs.declared.Form.TheVariants as form
use Rattle.ge_model_text.specs.declared.ValueFault.{ValueFault}
use Rattle.ge_model_text.specs.Reading.{reading}
use Rattle.ge_model_rows.specs.Pieces.{is_empty, lower_case}
pub use Rattle.ge_rows.specs.Asked.{amount_in}

-- whether the values of a kind are amounts (complex, type)
abbrev pub is_number_kind : Kind → Bool
is_number_kind Kind.Int = true
is_number_kind Kind.Time = true
is_number_kind Kind.Memory = true
is_number_kind Kind.Double = true
is_number_kind _ = false

-- the amount that a reader gives, as a value
abbrev pub read_amount : Result ℕ ValueFault → Option Value
read_amount (Ok amount) = Some (Amount amount)
read_amount (Err fault) = None

-- TRUE and FALSE in any case, 1 and 0
abbrev pub flag_of : List ℕ → Option Value
flag_of text =
    if text_eq (lower_case text) (codes "true") || text_eq text (codes "1") then Some (Flag true)
    else (if text_eq (lower_case text) (codes "false") || text_eq text (codes "0") then Some (Flag false) else None)

-- the bytes of a word: those that print and aren't blank, but a comma, an equals sign and a closing bracket
abbrev pub is_word_byte : ℕ → Bool
is_word_byte b = is_in_range 33 126 b && not (b == 44 || b == 61 || b == 93)

-- a word has 1 to 255 such bytes
abbrev pub is_word : List ℕ → Bool
is_word text = nat_le 1 (length text) && nat_le (length text) 255 && list_all is_word_byte text

-- a word; NONE stands for the empty one
abbrev pub word_of : List ℕ → Option Value
word_of text = if text_eq text (codes "NONE") then Some (Word []) else (if is_word text then Some (Word text) else None)

-- the value of a text of a kind, if it has one
abbrev pub value_of : Kind → List ℕ → Option Value
value_of Kind.Int text = read_amount (reading form.Int text)
value_of Kind.Time text = read_amount (reading form.Time text)
value_of Kind.Memory text = read_amount (reading form.Memory text)
value_of Kind.Double text = read_amount (reading form.Fixed text)
value_of Kind.Bool text = flag_of text
value_of _ text = word_of text

-- the digit at the place of a unit
abbrev pub digit_at : ℕ → ℕ → ℕ
digit_at n unit = 48 + n / unit % 10

-- millionths as a DOUBLE is printed, with six decimals
abbrev pub fixed_text : ℕ → List ℕ
fixed_text millionths = decimal (millionths / million) ++ codes "." ++ map (digit_at millionths) (100000 ∷ 10000 ∷ 1000 ∷ 100 ∷ 10 ∷ 1 ∷ [])

-- seconds as hours, minutes and seconds, without zeros in front
abbrev pub clock_text : ℕ → List ℕ
clock_text seconds = decimal (seconds / 3600) ++ codes ":" ++ decimal (seconds / 60 % 60) ++ codes ":" ++ decimal (seconds % 60)

-- an amount as a kind prints it
abbrev pub amount_text : Kind → ℕ → List ℕ
amount_text Kind.Time amount = if amount == infinity then codes "INFINITY" else clock_text amount
amount_text Kind.Memory amount = if amount == infinity then codes "INFINITY" else decimal amount
amount_text Kind.Double amount = fixed_text amount
amount_text _ amount = decimal amount

abbrev pub flag_text : Bool → List ℕ
flag_text flag = if flag then codes "TRUE" else codes "FALSE"

abbrev pub word_text : List ℕ → List ℕ
word_text word = if is_empty word then codes "NONE" else word

-- a value as a kind prints it; one whose form isn't that of its kind as INT, BOOL or STRING, by its form
abbrev pub value_text : Kind → Value → List ℕ
value_text kind (Amount amount) = amount_text kind amount
value_text kind (Flag flag) = flag_text flag
value_text kind (Word word) = word_text word
