-- Texts cut into pieces, and put together.
use Rattle.std.specs.Prelude.{ℕ, ◌-◌, ◌^◌, min, Bool, not, ◌&&◌, ◌==◌, if◌then◌else◌, List, [], ◌∷◌, ◌++◌, length, take, drop, map, filter, fold, flat_map, codes}
use Rattle.std.specs.List.{list_any, list_all, slice_split, before_first, after_first, prefix_len, suffix_len}
use Rattle.std.specs.Char.{to_ascii_lowercase}
use Rattle.ge_collections.specs.Keyed.{text_eq}
use Rattle.ge_model_text.specs.Value.{is_digit, number}
use Rattle.ge_model_text.specs.Words.{is_blank}

-- whether a list has nothing
abbrev pub is_empty : {T : Type 0} → List T → Bool
is_empty items = length items == 0

-- what stands between the bytes that are this one: one piece more than there are such bytes
abbrev pub pieces_at : ℕ → List ℕ → List (List ℕ)
pieces_at byte text = slice_split (λ b. b == byte) text

-- what stands before the first byte that is this one, and behind it; the whole text and nothing where there is none
abbrev pub before_byte : ℕ → List ℕ → List ℕ
before_byte byte text = before_first (λ b. b == byte) text

abbrev pub behind_byte : ℕ → List ℕ → List ℕ
behind_byte byte text = after_first (λ b. b == byte) text

abbrev pub has_byte : ℕ → List ℕ → Bool
has_byte byte text = list_any (λ b. b == byte) text

-- one digit or more
abbrev pub is_digits : List ℕ → Bool
is_digits text = not (is_empty text) && list_all is_digit text

-- the greatest number that is read
abbrev pub greatest_number : ℕ
greatest_number = 2 ^ 128 - 1

-- what digits are worth, cut at the greatest number
abbrev pub number_of : List ℕ → ℕ
number_of digits = min (number digits) greatest_number

-- a text without the blanks at its start
abbrev pub without_first_blanks : List ℕ → List ℕ
without_first_blanks text = drop (prefix_len is_blank text) text

-- a text without the blanks at its end
abbrev pub without_last_blanks : List ℕ → List ℕ
without_last_blanks text = take (length text - suffix_len is_blank text) text

-- a text without the blanks at its ends
abbrev pub trimmed : List ℕ → List ℕ
trimmed text = without_last_blanks (without_first_blanks text)

-- what stands between blanks, however many
abbrev pub blank_pieces : List ℕ → List (List ℕ)
blank_pieces text = filter (λ piece. not (is_empty piece)) (slice_split is_blank text)

-- the items between two commas: at least one, which is empty where nothing but blanks stands there
abbrev pub items_between : List ℕ → List (List ℕ)
items_between text = elim (blank_pieces text) [ [] ↦ [] ∷ [] | piece ∷ pieces ↦ piece ∷ pieces ]

-- the items of a list in a body: joined by blanks, or by a comma with or without blanks round it; NONE is the empty list
abbrev pub list_items : List ℕ → List (List ℕ)
list_items text = if text_eq (trimmed text) (codes "NONE") then [] else flat_map items_between (pieces_at 44 text)

-- texts with this one between each two
abbrev pub joined_by : List ℕ → List (List ℕ) → List ℕ
joined_by between [] = []
joined_by between (text ∷ texts) = text ++ flat_map (λ next. between ++ next) texts

-- texts joined by commas, or NONE
abbrev pub list_text : List (List ℕ) → List ℕ
list_text texts = if is_empty texts then codes "NONE" else joined_by (codes ",") texts

-- whether a text is one of these
abbrev pub is_one_of : List ℕ → List (List ℕ) → Bool
is_one_of text texts = list_any (text_eq text) texts

-- a list of different texts with one more, unless it is there
abbrev pub with_text : List (List ℕ) → List ℕ → List (List ℕ)
with_text texts text = if is_one_of text texts then texts else texts ++ text ∷ []

-- a list without what stands in it before, each at its first place
abbrev pub each_once : List (List ℕ) → List (List ℕ)
each_once texts = fold with_text [] texts

-- whether a number stands in a list
abbrev pub lists_number : List ℕ → ℕ → Bool
lists_number numbers n = list_any (λ m. m == n) numbers

-- a list of different numbers with one more, unless it is there
abbrev pub with_one_number : List ℕ → ℕ → List ℕ
with_one_number numbers n = if lists_number numbers n then numbers else numbers ++ n ∷ []

-- the same of numbers
abbrev pub each_number_once : List ℕ → List ℕ
each_number_once numbers = fold with_one_number [] numbers

-- ASCII letters in lower case
abbrev pub lower_case : List ℕ → List ℕ
lower_case text = map to_ascii_lowercase text
