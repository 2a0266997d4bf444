-- The words of options as values.
use Rattle.std.specs.Prelude.{ℕ, ℤ, pos, neg_ℤ, Bool, false, ◌==◌, ◌||◌, if◌then◌else◌, List, [], ◌∷◌, Option, Some, None, option_map, option_and_then, codes}
use Rattle.ge_collections.specs.Keyed.{text_eq}
use Rattle.ge_model_rows.specs.Pieces.{number_of}
use Rattle.ge_model_grammar.specs.Options.{option_words}

abbrev pub first_word : List (List ℕ) → Option (List ℕ)
first_word [] = None
first_word (word ∷ words) = Some word

-- the one word of an option, where the command has it
abbrev pub option_word : List (List ℕ × List (List ℕ)) → List ℕ → Option (List ℕ)
option_word options name = option_and_then first_word (option_words options name)

-- the number that an option gives
abbrev pub number_given : List (List ℕ × List (List ℕ)) → List ℕ → Option ℕ
number_given options name = option_map number_of (option_word options name)

-- whether the text of a whole number has a dash, and its number without it
abbrev pub is_negative : List ℕ → Bool
is_negative [] = false
is_negative (b ∷ digits) = b == 45

abbrev pub magnitude : List ℕ → ℕ
magnitude [] = 0
magnitude (b ∷ digits) = if b == 45 then number_of digits else number_of (b ∷ digits)

-- a whole number, perhaps with a dash
abbrev pub integer_of : List ℕ → ℤ
integer_of text = if is_negative text then neg_ℤ (pos (magnitude text)) else pos (magnitude text)

-- y and yes (qsub, -R)
abbrev pub is_yes : List ℕ → Bool
is_yes word = text_eq word (codes "y") || text_eq word (codes "yes")
