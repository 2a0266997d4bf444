-- The words of a line. Blanks part them. A word that begins with a quote, single or double, reaches to the
-- next same quote, which a blank or the end has to follow; a quote elsewhere is a plain byte. There are no
-- escapes.
use Rattle.std.specs.Prelude.{ℕ, suc, zero, ◌+◌, ◌-◌, ◌==◌, ◌||◌, Bool, true, if◌then◌else◌, List, [], ◌∷◌, ◌++◌, length, Result, Ok, Err, Option, Some, None, map, drop, take, position, unwrap_or}
use Rattle.ge_model_text.specs.declared.Span.{Span}

-- a space or a tab
abbrev pub is_blank : ℕ → Bool
is_blank b = (b == 32) || (b == 9)

-- ' or "
abbrev pub is_quote : ℕ → Bool
is_quote b = (b == 39) || (b == 34)

-- a word may end before these bytes
abbrev pub ends_word : List ℕ → Bool
ends_word [] = true
ends_word (b ∷ rest) = is_blank b

-- how many bytes stand before the first blank
abbrev pub before_blank : List ℕ → ℕ
before_blank rest = unwrap_or (position is_blank rest) (length rest)

-- the word in quotes whose first quote stands at a place, by where its second quote stands in the bytes
-- after the first: none where it isn't there or where the word doesn't end behind it
abbrev pub quoted_word : ℕ → List ℕ → Option ℕ → Result (List Span) ℕ
quoted_word place rest None = Err place
quoted_word place rest (Some inside) =
    if ends_word (drop (inside + 1) rest) then Ok (record { from = place + 1; to = place + 1 + inside } ∷ []) else Err place

-- the word that begins with the byte b at a place, before these bytes: none where b is a blank
abbrev pub word_here : ℕ → ℕ → List ℕ → Result (List Span) ℕ
word_here place b rest =
    if is_blank b then Ok []
    else (if is_quote b then quoted_word place rest (position (λ c. c == b) rest)
    else Ok (record { from = place; to = place + 1 + before_blank rest } ∷ []))

-- how many of the bytes after its first quote belong to a word in quotes
abbrev pub quoted_taken : Option ℕ → ℕ
quoted_taken None = 0
quoted_taken (Some inside) = inside + 1

-- how many of these bytes belong to the word that begins with b
abbrev pub taken_here : ℕ → List ℕ → ℕ
taken_here b rest =
    if is_blank b then 0
    else (if is_quote b then quoted_taken (position (λ c. c == b) rest)
    else before_blank rest)

-- these spans and then those, or the first fault
abbrev pub joined : Result (List Span) ℕ → Result (List Span) ℕ → Result (List Span) ℕ
joined (Ok spans) (Ok others) = Ok (spans ++ others)
joined (Ok spans) (Err place) = Err place
joined (Err place) others = Err place

-- the words of the bytes from a place on, the first `taken` of which belong to a word that is listed
abbrev pub words_from : ℕ → ℕ → List ℕ → Result (List Span) ℕ
words_from place taken [] = Ok []
words_from place (suc taken) (b ∷ rest) = words_from (place + 1) taken rest
words_from place zero (b ∷ rest) = joined (word_here place b rest) (words_from (place + 1) (taken_here b rest) rest)

-- the words of a line, in order, or the place of the first quote that begins a word and isn't closed
abbrev pub words_of : List ℕ → Result (List Span) ℕ
words_of line = words_from 0 0 line

-- the bytes of a line in a span
abbrev pub text_at : List ℕ → Span → List ℕ
text_at line span = take (span.to - span.from) (drop span.from line)

-- the words of a line as texts: none where a quote isn't closed
abbrev pub texts_of : List ℕ → Option (List (List ℕ))
texts_of line = elim (words_of line) [ Ok spans ↦ Some (map (text_at line) spans) | Err place ↦ None ]
