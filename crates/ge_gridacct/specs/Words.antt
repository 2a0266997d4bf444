-- The words after the program's name, as lists of bytes.
use Rattle.std.specs.Prelude.{ℕ, ◌&&◌, if◌then◌else◌, List, [], ◌∷◌, Option, Some, None, codes}
use Rattle.ge_collections.specs.Keyed.{text_eq}
use Rattle.ge_model_grammar.specs.Names.{is_name}
use Rattle.ge_gridacct.specs.declared.words.Word.{Word}
use Rattle.ge_gridacct.specs.declared.words.Word.TheVariants.{Flush, Look}
use Rattle.ge_gridacct.specs.declared.words.Look.TheVariants.{Lines, Total, Owner}

-- what one word says
abbrev pub word_alone : List ℕ → Option Word
word_alone word =
    if text_eq word (codes "flush") then Some Flush
    else (if text_eq word (codes "show") then Some (Look Lines)
    else (if text_eq word (codes "sum") then Some (Look Total) else None))

-- what a word says with a name
abbrev pub word_with_name : List ℕ → List ℕ → Option Word
word_with_name word name = if text_eq word (codes "sum") && is_name name then Some (Look Owner) else None

-- what the words say; other words are a faulty command line
abbrev pub word_of : List (List ℕ) → Option Word
word_of [] = None
word_of (word ∷ []) = word_alone word
word_of (word ∷ name ∷ []) = word_with_name word name
word_of (word ∷ name ∷ other ∷ others) = None

-- the second of two words, and no byte elsewhere
abbrev pub name_in : List (List ℕ) → List ℕ
name_in [] = []
name_in (word ∷ []) = []
name_in (word ∷ name ∷ []) = name
name_in (word ∷ name ∷ other ∷ others) = []
