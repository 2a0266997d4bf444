-- Words that are lent from a text, and what a reader gives that lends them.
use Rattle.std.specs.Prelude.{◌≡◌, ℕ, List, map, Option, Some, None, Result, Ok, Err}
use Rattle.std.specs.Borrow.{Bor}
use Rattle.ge_pieces.specs.declared.reading.ReadFault.{ReadFault}
use Rattle.ge_pieces.specs.declared.reading.ReadFault.TheVariants.{Syntax, Memory}

-- the texts of lent words
abbrev pub texts : List (Bor (List ℕ)) → List (List ℕ)
texts words = map (λ word. word.now) words

-- a reader of a grammar whose value stands for what the grammar gives
abbrev pub GivesAs : {T U : Type 0} → (T → U) → Result T ReadFault → Option U → Type 0
GivesAs shown (Ok value) read = read ≡ Some (shown value)
GivesAs shown (Err Syntax) read = read ≡ None
GivesAs shown (Err Memory) read = Unit {0}
