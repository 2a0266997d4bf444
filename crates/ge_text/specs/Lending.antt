-- What lending the words of a line returns, against the texts of its words.
use Rattle.std.specs.Prelude.{◌≡◌, ℕ, List, Vec, map, Option, Some, None, Result, Ok, Err}
use Rattle.std.specs.declared.alloc.Global.{Global}
use Rattle.std.specs.Borrow.{Bor}
use Rattle.ge_model_text.specs.declared.Span.{Span}
use Rattle.ge_model_text.specs.Words.{text_at}
use Rattle.ge_model_text.specs.Line.{HasWords}
use Rattle.ge_text.specs.declared.splitting.TextFault.{TextFault}
use Rattle.ge_text.specs.declared.splitting.TextFault.TheVariants.{Quote, NoMemory}

-- the texts of lent words
abbrev pub lent_texts : List (Bor (List ℕ)) → List (List ℕ)
lent_texts words = map (λ word. word.now) words

-- the texts of a line at the spans of its words, or the place of the quote that isn't closed
abbrev pub texts_at : List ℕ → Result (List Span) ℕ → Result (List (List ℕ)) ℕ
texts_at line (Ok spans) = Ok (map (text_at line) spans)
texts_at line (Err place) = Err place

-- the words with these texts, or the place of the quote that isn't closed, unless memory ran out
abbrev pub SplitsInto : Result (Vec (Bor (List ℕ)) Global) TextFault → Result (List (List ℕ)) ℕ → Type 0
SplitsInto (Ok words) told = told ≡ Ok (lent_texts words.items)
SplitsInto (Err (Quote place)) told = told ≡ Err place
SplitsInto (Err NoMemory) told = Unit {0}

-- the words' texts, or none where a quote isn't closed, unless memory ran out
abbrev pub Lends : Result (Vec (Bor (List ℕ)) Global) TextFault → Option (List (List ℕ)) → Type 0
Lends (Ok words) read = read ≡ Some (lent_texts words.items)
Lends (Err (Quote place)) read = read ≡ None
Lends (Err NoMemory) read = Unit {0}

-- these are the texts of a line at the spans of its words
pub record AreItsWords (line : List ℕ) (texts : List (List ℕ)) : Type 0 where
  pub spans : List Span
  pub words : HasWords 0 line spans
  pub same : texts ≡ map (text_at line) spans
