-- The words of a line by cases, apart from how they are found.
use Rattle.std.specs.Prelude.{◌≡◌, ◌≢◌, ℕ, ◌+◌, ◌<◌, ◌≤◌, true, false, List, [], ◌∷◌, length, drop, slice_index}
use Rattle.ge_model_text.specs.declared.Span.{Span}
use Rattle.ge_model_text.specs.Words.{is_blank, is_quote, ends_word}

-- behind a quote stand so many other bytes, the same quote, and then these bytes, before which a word may end
pub record Encloses (quote : ℕ) (bytes : List ℕ) (size : ℕ) (rest : List ℕ) : Type 0 where
  pub others : (k : ℕ) → k < size → slice_index bytes k ≢ quote
  pub closed : drop size bytes ≡ quote ∷ rest
  pub ends : ends_word rest ≡ true

-- behind the first byte of a word stand so many that aren't blanks, and then bytes before which a word may end
pub record GoesOn (bytes : List ℕ) (size : ℕ) : Type 0 where
  pub within : size ≤ length bytes
  pub others : (k : ℕ) → k < size → is_blank (slice_index bytes k) ≡ false
  pub ends : ends_word (drop size bytes) ≡ true

-- the words of the bytes from a place on stand at these spans
pub data HasWords : ℕ → List ℕ → List Span → Type 0 where
  NoMore : (place : ℕ) → HasWords place [] []
  Blank : (place b : ℕ) (bytes : List ℕ) (spans : List Span) → is_blank b ≡ true → HasWords (place + 1) bytes spans
      → HasWords place (b ∷ bytes) spans
  Plain : (place b : ℕ) (bytes : List ℕ) (size : ℕ) (spans : List Span) → is_blank b ≡ false → is_quote b ≡ false → GoesOn bytes size
      → HasWords (place + 1 + size) (drop size bytes) spans
      → HasWords place (b ∷ bytes) (record { from = place; to = place + 1 + size } ∷ spans)
  Quoted : (place b : ℕ) (bytes : List ℕ) (size : ℕ) (rest : List ℕ) (spans : List Span) → is_quote b ≡ true → Encloses b bytes size rest
      → HasWords (place + 1 + (size + 1)) rest spans
      → HasWords place (b ∷ bytes) (record { from = place + 1; to = place + 1 + size } ∷ spans)

-- a word of the bytes from a place on begins with a quote at another place, and isn't enclosed; all words
-- before it are
pub data HasOpenQuote : ℕ → List ℕ → ℕ → Type 0 where
  Here : (place b : ℕ) (bytes : List ℕ) → is_quote b ≡ true → ((size : ℕ) (rest : List ℕ) → Encloses b bytes size rest → ⊥)
      → HasOpenQuote place (b ∷ bytes) place
  BehindBlank : (place b : ℕ) (bytes : List ℕ) (there : ℕ) → is_blank b ≡ true → HasOpenQuote (place + 1) bytes there
      → HasOpenQuote place (b ∷ bytes) there
  BehindPlain : (place b : ℕ) (bytes : List ℕ) (size there : ℕ) → is_blank b ≡ false → is_quote b ≡ false → GoesOn bytes size
      → HasOpenQuote (place + 1 + size) (drop size bytes) there
      → HasOpenQuote place (b ∷ bytes) there
  BehindQuoted : (place b : ℕ) (bytes : List ℕ) (size : ℕ) (rest : List ℕ) (there : ℕ) → is_quote b ≡ true → Encloses b bytes size rest
      → HasOpenQuote (place + 1 + (size + 1)) rest there
      → HasOpenQuote place (b ∷ bytes) there
