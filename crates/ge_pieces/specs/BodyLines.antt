-- The lines of a body as they are read, one after the other.
use Rattle.std.specs.Prelude.{◌≡◌, ℕ, Bool, ◌||◌, ◌==◌, List, ◌∷◌, ◌++◌, filter}
use Rattle.ge_model_grammar.specs.Lines.{is_plain_byte}
use Rattle.ge_model_grammar.specs.Bodies.{joined_lines, counts}

-- a line feed, or a byte that a plain line may have
abbrev pub plain_or_feed : ℕ → Bool
plain_or_feed b = b == 10 || is_plain_byte b

-- the lines that were kept, and what the one that is being joined makes with those behind it
abbrev pub lines_after : List (List ℕ) → List ℕ → List (List ℕ) → List (List ℕ)
lines_after kept line behind = kept ++ filter counts (joined_lines line behind)

-- a step from the lines kept before and a line to those kept after and another has taken up the next line, whatever stands behind it
abbrev pub TakesUp : List ℕ → List (List ℕ) → List ℕ → List (List ℕ) → List ℕ → Type 0
TakesUp next before line after other = (behind : List (List ℕ)) → lines_after after other behind ≡ lines_after before line (next ∷ behind)
