-- How far the parts of a pattern before its next `*` reach in a name.
use Rattle.std.specs.Prelude.{◌≡◌, ℕ, ◌<◌, ◌≤◌, ◌==◌, Bool, true, false, List, [], ◌∷◌, length, drop, Option, Some, None}
use Rattle.ge_model_text.specs.Pattern.{Piece, Many, pieces_of, takes, set_end}
use Rattle.ge_text.specs.declared.patterns.Reached.{Reached}
use Rattle.ge_text.specs.declared.patterns.Reached.TheVariants.{Whole, Star, Apart}

-- a set begins with a range `a-b`
abbrev pub begins_range : List ℕ → Bool
begins_range [] = false
begins_range (x ∷ []) = false
begins_range (x ∷ y ∷ []) = false
begins_range (x ∷ y ∷ z ∷ rest) = y == 45

-- they stand for the whole name; they reach to a `*`, with the parts and the rest of the name behind it; or
-- they stand for no front of the name, or there is no `*` and more of the name
pub data Reach : Type 0 where
  ToEnd : Reach
  ToStar : (pieces : List Piece) → (rest : List ℕ) → Reach
  Nowhere : Reach

-- a part other than `*` takes the first byte, and the others go on behind it
abbrev pub goes_on : Bool → Reach → Reach
goes_on true others = others
goes_on false others = Nowhere

abbrev pub front_of : List Piece → List ℕ → Reach
front_of [] [] = ToEnd
front_of [] (b ∷ rest) = Nowhere
front_of (Many ∷ pieces) name = ToStar pieces name
front_of (piece ∷ pieces) [] = Nowhere
front_of (piece ∷ pieces) (b ∷ rest) = goes_on (takes piece b) (front_of pieces rest)

abbrev pub IsFront : Reached → Reach → Type 0
IsFront Whole reach = reach ≡ ToEnd
IsFront (Star parts rest) reach = reach ≡ ToStar (pieces_of parts.now) rest.now
IsFront Apart reach = reach ≡ Nowhere

-- what is left behind a `*` is shorter than the pattern, and no longer than the name
abbrev pub IsShorter : Reached → List ℕ → List ℕ → Type 0
IsShorter Whole pattern name = Unit {0}
IsShorter (Star parts rest) pattern name = (length parts.now < length pattern) × (length rest.now ≤ length name)
IsShorter Apart pattern name = Unit {0}

-- by the place where a set ends that begins before so many bytes: there is one exactly where they are more than
-- stand behind the pattern's last `]`
abbrev pub EndTold : ℕ → ℕ → Option ℕ → Type 0
EndTold open_tail left None = left ≤ open_tail
EndTold open_tail left (Some size) = open_tail < left

-- how many these bytes are tells whether a set that begins before them ends
pub record Tells (open_tail : ℕ) (rest : List ℕ) : Type 0 where
  pub told : EndTold open_tail (length rest) (set_end rest)

-- the same of each end of a pattern
pub record KnowsTail (open_tail : ℕ) (pattern : List ℕ) : Type 0 where
  pub tells : (k : ℕ) → Tells open_tail (drop k pattern)

-- the same of what is left behind a `*`
abbrev pub KnowsBehind : Reached → ℕ → Type 0
KnowsBehind Whole open_tail = Unit {0}
KnowsBehind (Star parts rest) open_tail = KnowsTail open_tail parts.now
KnowsBehind Apart open_tail = Unit {0}
