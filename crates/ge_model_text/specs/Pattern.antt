-- What a pattern stands for. `*` stands for any bytes, `?` for one, `[set]` for one of the bytes and ranges
-- `a-b` that it lists. `[` without a later `]` stands for itself, and so does everything else.
use Rattle.std.specs.Prelude.{◌≡◌, ℕ, suc, zero, ◌+◌, ◌==◌, ◌&&◌, ◌||◌, Bool, true, false, IsTrue, if◌then◌else◌, List, [], ◌∷◌, ◌++◌, Option, Some, None, nat_le, take, position}

-- one part of a pattern: `*`, `?`, a byte, or what stands between `[` and `]`
pub data Piece : Type 0 where
  Many : Piece
  One : Piece
  Exactly : (byte : ℕ) → Piece
  Among : (set : List ℕ) → Piece

-- a set has a byte: `a-b` is a range where a byte stands on both sides of `-`, and a `-` at an end is itself
abbrev pub in_set : List ℕ → ℕ → Bool
in_set [] b = false
in_set (x ∷ []) b = b == x
in_set (x ∷ y ∷ []) b = (b == x) || (b == y)
in_set (x ∷ y ∷ z ∷ rest) b =
    elim (y == 45) [ true ↦ (nat_le x b && nat_le b z) || in_set rest b | false ↦ (b == x) || in_set (y ∷ z ∷ rest) b ]

-- where the set that begins before these bytes ends
abbrev pub set_end : List ℕ → Option ℕ
set_end rest = position (λ c. c == 93) rest

-- the part that begins with the byte b, before these bytes
abbrev pub piece_here : ℕ → List ℕ → Piece
piece_here b rest =
    if b == 42 then Many
    else (if b == 63 then One
    else (if b == 91 then elim (set_end rest) [ None ↦ Exactly b | Some size ↦ Among (take size rest) ]
    else Exactly b))

-- how many of these bytes belong to the part that begins with b
abbrev pub rest_of_piece : ℕ → List ℕ → ℕ
rest_of_piece b rest = if b == 91 then elim (set_end rest) [ None ↦ 0 | Some size ↦ size + 1 ] else 0

-- the parts of these bytes, the first `taken` of which belong to a part that is listed
abbrev pub pieces_from : ℕ → List ℕ → List Piece
pieces_from taken [] = []
pieces_from (suc taken) (b ∷ rest) = pieces_from taken rest
pieces_from zero (b ∷ rest) = piece_here b rest ∷ pieces_from (rest_of_piece b rest) rest

-- the parts of a pattern
abbrev pub pieces_of : List ℕ → List Piece
pieces_of pattern = pieces_from 0 pattern

-- a part other than `*` stands for a byte
abbrev pub takes : Piece → ℕ → Bool
takes Many b = false
takes One b = true
takes (Exactly byte) b = b == byte
takes (Among set) b = in_set set b

-- what the parts of a pattern stand for
abbrev pub StandsFor : List Piece → List ℕ → Type 0
StandsFor [] name = name ≡ []
StandsFor (Many ∷ pieces) name = (skipped : List ℕ) × (rest : List ℕ) × (name ≡ skipped ++ rest) × StandsFor pieces rest
StandsFor (One ∷ pieces) name = (b : ℕ) × (rest : List ℕ) × (name ≡ b ∷ rest) × StandsFor pieces rest
StandsFor (Exactly byte ∷ pieces) name = (rest : List ℕ) × (name ≡ byte ∷ rest) × StandsFor pieces rest
StandsFor (Among set ∷ pieces) name = (b : ℕ) × (rest : List ℕ) × (name ≡ b ∷ rest) × IsTrue (in_set set b) × StandsFor pieces rest

-- some end of a list passes a test
abbrev pub some_end : (List ℕ → Bool) → List ℕ → Bool
some_end test [] = test []
some_end test (x ∷ xs) = elim (test (x ∷ xs)) [ true ↦ true | false ↦ some_end test xs ]

-- a byte at the front passes the first test, and what follows it the second
abbrev pub front_and_rest : (ℕ → Bool) → (List ℕ → Bool) → List ℕ → Bool
front_and_rest front test [] = false
front_and_rest front test (b ∷ rest) = front b && test rest

-- the same as a test that computes
abbrev pub covers : List Piece → List ℕ → Bool
covers [] [] = true
covers [] (b ∷ rest) = false
covers (Many ∷ pieces) name = some_end (covers pieces) name
covers (One ∷ pieces) name = front_and_rest (takes One) (covers pieces) name
covers (Exactly byte ∷ pieces) name = front_and_rest (takes (Exactly byte)) (covers pieces) name
covers (Among set ∷ pieces) name = front_and_rest (takes (Among set)) (covers pieces) name

-- a pattern stands for a name
abbrev pub pattern_covers : List ℕ → List ℕ → Bool
pattern_covers pattern name = covers (pieces_of pattern) name
