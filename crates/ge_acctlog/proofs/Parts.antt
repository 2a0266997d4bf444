-- A log in its parts. A stop that tears a write keeps some of the parts, so all that may be left is told by them.
use Rattle.std.specs.Prelude.{◌≡◌, ℕ, ◌+◌, true, false, ◌==◌, List, [], ◌∷◌, ◌++◌, length, Option, Some}
use Rattle.ge_spool.proofs.Parts.{IsBlocks}
use Rattle.ge_model_log.specs.Records.{ends_list}

-- what ends a list of records: nothing, or a byte that does with what follows it
abbrev pub IsEnding : List ℕ → Type 0
IsEnding [] = Unit {0}
IsEnding (gate ∷ rest) = ends_list gate rest ≡ true

module _ {X : Type 0} (read_body : List ℕ → Option (List X)) where
  -- all bodies can be read, and behind some items their items make all
  abbrev pub AreRead : List (List ℕ) → List X → List X → Type 0
  AreRead [] items all = items ≡ all
  AreRead (body ∷ bodies) items all = (more : List X) × (read_body body ≡ Some more) × AreRead bodies (items ++ more) all

  -- bytes that begin at a place: records, and what ends their list
  pub record IsFound (bytes : List ℕ) (items all : List X) (place end : ℕ) : Type 0 where
    pub bodies : List (List ℕ)
    pub front : List ℕ
    pub tail : List ℕ
    pub whole : bytes ≡ front ++ tail
    pub is_front : IsBlocks front bodies
    pub are_read : AreRead bodies items all
    pub ending : IsEnding tail
    pub reached : end ≡ place + length front

  -- a whole log: its records, a gate that isn't 1, and whatever stands behind that
  pub record IsLog (bytes : List ℕ) (all : List X) (end : ℕ) : Type 0 where
    pub bodies : List (List ℕ)
    pub front : List ℕ
    pub gate : ℕ
    pub rest : List ℕ
    pub whole : bytes ≡ front ++ (gate ∷ rest)
    pub is_front : IsBlocks front bodies
    pub are_read : AreRead bodies [] all
    pub closed : (gate == 1) ≡ false
    pub place : end ≡ length front

  -- records whose bodies are read as these items
  pub record HasRecords (front : List ℕ) (more : List X) : Type 0 where
    pub bodies : List (List ℕ)
    pub are_blocks : IsBlocks front bodies
    pub are_read : AreRead bodies [] more
