-- An open area in its parts. A stop that tears a write keeps some of the parts, so all that may be left is told by them.
use Rattle.std.specs.Prelude.{◌≡◌, ℕ, ◌+◌, ◌<◌, true, false, ◌==◌, List, [], ◌∷◌, ◌++◌, length, drop, slice_index}
use Rattle.ge_model_journal.specs.Area.{number4, number8, is_format, is_bad_generation}
use Rattle.ge_model_journal.specs.Journal.{State}

-- bytes begin with a record whose gate is open, whose length field says how long its body is, and go on with more
pub record Block (front body more : List ℕ) : Type 0 where
  pub field : List ℕ
  pub whole : front ≡ 1 ∷ (field ++ (body ++ more))
  pub width : length field ≡ 4
  pub number : number4 field 0 ≡ length body
  pub some : 0 < length body

-- bytes are records one after the other, each with its gate open and its length field as it stands
abbrev pub IsBlocks : List ℕ → List (List ℕ) → Type 0
IsBlocks front [] = front ≡ []
IsBlocks front (body ∷ bodies) = (more : List ℕ) × Block front body more × IsBlocks more bodies

-- the header and the snapshot of an open area
pub record IsTop (top : List ℕ) (s : State) : Type 0 where
  pub size : length top ≡ 18 + length s.snapshot
  pub gate : slice_index top 0 ≡ 1
  pub format_field : slice_index top 1 ≡ s.format
  pub format_known : is_format s.format ≡ true
  pub generation_field : number8 top 2 ≡ s.generation
  pub generation_good : is_bad_generation s.format s.generation ≡ false
  pub size_field : number8 top 10 ≡ length s.snapshot
  pub kept : drop 18 top ≡ s.snapshot

-- An open area: its header and snapshot, its records, a gate that isn't 1, and whatever stands behind that.
pub record IsArea (bytes : List ℕ) (s : State) (end : ℕ) : Type 0 where
  pub top : List ℕ
  pub front : List ℕ
  pub gate : ℕ
  pub rest : List ℕ
  pub whole : bytes ≡ top ++ (front ++ (gate ∷ rest))
  pub is_top : IsTop top s
  pub is_front : IsBlocks front s.records
  pub closed : (gate == 1) ≡ false
  pub place : end ≡ length top + length front
