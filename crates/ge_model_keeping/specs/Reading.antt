-- The value that a journal's snapshot and records hold.
use Rattle.std.specs.Prelude.{ℕ, ◌+◌, List, [], ◌∷◌, length, Option, Some, None, Result, Ok, Err}
use Rattle.ge_model_journal.specs.Journal.{State}

-- what there is, or the place where it isn't
abbrev pub or_at : {T : Type 0} → ℕ → Option T → Result T ℕ
or_at place None = Err place
or_at place (Some t) = Ok t

-- start: what a snapshot stands for; step: what a record makes of what stood before it, if it can be read
module _ {T : Type 0} (start : List ℕ → Result T ℕ) (step : T → List ℕ → Option T) where
  -- what stands after a record at a place, behind what stood or was wrong before
  abbrev pub at_record : ℕ → List ℕ → Result T ℕ → Result T ℕ
  at_record place bytes (Err wrong) = Err wrong
  at_record place bytes (Ok t) = or_at place (step t bytes)

  -- what stands after records, of which the first begins at a place; between two of them stand a gate and a length
  abbrev pub after_records : ℕ → List (List ℕ) → Result T ℕ → Result T ℕ
  after_records place [] t = t
  after_records place (bytes ∷ more) t = after_records (place + 5 + length bytes) more (at_record place bytes t)

  -- what a state stands for, or the place of the first byte of the snapshot or record that can't be read
  abbrev pub held_in : State → Result T ℕ
  held_in s = after_records (23 + length s.snapshot) s.records (start s.snapshot)
