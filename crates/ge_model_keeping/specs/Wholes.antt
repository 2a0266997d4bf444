-- The value that a state holds whose snapshot and records are each a whole value: the last of them.
use Rattle.std.specs.Prelude.{ℕ, List, [], ◌∷◌, Option, Result, Ok}
use Rattle.ge_model_journal.specs.Journal.{State}
use Rattle.ge_model_keeping.specs.Reading.{or_at, held_in}

-- part: the value that bytes are, if they are one; first: the value where nothing was written yet
module _ {T : Type 0} (part : List ℕ → Option T) (first : T) where
  -- the value of a snapshot, whose bytes stand behind a header of 18; the first value where there are none
  abbrev pub in_snapshot : List ℕ → Result T ℕ
  in_snapshot [] = Ok first
  in_snapshot (b ∷ bytes) = or_at 18 (part (b ∷ bytes))

  -- the value of a record counts in the place of the one before
  abbrev pub in_record : T → List ℕ → Option T
  in_record before bytes = part bytes

  -- the value that a state holds, or the place of the first of its parts that is none
  abbrev pub held : State → Result T ℕ
  held s = held_in in_snapshot in_record s
