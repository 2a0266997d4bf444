-- What the two ways of writing to an area may leave at any moment.
use Rattle.std.specs.Prelude.{◌⊎◌, ℕ, ◌+◌, Bool, true, false, List, [], ◌∷◌, length}
use Rattle.ge_model_journal.specs.Disk.{overwritten}
use Rattle.ge_spool.specs.Moments.{Torn}

-- A piece is written behind a gate, and then the gate is opened.
abbrev pub IsBehindImage : ℕ → List ℕ → List ℕ → List ℕ → Type 0
IsBehindImage gate piece bytes image =
    Torn (gate + 1) (length piece) bytes image ⊎ Torn gate 1 (overwritten bytes (gate + 1) piece) image

-- and the bytes after it
abbrev pub opened_behind : ℕ → List ℕ → List ℕ → List ℕ
opened_behind gate piece bytes = overwritten (overwritten bytes (gate + 1) piece) gate (1 ∷ [])

-- an area's bytes with its own gate closed, where that has to be
abbrev pub closed_first : Bool → List ℕ → List ℕ
closed_first false bytes = bytes
closed_first true bytes = overwritten bytes 0 (0 ∷ [])

-- An area is filled anew: its gate is closed, where that has to be, the piece is written behind it, and it is opened.
abbrev pub IsRefillImage : Bool → List ℕ → List ℕ → List ℕ → Type 0
IsRefillImage false piece bytes image = IsBehindImage 0 piece bytes image
IsRefillImage true piece bytes image = Torn 0 1 bytes image ⊎ IsBehindImage 0 piece (overwritten bytes 0 (0 ∷ [])) image

-- and the bytes after it
abbrev pub refilled : Bool → List ℕ → List ℕ → List ℕ
refilled close piece bytes = opened_behind 0 piece (closed_first close bytes)
