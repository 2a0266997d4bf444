-- The bytes that a journal writes.
use Rattle.std.specs.Prelude.{ℕ, nat_lt, if◌then◌else◌, List, [], ◌∷◌, ◌++◌, length}
use Rattle.std.specs.Int.{bytes_high_first}
use Rattle.ge_model_journal.specs.Disk.{overwritten}
use Rattle.ge_model_journal.specs.Area.{written_format}
use Rattle.ge_model_journal.specs.declared.Choice.{Choice}
use Rattle.ge_model_journal.specs.declared.Choice.TheVariants.{Neither, Chosen, Wrong}

-- a record: its gate, its length, its body, and the gate that ends the list behind it
unfoldable pub bytes_of_record : List ℕ → List ℕ
bytes_of_record body = 1 ∷ (bytes_high_first 4 (length body) ++ (body ++ 0 ∷ []))

-- an area with no records: its gate, format, generation, size of the snapshot, the snapshot, and the gate that ends the list
unfoldable pub bytes_of_area : ℕ → List ℕ → List ℕ
bytes_of_area generation snapshot =
    1 ∷ (written_format ∷ (bytes_high_first 8 generation ++ (bytes_high_first 8 (length snapshot) ++ (snapshot ++ 0 ∷ []))))

-- an area below 19 bytes gets a closed gate
abbrev pub padded : List ℕ → List ℕ
padded bytes = if nat_lt (length bytes) 19 then overwritten bytes 0 (0 ∷ []) else bytes

-- What opening leaves of the first area: where none is open, it is filled; where a header is wrong, nothing is written.
abbrev pub first_opened : Choice → List ℕ → List ℕ
first_opened Neither bytes = overwritten bytes 0 (bytes_of_area 1 [])
first_opened (Chosen second header) bytes = padded bytes
first_opened (Wrong area place) bytes = bytes

-- and of the second
abbrev pub second_opened : Choice → List ℕ → List ℕ
second_opened Neither bytes = padded bytes
second_opened (Chosen second header) bytes = padded bytes
second_opened (Wrong area place) bytes = bytes
