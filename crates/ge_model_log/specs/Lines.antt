-- The lines that the bytes of the accounting log stand for.
use Rattle.std.specs.Prelude.{◌≡◌, ◌⊎◌, ℕ, Bool, List, [], length, flat_map, Option, Result, Ok, Err, IsTrue}
use Rattle.std.specs.List.{list_all}
use Rattle.ge_model_rows.specs.AccountRows.{Line}
use Rattle.ge_model_codec.specs.Jobs.{line_code}
use Rattle.ge_model_codec.specs.Reading.{Reading}
use Rattle.ge_model_log.specs.declared.Wrong.{Wrong}
use Rattle.ge_model_log.specs.Items.{items_behind, items_in}
use Rattle.ge_model_log.specs.Records.{records_behind}

-- the bytes that are written for a line, and whether they can hold it
unfoldable pub line_bytes : Line → List ℕ
line_bytes line = line_code.write line

unfoldable pub line_fits : Line → Bool
line_fits line = line_code.fits line

-- what is read of a line at a place
unfoldable pub line_reading : List ℕ → ℕ → Reading Line
line_reading bytes at = line_code.read bytes at

-- these lines and those from a place of a body on, in so many steps at most
unfoldable pub lines_behind : ℕ → List ℕ → ℕ → List Line → Option (List Line)
lines_behind steps bytes at lines = items_behind line_code steps bytes at lines

-- the lines of a record's body, if it is whole lines
unfoldable pub lines_in : List ℕ → Option (List Line)
lines_in bytes = items_in line_code bytes

-- the body of a record of lines
abbrev pub bytes_of_lines : List Line → List ℕ
bytes_of_lines lines = flat_map line_bytes lines

-- each line is one that its bytes can hold
abbrev pub AreFit : List Line → Type 0
AreFit lines = IsTrue (list_all line_fits lines)

-- the lines of all records that count, in order, with the place where their list ends; or what is wrong first
abbrev pub logged : List ℕ → Result (List Line × ℕ) Wrong
logged bytes = records_behind lines_in (length bytes) 0 bytes []

abbrev pub without_end : Result (List Line × ℕ) Wrong → Result (List Line) Wrong
without_end (Ok found) = Ok found.0
without_end (Err wrong) = Err wrong

-- the lines that the bytes of a log stand for, or what is wrong first
abbrev pub stands_for : List ℕ → Result (List Line) Wrong
stands_for bytes = without_end (logged bytes)

-- the bytes of a log stand for the ones or for the others
abbrev pub StandsForOneOf : List Line → List Line → List ℕ → Type 0
StandsForOneOf before later bytes = (stands_for bytes ≡ Ok before) ⊎ (stands_for bytes ≡ Ok later)
