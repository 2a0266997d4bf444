-- Options and their words (qsub, qalter).
use Rattle.std.specs.Prelude.{ℕ, Bool, ◌&&◌, if◌then◌else◌, List, [], ◌∷◌, map, take, fold, is_some, Option, Some, None, codes}
use Rattle.std.specs.Option.{option_zip}
use Rattle.ge_limits.specs.Limits as limit
use Rattle.ge_rows.specs.Keyed.{at_text}
use Rattle.ge_model_grammar.specs.Names.{is_job_name_byte, begins_with_digit}
use Rattle.ge_model_rows.specs.Pieces.{is_empty, pieces_at, before_byte, behind_byte, has_byte}
use Rattle.ge_model_rows.specs.Ranges.{digits_number}

-- options with their words
abbrev pub Given : Type 0
Given = List (List ℕ × List (List ℕ))

-- the words of an option that a command has
abbrev pub option_words : Given → List ℕ → Option (List (List ℕ))
option_words options name = at_text options name

-- whether it has the option
abbrev pub has_option : Given → List ℕ → Bool
has_option options name = is_some (option_words options name)

-- a number, or another one where none is written
abbrev pub number_or : ℕ → List ℕ → Option ℕ
number_or other text = if is_empty text then Some other else digits_number text

-- a range of which one end may be left out
abbrev pub open_range : List ℕ → List ℕ → Option (ℕ × ℕ)
open_range low high = if is_empty low && is_empty high then None else option_zip (number_or 1 low) (number_or limit.slots high)

-- the range of slots of -pe: n, n-m, -m (from 1) or n- (to the greatest number of slots)
abbrev pub slot_range_of : List ℕ → Option (ℕ × ℕ)
slot_range_of text =
    if has_byte 45 text then open_range (before_byte 45 text) (behind_byte 45 text)
    else open_range text text

-- the last of these
abbrev pub last_of : List (List ℕ) → List ℕ
last_of texts = fold (λ before text. text) [] texts

-- a byte that a job name may not have becomes _
abbrev pub name_byte : ℕ → ℕ
name_byte b = if is_job_name_byte b then b else 95

-- a job name doesn't begin with a digit, so J is put before one
abbrev pub before_digit : List ℕ → List ℕ
before_digit name = if begins_with_digit name then 74 ∷ name else name

-- an empty name becomes STDIN
abbrev pub or_stdin : List ℕ → List ℕ
or_stdin name = if is_empty name then codes "STDIN" else name

-- the name of a job that is made of its command: what stands behind its last /, its first 128 bytes
abbrev pub command_name : List ℕ → List ℕ
command_name command = or_stdin (take 128 (before_digit (map name_byte (take 128 (last_of (pieces_at 47 command))))))
