-- Jobs and tasks on the line of a command (qalter, qdel, qhold, qrls, qmod).
use Rattle.std.specs.Prelude.{ℕ, ◌+◌, ◌-◌, ◌^◌, min, Bool, not, ◌&&◌, ◌||◌, ◌==◌, if◌then◌else◌, List, flat_map, Option, Some, None, option_map}
use Rattle.std.specs.List.{list_all}
use Rattle.ge_model_rows.specs.EntryRows.{Pick}
use Rattle.ge_model_rows.specs.TaskRows.{TaskSpan}
use Rattle.ge_model_rows.specs.Pieces.{is_empty, pieces_at, before_byte, behind_byte, has_byte}
use Rattle.ge_model_rows.specs.Ranges.{digits_number, range_of, range_set}
use Rattle.ge_model_grammar.specs.Lines.{read_each}

-- digits as a number that is cut at a greatest one
abbrev pub cut_number : ℕ → List ℕ → Option ℕ
cut_number greatest word = option_map (min greatest) (digits_number word)

-- the number of a job
abbrev pub job_number_of : List ℕ → Option ℕ
job_number_of word = cut_number (2 ^ 32 - 1) word

-- a number of 64 bits
abbrev pub wide_number : List ℕ → Option ℕ
wide_number word = cut_number (2 ^ 64 - 1) word

-- items that words hold, each word some that commas join
abbrev pub items_of : List (List ℕ) → List (List ℕ)
items_of words = flat_map (λ word. pieces_at 44 word) words

-- what a reader gives for the items of at least one word
abbrev pub read_items : {T : Type 0} → (List ℕ → Option T) → List (List ℕ) → Option (List T)
read_items read words = if is_empty words then None else read_each read (items_of words)

-- jobs
abbrev pub job_numbers_of : List (List ℕ) → Option (List ℕ)
job_numbers_of words = read_items job_number_of words

-- a job with all its tasks
abbrev pub whole_job : ℕ → Pick
whole_job job = record { job = job; tasks = None }

-- a job with the tasks of a range
abbrev pub some_tasks : ℕ → TaskSpan → Pick
some_tasks job range = record { job = job; tasks = Some (range_set range) }

-- a job, or a job, a point and a range of its tasks
abbrev pub target_of : List ℕ → Option Pick
target_of item =
    elim (job_number_of (before_byte 46 item)) [
      | None ↦ None
      | Some job ↦ if has_byte 46 item then option_map (some_tasks job) (range_of (behind_byte 46 item)) else Some (whole_job job)
    ]

-- targets
abbrev pub targets_of : List (List ℕ) → Option (List Pick)
targets_of words = read_items target_of words

-- u, o and s stand for the holds of users, operators and the system
abbrev pub is_hold_letter : ℕ → Bool
is_hold_letter b = b == 117 || b == 111 || b == 115

-- the bit of a hold, where its letter is there
abbrev pub bit_of : ℕ → List ℕ → ℕ → ℕ
bit_of letter letters bit = if has_byte letter letters then bit else 0

-- the holds that letters stand for, at least one, each perhaps more than once
abbrev pub holds_of_letters : List ℕ → Option ℕ
holds_of_letters letters =
    if not (is_empty letters) && list_all is_hold_letter letters then Some (bit_of 117 letters 1 + bit_of 111 letters 2 + bit_of 115 letters 4) else None
