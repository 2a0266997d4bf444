-- Ranges of task numbers, as they are written.
use Rattle.std.specs.Prelude.{ℕ, ◌+◌, ◌-◌, ◌*◌, ◌^◌, Bool, true, false, ◌&&◌, if◌then◌else◌, nat_le, List, [], ◌∷◌, codes, Option, Some, None, option_and_then, option_map, Result, Ok, Err}
use Rattle.ge_limits.specs.Limits as limit
use Rattle.ge_model_rows.specs.TaskRows.{TaskSpan}
use Rattle.ge_model_rows.specs.Pieces.{pieces_at, before_byte, behind_byte, has_byte, is_digits, number_of}
use Rattle.ge_model_rows.specs.declared.RangeFault.{RangeFault}
use Rattle.ge_model_rows.specs.declared.RangeFault.TheVariants.{Syntax, Limit}
use Rattle.ge_model_rows.specs.Spans.{steps_of, below_in}
use Rattle.ge_model_rows.specs.Sets.{count_of, union}

-- the range of three numbers, if they may make one: the first and the step are at least 1, and the last isn't below the first
abbrev pub range_from : ℕ → ℕ → ℕ → Option TaskSpan
range_from first last step =
    if nat_le 1 first && nat_le first last && nat_le 1 step then Some (record { first = first; last = last; step = step }) else None

-- the number of digits
abbrev pub digits_number : List ℕ → Option ℕ
digits_number text = if is_digits text then Some (number_of text) else None

-- a range of the texts of its three numbers
abbrev pub range_of_texts : List ℕ → List ℕ → List ℕ → Option TaskSpan
range_of_texts first last step =
    option_and_then (λ n. option_and_then (λ m. option_and_then (range_from n m) (digits_number step)) (digits_number last)) (digits_number first)

-- what stands behind the dash of a range: the last number, and a step where there is a colon
abbrev pub range_up_to : List ℕ → List ℕ → Option TaskSpan
range_up_to first rest =
    if has_byte 58 rest then range_of_texts first (before_byte 58 rest) (behind_byte 58 rest)
    else range_of_texts first rest (codes "1")

-- a range as qsub -t has it, n, n-m or n-m:s with n and s at least 1 and m at least n, of any size
abbrev pub range_of : List ℕ → Option TaskSpan
range_of text =
    if has_byte 45 text then range_up_to (before_byte 45 text) (behind_byte 45 text)
    else range_of_texts text text (codes "1")

-- a range whose last number is one that its steps reach
abbrev pub reached : TaskSpan → TaskSpan
reached range = record range { last = range.first + steps_of range * range.step }

-- how many numbers a range has
abbrev pub range_count : TaskSpan → ℕ
range_count range = steps_of range + 1

-- the numbers of a range below 2^32, as a set
abbrev pub range_set : TaskSpan → List TaskSpan
range_set range = below_in (2 ^ 32) range

-- the most tasks that a job may have, and the greatest number that one may have
abbrev pub most_tasks : ℕ
most_tasks = limit.tasks

abbrev pub greatest_task : ℕ
greatest_task = limit.last_task

-- whether a range has no more numbers than a job may have, and none that a task may not have
abbrev pub is_within_limits : TaskSpan → Bool
is_within_limits range = nat_le (range_count range) most_tasks && nat_le (reached range).last greatest_task

-- a set with the numbers of more ranges, each within the limits
abbrev pub with_ranges : List TaskSpan → List TaskSpan → Result (List TaskSpan) RangeFault
with_ranges set [] = Ok set
with_ranges set (range ∷ ranges) = elim (is_within_limits range && nat_le (count_of (union set (range_set range))) most_tasks) [
  | true ↦ with_ranges (union set (range_set range)) ranges
  | false ↦ Err Limit
]

-- the ranges of texts, if each is the text of one
abbrev pub ranges_of : List (List ℕ) → Option (List TaskSpan)
ranges_of [] = Some []
ranges_of (text ∷ texts) = option_and_then (λ range. option_map (λ ranges. range ∷ ranges) (ranges_of texts)) (range_of text)

-- the set of these ranges, if there are such
abbrev pub set_of_ranges : Option (List TaskSpan) → Result (List TaskSpan) RangeFault
set_of_ranges None = Err Syntax
set_of_ranges (Some ranges) = with_ranges [] ranges

-- the set of one or more ranges joined by commas, in any order
unfoldable pub parsed_set : List ℕ → Result (List TaskSpan) RangeFault
parsed_set text = set_of_ranges (ranges_of (pieces_at 44 text))
