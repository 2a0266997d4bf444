-- Sets of task numbers in the words of their user.
use Rattle.std.specs.Prelude.{◌≡◌, ◌≢◌, ℕ, ◌≤◌, true, List, []}
use Rattle.ge_model_rows.specs.TaskRows.{TaskSpan, is_form}
use Rattle.ge_model_rows.specs.Ranges.{most_tasks, greatest_task}
use Rattle.ge_model_rows.specs.Sets.{has_number, count_of}

-- a set is spans in their one form: from the least number on, each span is the longest run of numbers with one same step
abbrev pub IsSet : List TaskSpan → Type 0
IsSet spans = is_form spans ≡ true

-- a set that the tasks of one job may be: it has some number, no more than 75,000, and none above 2^31 - 1 (qsub -t)
pub record IsTaskSet (spans : List TaskSpan) : Type 0 where
  pub form : IsSet spans
  pub some : spans ≢ []
  pub few : count_of spans ≤ most_tasks
  pub low : (m : ℕ) → has_number m spans ≡ true → m ≤ greatest_task
