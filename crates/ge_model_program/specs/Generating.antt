-- A run of `generate`: the script of a number is written.
use Rattle.std.specs.Prelude.{◌≡◌, ℕ, List, [], ◌∷◌, Option}
use Rattle.ge_outside.specs.Faults.{Rose}
use Rattle.ge_outside.specs.Streams.{Gains, GainsPrefix}
use Rattle.ge_model_grammar.specs.Generated.{generated_script}
use Rattle.ge_model_program.specs.Statuses.{IsOneStatusOf}

-- Exit statuses of a run that reads nothing: 0 done, 7 a write failed, 10 want of memory.
abbrev pub IsWriterStatus : ℕ → Type 0
IsWriterStatus status = IsOneStatusOf (0 ∷ 7 ∷ 10 ∷ []) status

-- old and new: what the output holds before and after the run; writes: its counts of faults
pub record Generates (status number : ℕ) (old new : Option (List ℕ)) (writes_before writes_after : ℕ) : Type 0 where
  pub statuses : IsWriterStatus status
  pub whole : status ≡ 0 → Gains old new (generated_script number)
  pub front : GainsPrefix old new (generated_script number)
  pub written : status ≡ 7 → Rose writes_before writes_after
