-- How a line is written, by the status.
use Rattle.std.specs.Prelude.{◌≡◌, ◌≢◌, ℕ, List, [], ◌∷◌, Option}
use Rattle.ge_outside.specs.Faults.{Rose}
use Rattle.ge_outside.specs.Streams.{Gains, GainsPrefix}
use Rattle.ge_model_program.specs.Statuses.{IsOneStatusOf}

-- 0 the line is written, 7 a front of it and a write failed, 10 there was no memory for it
pub record Shows (status : ℕ) (line : List ℕ) (old new : Option (List ℕ)) (before later : ℕ) : Type 0 where
  pub statuses : IsOneStatusOf (0 ∷ 7 ∷ 10 ∷ []) status
  pub whole : status ≡ 0 → Gains old new line
  pub cut : status ≡ 7 → GainsPrefix old new line
  pub unwritten : status ≢ 0 → status ≢ 7 → new ≡ old
  pub written : status ≡ 7 → Rose before later
