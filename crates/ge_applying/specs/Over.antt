-- The advance reservations that a run takes out.
use Rattle.std.specs.Prelude.{ℕ, Bool, not, List, filter}
use Rattle.std.specs.Map.{keys_of}
use Rattle.ge_model_rows.specs.JobRows.{Job, Advance}
use Rattle.ge_model_jobs.specs.Starting.{is_left}

-- whether a reservation isn't left by a run at a moment
abbrev pub is_over : ℕ → List (ℕ × Job) → ℕ × Advance → Bool
is_over moment jobs booked = not (is_left moment jobs booked)

-- the numbers of those that it takes out
abbrev pub over_numbers : ℕ → List (ℕ × Job) → List (ℕ × Advance) → List ℕ
over_numbers moment jobs booked = keys_of (filter (is_over moment jobs) booked)
