-- Sums as they are kept, with limits that are shared.
use Rattle.std.specs.Prelude.{ℕ, List, map}
use Rattle.std.specs.declared.rc.Rc.{Rc}
use Rattle.ge_model_rows.specs.ScheduleRows.{LimitId}

-- the limits, each with its sum
abbrev pub shown : {A : Type 0} → List (Rc LimitId A × ℕ) → List (LimitId × ℕ)
shown rows = map (λ row. (row.0.value, row.1)) rows
