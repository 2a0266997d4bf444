-- The statuses that a run may end with.
use Rattle.std.specs.Prelude.{ℕ, ◌==◌, List, IsTrue}
use Rattle.std.specs.List.{list_any}

abbrev pub IsOneStatusOf : List ℕ → ℕ → Type 0
IsOneStatusOf statuses status = IsTrue (list_any (λ s. s == status) statuses)
