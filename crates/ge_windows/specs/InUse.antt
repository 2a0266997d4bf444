-- The reservations in which a task runs.
use Rattle.std.specs.Prelude.{◌≡◌, ℕ, List}
use Rattle.std.specs.List.{list_any}
use Rattle.std.specs.BTreeSet.{BTreeSet, contains}
use Rattle.std.specs.Ordering.{nat_cmp}
use Rattle.ge_model_rows.specs.JobRows.{Job}
use Rattle.ge_model_place.specs.Windows.{runs_in_advance}

-- the set has a number just where a task of a job runs that was sent into the reservation of that number
abbrev pub AreInUse : BTreeSet ℕ → List (ℕ × Job) → Type 0
AreInUse numbers jobs = (number : ℕ) → contains nat_cmp numbers number ≡ list_any (runs_in_advance number) jobs
