use Rattle.std.proofs.Common.{◌≡◌, ℕ, ◌||◌}
use Rattle.std.specs.List.{list_any}
use Rattle.std.specs.BTreeSet.{contains}
use Rattle.std.specs.Ordering.{nat_cmp}
use Rattle.ge_model_place.specs.Windows.{runs_in_advance}
use Rattle.ge_windows.proofs.bookings.numbers_in_use.Given as goal

abbrev pub invariant-loop-key : goal.invariant-loop-key
invariant-loop-key l = (number : ℕ) → (contains nat_cmp l.numbers number || list_any (runs_in_advance number) l.key-iterator) ≡ list_any (runs_in_advance number) l.jobs
