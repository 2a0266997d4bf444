-- Numbers that were met, as a set beside their list.
use Rattle.std.specs.Prelude.{◌≡◌, ℕ, List}
use Rattle.std.specs.BTreeSet.{BTreeSet, contains}
use Rattle.std.specs.Ordering.{nat_cmp}
use Rattle.ge_model_rows.specs.Pieces.{lists_number}

-- the set has the numbers of the list
abbrev pub HasMet : BTreeSet ℕ → List ℕ → Type 0
HasMet met numbers = (n : ℕ) → contains nat_cmp met n ≡ lists_number numbers n
