-- Rows that a walk comes to.
use Rattle.std.specs.Prelude.{◌≡◌, ℕ, List, Some}
use Rattle.std.specs.BTreeMap.{is_at}
use Rattle.std.specs.List.{AllByRecursion}
use Rattle.std.specs.Map.{lookup}
use Rattle.std.specs.Ordering.{nat_cmp}

-- each of these entries is what rows have at its number
abbrev pub AreFound : {V : Type 0} → List (ℕ × V) → List (ℕ × V) → Type 0
AreFound rows entries = AllByRecursion (λ e. lookup (is_at (nat_cmp e.0)) rows ≡ Some e.1) entries

-- of whatever rows the ones are, the others are too
abbrev pub StayFound : {V : Type 0} → List (ℕ × V) → List (ℕ × V) → Type 0
StayFound {V} before after = (rows : List (ℕ × V)) → AreFound rows before → AreFound rows after
