-- A walk over predecessors, as a stack and a set.
use Rattle.std.specs.Prelude.{◌≡◌, ℕ, ◌==◌, Bool, List, reverse, Option, Some, None, cond}
use Rattle.std.specs.Borrow.{Bor}
use Rattle.std.specs.BTreeMap.{is_at}
use Rattle.std.specs.BTreeSet.{BTreeSet, contains}
use Rattle.std.specs.List.{list_any}
use Rattle.std.specs.Map.{lookup}
use Rattle.std.specs.Option.{option_map, option_or}
use Rattle.std.specs.Ordering.{nat_cmp}
use Rattle.ge_model_rows.specs.EntryRows.{Patch}
use Rattle.ge_model_core.specs.Reaching.{meets}

-- the patch that is lent for a number
abbrev pub at_lent : ℕ → List (ℕ × Bor Patch) → Option Patch
at_lent q found = option_map (λ p. p.now) (lookup (is_at (nat_cmp q)) found)

-- patches that are lent by number are the first ones of a list
abbrev pub FindsPatches : List (ℕ × Bor Patch) → List (ℕ × Patch) → Type 0
FindsPatches found patches = (q : ℕ) → at_lent q found ≡ lookup (is_at (nat_cmp q)) patches

-- one patch more, unless its number has one
abbrev pub LendsOne : List (ℕ × Bor Patch) → List (ℕ × Bor Patch) → ℕ → Patch → Type 0
LendsOne old new number patch = (q : ℕ) → at_lent q new ≡ option_or (at_lent q old) (cond (is_at (nat_cmp q) number) (Some patch) None)

-- a walk that has gone through the numbers of a set and has those of a stack before it, the last on top, has an answer
pub record Walks (next : ℕ → List ℕ) (goal steps : ℕ) (seen : BTreeSet ℕ) (stack : List ℕ) (answer : Bool) : Type 0 where
  pub met : List ℕ
  pub same : (q : ℕ) → contains nat_cmp seen q ≡ list_any (λ m. m == q) met
  pub rest : meets next goal steps met (reverse stack) ≡ answer
