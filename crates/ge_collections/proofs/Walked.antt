-- A walk over rows that are found goes on, and the one that it comes to is found.
use Rattle.std.proofs.Common.{◌≡◌, ℕ, cond, List, [], ◌∷◌, Some, subst, sym, ap, ◌∙◌}
use Rattle.std.specs.Prelude.{All}
use Rattle.std.specs.BTreeMap.{is_at}
use Rattle.std.specs.Cmp.{nat_cmp_total}
use Rattle.std.specs.List.{AllByRecursion}
use Rattle.std.specs.List.Sorted.{IsStrictlySortedBy}
use Rattle.std.specs.Map.{lookup, keys_of}
use Rattle.std.specs.Ordering.{nat_cmp, is_eq, ordering_reverse}
use Rattle.std.specs.declared.cmp.Ordering.TheVariants.{Less}
use Rattle.std.proofs.lemmas.Cmp.{eq_by_cmp_equiv}
use Rattle.std.proofs.lemmas.List.Elements.{recursion_from_All}
use Rattle.ge_collections.specs.Met.{AreFound, StayFound}

-- at its beginning
pub all_found : {V : Type 0} (rows entries : List (ℕ × V)) → entries ≡ rows → All (λ e. lookup (is_at (nat_cmp e.0)) rows ≡ Some e.1) rows → AreFound rows entries
all_found rows entries is all = subst (λ es. AreFound rows es) (sym is) (recursion_from_All (λ e. lookup (is_at (nat_cmp e.0)) rows ≡ Some e.1) rows all)

-- in rows whose keys rise each is found at its key
pub found_each : {V : Type 0} (rows : List (ℕ × V)) → IsStrictlySortedBy nat_cmp (keys_of rows) → AllByRecursion (λ e. lookup (is_at (nat_cmp e.0)) rows ≡ Some e.1) rows
unfolding IsStrictlySortedBy
found_each [] rising = tt
found_each {V} (row ∷ rows) rising =
    (ap (λ b. cond b (Some row.1) (lookup (is_at (nat_cmp row.0)) rows)) ((eq_by_cmp_equiv nat_cmp_total).refl row.0), further rows rising.0 (found_each rows rising.1))
  where
    further : (more : List (ℕ × V)) → AllByRecursion (λ key. nat_cmp row.0 key ≡ Less) (keys_of more) → AllByRecursion (λ e. lookup (is_at (nat_cmp e.0)) rows ≡ Some e.1) more
        → AllByRecursion (λ e. lookup (is_at (nat_cmp e.0)) (row ∷ rows) ≡ Some e.1) more
    further [] above all = tt
    further (e ∷ more) above all =
        (ap (λ o. cond (is_eq o) (Some row.1) (lookup (is_at (nat_cmp e.0)) rows)) (nat_cmp_total.antisymm e.0 row.0 ∙ ap ordering_reverse above.0) ∙ all.0, further more above.1 all.1)

-- so each row of a walk that begins is found
pub rising_found : {V : Type 0} (rows entries : List (ℕ × V)) → entries ≡ rows → IsStrictlySortedBy nat_cmp (keys_of rows) → AreFound rows entries
rising_found rows entries is rising = subst (λ es. AreFound rows es) (sym is) (found_each rows rising)

module _ {V : Type 0} (before entries rest : List (ℕ × V)) (number : ℕ) (row : V) (left : StayFound before entries) (is : entries ≡ (number, row) ∷ rest) where
  both : (rows : List (ℕ × V)) → AreFound rows before → AreFound rows ((number, row) ∷ rest)
  both rows all = subst (λ es. AreFound rows es) is (left rows all)

  pub further : StayFound before rest
  further rows all = (both rows all).1

  pub found_here : (asked : ℕ) → number ≡ asked → (rows : List (ℕ × V)) → AreFound rows before → lookup (is_at (nat_cmp asked)) rows ≡ Some row
  found_here asked same rows all = subst (λ n. lookup (is_at (nat_cmp n)) rows ≡ Some row) same (both rows all).0
