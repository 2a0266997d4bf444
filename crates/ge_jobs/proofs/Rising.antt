-- The keys of a table that are numbers of tasks rise from 1 on.
use Rattle.std.proofs.Common.{◌≡◌, ℕ, ◌<◌, ◌&&◌, Bool, true, false, cond, nat_lt, nat_le, nat_cmp, List, [], ◌∷◌, refl, arith}
use Rattle.std.specs.Prelude.{filter}
use Rattle.std.specs.List.Sorted.{IsStrictlySortedBy}
use Rattle.std.proofs.lemmas.List.Kept.{IsStrictlySortedBy-filter}
use Rattle.std.proofs.lemmas.Map.Keys.{below_from_sorted, sorted_tail}
use Rattle.ge_ranges.specs.Forming.{is_rising}

here : (low k : ℕ) → low < k → nat_lt low k ≡ true
here low k lt = grind arith

alone : (low k : ℕ) → low < k → (nat_lt low k && true) ≡ true
alone low k lt = (λ i. here low k lt i && true)

rise : (low k : ℕ) (keys : List ℕ) → low < k → IsStrictlySortedBy nat_cmp (k ∷ keys) → is_rising low (k ∷ keys) ≡ true
rise low k [] lt sorted = alone low k lt
rise low k (m ∷ keys) lt sorted =
    let next : k < m = below_from_sorted (k ∷ m ∷ keys) 0 1 0 sorted (omega arith) (omega arith) in
    (λ i. here low k lt i && rise k m keys next (sorted_tail nat_cmp k (m ∷ keys) sorted) i)

pub rising_keys : (keys : List ℕ) → IsStrictlySortedBy nat_cmp keys → is_rising 0 (filter (nat_le 1) keys) ≡ true
rising_keys [] sorted = refl
rising_keys (k ∷ keys) sorted =
    by (nat_le 1 k) refl (IsStrictlySortedBy-filter nat_cmp (nat_le 1) (k ∷ keys) sorted) (rising_keys keys (sorted_tail nat_cmp k keys sorted))
  where
    by : (some : Bool) → nat_le 1 k ≡ some → IsStrictlySortedBy nat_cmp (cond some (k ∷ filter (nat_le 1) keys) (filter (nat_le 1) keys))
        → is_rising 0 (filter (nat_le 1) keys) ≡ true → is_rising 0 (cond some (k ∷ filter (nat_le 1) keys) (filter (nat_le 1) keys)) ≡ true
    by true is up rest = rise 0 k (filter (nat_le 1) keys) (let lt : 0 < k = grind arith in lt) up
    by false is up rest = rest
