-- Rows of a table by number that are taken out one by one.
use Rattle.std.proofs.Common.{◌≡◌, ℕ, ◌+◌, ◌≤◌, ◌<◌, ◌==◌, ◌||◌, Bool, true, false, not, cond, List, [], ◌∷◌, fold, filter, refl, ap, ◌∙◌, arith}
use Rattle.std.specs.Ordering.{nat_cmp}
use Rattle.std.specs.BTreeMap.{is_at}
use Rattle.std.specs.List.{list_any}
use Rattle.std.specs.List.Sorted.{IsStrictlySortedBy}
use Rattle.std.specs.Map.{keys_of}
use Rattle.std.proofs.lemmas.Bool.{true≢false, eq-eqb}
use Rattle.std.proofs.lemmas.Map.Keys.{below_from_sorted, sorted_tail}
use Rattle.ge_collections.specs.Keyed.{drop_number}
use Rattle.ge_model_rows.specs.JobRows.{Job, Advance}
use Rattle.ge_model_jobs.specs.Orderly.{KeysFrom}
use Rattle.ge_model_jobs.specs.Starting.{is_left, left_booked}
use Rattle.ge_model_jobs.proofs.Keys.{same_key, filter_rises}
use Rattle.ge_applying.specs.Over.{over_numbers}

-- whether a number is at one of these keys
abbrev is_among : ℕ → List ℕ → Bool
is_among n keys = list_any (λ k. is_at (nat_cmp k) n) keys

at_itself : (n : ℕ) → is_at (nat_cmp n) n ≡ true
at_itself n = same_key n n ∙ eq-eqb n n refl

not_above : (n k : ℕ) → n < k → (k == n) ≡ false
not_above n k lt = grind arith

module _ {X : Type 0} where
  -- keys that rise strictly, from the first on
  keys_behind : (low : ℕ) (row : ℕ × X) (rows : List (ℕ × X)) → low ≤ row.0 → IsStrictlySortedBy nat_cmp (keys_of (row ∷ rows)) → KeysFrom low (row ∷ rows)
  keys_behind low row [] p sorted = (p, tt)
  keys_behind low row (next ∷ rows) p sorted =
      let higher : row.0 < next.0 = below_from_sorted (row.0 ∷ next.0 ∷ keys_of rows) 0 1 0 sorted (omega arith) (omega arith) in
      (p, keys_behind (row.0 + 1) next rows (omega arith) (sorted_tail nat_cmp row.0 (next.0 ∷ keys_of rows) sorted))

  all_keys : (rows : List (ℕ × X)) → IsStrictlySortedBy nat_cmp (keys_of rows) → KeysFrom 0 rows
  all_keys [] sorted = tt
  all_keys (row ∷ rows) sorted = keys_behind 0 row rows (omega arith) sorted

  -- a lower number isn't among keys
  apart : (n low : ℕ) (rows : List (ℕ × X)) → n < low → KeysFrom low rows → is_among n (keys_of rows) ≡ false
  apart n low [] lt keys = refl
  apart n low (row ∷ rows) lt (above, keys) =
      let higher : n < row.0 = omega (arith, lt, above) in
      let later = apart n (row.0 + 1) rows (omega (arith, higher)) keys in
      (λ i. (same_key row.0 n ∙ not_above n row.0 higher) i || later i)

  drop_passes : (row : ℕ × X) (rows : List (ℕ × X)) (k : ℕ) → is_at (nat_cmp k) row.0 ≡ false → drop_number (row ∷ rows) k ≡ row ∷ drop_number rows k
  drop_passes row rows k at = ap (λ b. cond b rows (row ∷ drop_number rows k)) at

  -- a row stays whose number isn't among those that are taken out
  stays : (row : ℕ × X) (rows : List (ℕ × X)) (ks : List ℕ) → is_among row.0 ks ≡ false → fold drop_number (row ∷ rows) ks ≡ row ∷ fold drop_number rows ks
  stays row rows [] apart = refl
  stays row rows (k ∷ ks) apart = by (is_at (nat_cmp k) row.0) refl (stays row (drop_number rows k) ks) apart
    where
      by : (b : Bool) → is_at (nat_cmp k) row.0 ≡ b → (is_among row.0 ks ≡ false → fold drop_number (row ∷ drop_number rows k) ks ≡ row ∷ fold drop_number (drop_number rows k) ks)
          → (b || is_among row.0 ks) ≡ false → fold drop_number (drop_number (row ∷ rows) k) ks ≡ row ∷ fold drop_number (drop_number rows k) ks
      by true at rest apart = absurd (true≢false apart)
      by false at rest apart = ap (λ (rs : List (ℕ × X)). fold drop_number rs ks) (drop_passes row rows k at) ∙ rest apart

  -- the rows that a test keeps are left
  removed : (keep : ℕ × X → Bool) (low : ℕ) (rows : List (ℕ × X)) → KeysFrom low rows
      → fold drop_number rows (keys_of (filter (λ row. not (keep row)) rows)) ≡ filter keep rows
  removed keep low [] keys = refl
  removed keep low (row ∷ rows) (above, keys) = by (keep row) (removed keep (row.0 + 1) rows keys)
    where
      gone : List (ℕ × X)
      gone = filter (λ row. not (keep row)) rows

      by : (b : Bool) → fold drop_number rows (keys_of gone) ≡ filter keep rows
          → fold drop_number (row ∷ rows) (keys_of (cond (not b) (row ∷ gone) gone)) ≡ cond b (row ∷ filter keep rows) (filter keep rows)
      by true rest =
          stays row rows (keys_of gone) (apart row.0 (row.0 + 1) gone (omega arith) (filter_rises (row.0 + 1) (λ row. not (keep row)) rows keys))
          ∙ ap (λ (rs : List (ℕ × X)). row ∷ rs) rest
      by false rest = ap (λ b. fold drop_number (cond b rows (row ∷ drop_number rows row.0)) (keys_of gone)) (at_itself row.0) ∙ rest

-- the reservations that a run leaves, those that it takes out being taken out one by one
pub all_left : (moment : ℕ) (jobs : List (ℕ × Job)) (rows new : List (ℕ × Advance)) (numbers : List ℕ) → IsStrictlySortedBy nat_cmp (keys_of rows)
    → numbers ≡ over_numbers moment jobs rows → new ≡ fold drop_number rows numbers → new ≡ left_booked moment jobs rows
all_left moment jobs rows new numbers sorted over after =
    after ∙ ap (λ (ks : List ℕ). fold drop_number rows ks) over ∙ removed (is_left moment jobs) 0 rows (all_keys rows sorted)
