-- What an index keeps beside its rows: two sums, and how often the row at each key bears each mark.
use Rattle.std.specs.Prelude.{◌≡◌, ℕ, zero, suc, Bool, true, cond, List, [], ◌∷◌, Option, Some, None}
use Rattle.std.specs.List.{sum_by}
use Rattle.std.specs.Map.{lookup, values_of}
use Rattle.std.specs.BTreeMap.{is_at}
use Rattle.std.specs.declared.cmp.Ordering.{Ordering}
use Rattle.ge_job_index.specs.Marked.{times}
use Rattle.ge_job_index.specs.declared.keys.Keys.{Keys}
use Rattle.ge_job_index.specs.declared.keys.Keys.TheVariants.{One, Many}

-- a count that is noted only where it isn't zero
abbrev pub nonzero : ℕ → Option ℕ
nonzero zero = None
nonzero (suc n) = Some (suc n)

-- keys with how often each is noted
abbrev pub entries_of : {K : Type 0} → Keys K → List (K × ℕ)
entries_of (One key count) = (key, count) ∷ []
entries_of (Many counts) = counts.value.entries

module _ {V M : Type 0} (cmp : M → M → Ordering) (marks : V → List M) where
  -- how often a row that may not be there bears a mark
  abbrev pub times_at : M → Option V → ℕ
  times_at mark None = 0
  times_at mark (Some row) = times cmp mark (marks row)

module _ {K : Type 0} (order : K → K → Ordering) where
  -- how often a key is noted among those of a mark that may not be there
  abbrev pub noted_in : Option (Keys K) → K → Option ℕ
  noted_in None key = None
  noted_in (Some keys) key = lookup (is_at (order key)) (entries_of keys)

  -- a number that counts at one key, and nothing elsewhere
  abbrev pub only_at : K → ℕ → K → ℕ
  only_at key n q = cond (is_at (order key) q) n 0

module _ {K M : Type 0} (order : K → K → Ordering) (cmp : M → M → Ordering) where
  -- how often a ledger notes a key at a mark
  abbrev pub noted : List (M × Keys K) → M → K → Option ℕ
  noted ledger mark key = noted_in order (lookup (is_at (cmp mark)) ledger) key

  -- a ledger notes these counts
  abbrev pub Counts : List (M × Keys K) → (M → K → ℕ) → Type 0
  Counts ledger count = (mark : M) (key : K) → noted ledger mark key ≡ nonzero (count mark key)

  -- a ledger that is whole notes these counts
  abbrev pub Tells : Bool → List (M × Keys K) → (M → K → ℕ) → Type 0
  Tells whole ledger count = whole ≡ true → Counts ledger count

-- sums that are whole are these
abbrev pub AreSums : Bool → ℕ → ℕ → ℕ → ℕ → Type 0
AreSums whole first second a b = whole ≡ true → (first ≡ a) × (second ≡ b)

-- the sum of a weight of rows
abbrev pub weight_of : {K V : Type 0} → (V → ℕ) → List (K × V) → ℕ
weight_of weight rows = sum_by weight (values_of rows)
