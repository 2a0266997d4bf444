-- What an index is asked of its rows.
use Rattle.std.specs.Prelude.{ℕ, ◌-◌, ◌^◌, min, Bool, false, not, ◌&&◌, List, map, flat_map, Option, Some, None}
use Rattle.std.specs.List.{list_any, find, filter}
use Rattle.std.specs.Map.{keys_of}
use Rattle.std.specs.BTreeMap.{is_at}
use Rattle.std.specs.Ordering.{is_le, ordering_then}
use Rattle.std.specs.declared.cmp.Ordering.{Ordering}
use Rattle.ge_job_index.specs.Kept.{entries_of, weight_of}
use Rattle.ge_job_index.specs.Marked.{is_among}
use Rattle.ge_job_index.specs.declared.keys.Keys.{Keys}

-- the sum of a weight of rows, cut at 2^128 - 1
abbrev pub cut_weight : {K V : Type 0} → (V → ℕ) → List (K × V) → ℕ
cut_weight weight rows = min (weight_of weight rows) (2 ^ 128 - 1)

module _ {V M : Type 0} (cmp : M → M → Ordering) (marks : V → List M) where
  -- whether a row that may not be there bears a mark
  abbrev pub bears : M → Option V → Bool
  bears mark None = false
  bears mark (Some row) = is_among cmp mark (marks row)

module _ {K V M : Type 0} (cmp : M → M → Ordering) (marks : V → List M) (mark : M) where
  -- the first row that bears a mark, with its key
  abbrev pub first_bearer : List (K × V) → Option (K × V)
  first_bearer rows = find (λ e. is_among cmp mark (marks e.1)) rows

  -- whether some row bears a mark
  abbrev pub is_borne : List (K × V) → Bool
  is_borne rows = list_any (λ e. is_among cmp mark (marks e.1)) rows

  -- the keys of the rows that bear a mark
  abbrev pub bearers_of : List (K × V) → List K
  bearers_of rows = keys_of (filter (λ e. is_among cmp mark (marks e.1)) rows)

module _ {K M : Type 0} (order : K → K → Ordering) (cmp : M → M → Ordering) where
  -- the order of marks with keys: by mark, then by key
  abbrev pub pair_cmp : M × K → M × K → Ordering
  pair_cmp p q = ordering_then (cmp p.0 q.0) (order p.1 q.1)

  -- whether a mark stands with a key in a list of such pairs
  abbrev pub has_pair : M → K → List (M × K) → Bool
  has_pair mark key pairs = list_any (λ p. is_at (cmp mark) p.0 && is_at (order key) p.1) pairs

-- whether a mark is at least the one and below the other
abbrev pub is_between : {M : Type 0} → (M → M → Ordering) → M → M → M → Bool
is_between cmp low high mark = is_le (cmp low mark) && not (is_le (cmp high mark))

-- each mark of a ledger with each key that it notes there
abbrev pub pairs_of : {K M : Type 0} → List (M × Keys K) → List (M × K)
pairs_of ledger = flat_map (λ e. map (λ key. (e.0, key)) (keys_of (entries_of e.1))) ledger
