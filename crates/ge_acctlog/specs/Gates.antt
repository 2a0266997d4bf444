-- The end of a log's list of records, and how opening closes it.
use Rattle.std.specs.Prelude.{◌≡◌, ℕ, Bool, true, not, ◌==◌, ◌&&◌, nat_lt, if◌then◌else◌, List, [], ◌∷◌, length, slice_index}
use Rattle.ge_limits.specs.Limits as limit
use Rattle.ge_model_journal.specs.Disk.{overwritten}
use Rattle.ge_spool.specs.Moments.{Torn}

-- a byte that isn't 1 stands at a place
abbrev pub closed_at : List ℕ → ℕ → Bool
closed_at bytes end = nat_lt end (length bytes) && not (slice_index bytes end == 1)

abbrev pub IsClosedAt : List ℕ → ℕ → Type 0
IsClosedAt bytes end = closed_at bytes end ≡ true

-- the end of a list is missing or 1, in a log that isn't full
abbrev pub needs_gate : List ℕ → ℕ → Bool
needs_gate bytes end = nat_lt end limit.area_bytes && not (closed_at bytes end)

-- what opening leaves of these bytes, whose list of records ends there
abbrev pub with_gate : List ℕ → ℕ → List ℕ
with_gate bytes end = if needs_gate bytes end then overwritten bytes end (0 ∷ []) else bytes

-- and what a stop may leave meanwhile
pub record IsGateImage (bytes : List ℕ) (end : ℕ) (image : List ℕ) : Type 0 where
  pub needed : needs_gate bytes end ≡ true
  pub torn : Torn end 1 bytes image
