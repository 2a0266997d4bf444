-- A journal that is at rest on its two areas.
use Rattle.std.specs.Prelude.{◌≡◌, ◌⊎◌, ℕ, ◌+◌, ◌<◌, ◌≤◌, Bool, false, not, ◌==◌, List, length, take, drop, slice_index, Result, Ok, IsErr}
use Rattle.ge_model_journal.specs.Disk.{Content, IsWithin, overwritten, read_bytes}
use Rattle.ge_model_journal.specs.Area.{head, records_of, written_format}
use Rattle.ge_model_journal.specs.Journal.{State, choice, header_of, picked}
use Rattle.ge_model_journal.specs.declared.Choice.TheVariants.{Chosen}
use Rattle.ge_outside.specs.Faults.{Rose}
use Rattle.ge_spool.specs.Moments.{IsQuiet}
use Rattle.ge_spool.specs.declared.spool.Spool.{Spool}

-- whether the second area counts
abbrev pub is_second : Spool → Bool
is_second s = s.second

abbrev pub format_of : Spool → ℕ
format_of s = s.format

abbrev pub generation_of : Spool → ℕ
generation_of s = s.generation

-- how many records count
abbrev pub record_count : Spool → ℕ
record_count s = s.records

-- where the gate stands that ends the list
abbrev pub end_of : Spool → ℕ
end_of s = s.end

-- whether an earlier call met a failure of a disk
abbrev pub is_dead : Spool → Bool
is_dead s = s.dead

-- The journal lives, nothing is pending on either area, each has a byte at least, and what it keeps of them is what their bytes say:
-- the area that counts, its format and generation, how many records count, where their list ends, and whether the other area's gate is open.
pub record IsSettled (s : Spool) (a b : List Content) (state : State) : Type 0 where
  pub alive : s.dead ≡ false
  pub quiet_a : IsQuiet a (read_bytes a)
  pub quiet_b : IsQuiet b (read_bytes b)
  pub some_a : 0 < length (read_bytes a)
  pub some_b : 0 < length (read_bytes b)
  pub chosen : choice (head (read_bytes a)) (head (read_bytes b)) ≡ Chosen s.second (header_of state)
  pub snapshot : take (length state.snapshot) (drop 18 (picked s.second (read_bytes a) (read_bytes b))) ≡ state.snapshot
  pub listed : records_of (length state.snapshot) (picked s.second (read_bytes a) (read_bytes b)) ≡ Ok (state.records, s.end)
  pub format : s.format ≡ state.format
  pub generation : s.generation ≡ state.generation
  pub count : s.records ≡ length state.records
  pub other_gate : s.other_open ≡ (slice_index (picked s.second (read_bytes b) (read_bytes a)) 0 == 1)

-- Each area that tells has a byte at least, and the one that counts reaches past its list. So it stays until a disk fails.
pub record HasRoom (s : Spool) (a b : List Content) : Type 0 where
  pub some_a : IsWithin a 1
  pub some_b : IsWithin b 1
  pub past_end : IsWithin (picked s.second a b) (s.end + 1)

abbrev pub KeepsRoom : Spool → List Content → List Content → Type 0
KeepsRoom s a b = s.dead ≡ false → HasRoom s a b

-- each area tells all its moments from before
abbrev pub Grows : List Content → List Content → List Content → List Content → Type 0
Grows a new_a b new_b = (length a ≤ length new_a) × (length b ≤ length new_b)

-- The second area or the first reads as before but for a piece at a place, and the other one as before.
pub record HasWritten (second : Bool) (at : ℕ) (piece a new_a b new_b : List ℕ) : Type 0 where
  pub here : picked second new_a new_b ≡ overwritten (picked second a b) at piece
  pub there : picked second new_b new_a ≡ picked second b a

-- a call fails only where a count of either area rose
pub record HasCauseOfTwo {T E : Type 0} (before_a now_a before_b now_b : ℕ) (result : Result T E) : Type 0 where
  pub later_a : before_a ≤ now_a
  pub later_b : before_b ≤ now_b
  pub failed : IsErr result → Rose before_a now_a ⊎ Rose before_b now_b

-- a journal with one record of so many bytes more
pub record IsAppended (old new : Spool) (size : ℕ) : Type 0 where
  pub second : new.second ≡ old.second
  pub format : new.format ≡ old.format
  pub generation : new.generation ≡ old.generation
  pub count : new.records ≡ old.records + 1
  pub end : new.end ≡ old.end + 5 + size

-- a journal in its next generation, with a snapshot of so many bytes and no records
pub record IsCompacted (old new : Spool) (size : ℕ) : Type 0 where
  pub second : new.second ≡ not old.second
  pub format : new.format ≡ written_format
  pub generation : new.generation ≡ old.generation + 1
  pub count : new.records ≡ 0
  pub end : new.end ≡ 18 + size
