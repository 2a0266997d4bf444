-- Lines in records of so many each, the rest in the last.
use Rattle.std.specs.Prelude.{◌≡◌, ℕ, zero, suc, ◌+◌, ◌*◌, ◌<◌, ◌≤◌, min, Bool, false, List, [], ◌∷◌, ◌++◌, length, take, drop, Result, Ok, Err}
use Rattle.std.specs.Int.{bytes_high_first}
use Rattle.ge_limits.specs.Limits as limit
use Rattle.ge_model_rows.specs.AccountRows.{Line}
use Rattle.ge_model_log.specs.Lines.{bytes_of_lines, AreFit}
use Rattle.ge_acctlog.specs.Appends.{Refuses}
use Rattle.ge_acctlog.specs.declared.faults.LogStop.{LogStop}
use Rattle.ge_acctlog.specs.declared.faults.LogStop.TheVariants.{Disk, Full, Dead, Memory}

-- the lines of the record behind so many
abbrev pub record_lines : ℕ → List Line → ℕ → List Line
record_lines each lines k = take each (drop (k * each) lines)

-- the bytes of so many records: each an open gate, the length of its body, and the body
abbrev pub record_bytes : ℕ → List Line → ℕ → List ℕ
record_bytes each lines zero = []
record_bytes each lines (suc k) =
    record_bytes each lines k ++ 1 ∷ [] ++ bytes_high_first 4 (length (bytes_of_lines (record_lines each lines k))) ++ bytes_of_lines (record_lines each lines k)

-- where a list of records that ended at a place ends behind so many records of lines
abbrev pub end_behind : ℕ → ℕ → List Line → ℕ → ℕ
end_behind each end lines k = end + 5 * k + length (bytes_of_lines (take (k * each) lines))

-- where the log ends then, its last gate included
abbrev pub log_end : ℕ → ℕ → List Line → ℕ → ℕ
log_end each end lines k = end_behind each end lines k + 1

-- So many lines, the first of these, are in so many records, none of which is empty or passes the limit of an area.
pub record AreInRecords (each end : ℕ) (lines : List Line) (n k : ℕ) : Type 0 where
  pub some : 0 < k
  pub needed : k * each < length lines + each
  pub count : n ≡ min (k * each) (length lines)
  pub fits : (j : ℕ) → j < k → log_end each end lines (j + 1) ≤ limit.area_bytes

-- so many lines were appended in records, and the list of records ends there
abbrev pub AppendsRecords : ℕ → ℕ → List Line → ℕ → ℕ → Type 0
AppendsRecords each end lines n new = (k : ℕ) × AreInRecords each end lines n k × (new ≡ end_behind each end lines k)

-- The answer of a log, dead or not, whose list of records ends at a place, to an append of lines in records: it is full exactly where the first record
-- doesn't fit.
abbrev pub AnswersRecords : Result ℕ LogStop → Bool → ℕ → ℕ → List Line → ℕ → Type 0 → Type 0
AnswersRecords (Ok n) dead each end lines new reason = (dead ≡ false) × AppendsRecords each end lines n new
AnswersRecords (Err stop) dead each end lines new reason = Refuses stop dead (log_end each end lines 1) reason

-- lines that were gathered, with the bytes of their records, for a list that ends at a place
pub record HasGathered (each end : ℕ) (lines : List Line) (bytes : List ℕ) (n : ℕ) : Type 0 where
  pub k : ℕ
  pub are_in : AreInRecords each end lines n k
  pub bytes_are : bytes ≡ record_bytes each lines k
  pub fit : (j : ℕ) → j < k → AreFit (record_lines each lines j)

-- nothing was gathered: the log would end there with the first record, past the limit, or memory is wanting
abbrev pub StopsGathering : {T : Type 0} → Result T LogStop → ℕ → Type 0
StopsGathering (Ok x) end = Unit {0}
StopsGathering (Err Disk) end = ⊥
StopsGathering (Err (Full place)) end = (limit.area_bytes < end) × (place ≡ end)
StopsGathering (Err Dead) end = ⊥
StopsGathering (Err Memory) end = Unit {0}
