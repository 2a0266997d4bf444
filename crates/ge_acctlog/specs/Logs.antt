-- A log at rest on its disk.
use Rattle.std.specs.Prelude.{◌≡◌, ℕ, ◌+◌, ◌<◌, ◌≤◌, Bool, false, List, ◌++◌, length, drop, Ok}
use Rattle.ge_limits.specs.Limits as limit
use Rattle.ge_model_rows.specs.AccountRows.{Line}
use Rattle.ge_model_journal.specs.Disk.{Content, read_bytes, IsWithin}
use Rattle.ge_spool.specs.Moments.{IsQuiet}
use Rattle.ge_model_log.specs.Records.{records_behind}
use Rattle.ge_model_log.specs.Lines.{lines_in, logged}
use Rattle.ge_acctlog.specs.Gates.{IsClosedAt}
use Rattle.ge_acctlog.specs.declared.log.Reached.{Reached}
use Rattle.ge_acctlog.specs.declared.log.Log.{Log}

abbrev pub is_dead : Log → Bool
is_dead l = l.dead

-- where the list of records ends
abbrev pub end_of : Log → ℕ
end_of l = l.end

-- how many lines there are
abbrev pub count_of : Log → ℕ
count_of l = l.count

-- the record that was read last
abbrev pub reached_of : Log → Reached
reached_of l = l.reached

-- the record that was read last of a log with these bytes, lines and end: its lines stand behind those before it, and the others
-- are in the records from a place on
pub record IsReached (r : Reached) (bytes : List ℕ) (lines : List Line) (end : ℕ) : Type 0 where
  pub front : List Line
  pub first : r.first ≡ length front
  pub left : records_behind lines_in (length (drop r.next bytes)) r.next (drop r.next bytes) (front ++ r.lines) ≡ Ok (lines, end)

-- Nothing is pending on the disk, what it holds stands for these lines, and the log keeps where their list ends and how many
-- there are. Where the log isn't full, a gate that isn't open stands at the end.
pub record IsLogged (l : Log) (told : List Content) (lines : List Line) : Type 0 where
  pub alive : l.dead ≡ false
  pub quiet : IsQuiet told (read_bytes told)
  pub stands : logged (read_bytes told) ≡ Ok (lines, l.end)
  pub closed : l.end < limit.area_bytes → IsClosedAt (read_bytes told) l.end
  pub count : l.count ≡ length lines
  pub reached : IsReached l.reached (read_bytes told) lines l.end

-- a log that lives and isn't full has a byte at its end
abbrev pub HasRoom : Log → List Content → Type 0
HasRoom l told = l.dead ≡ false → l.end < limit.area_bytes → IsWithin told (l.end + 1)

-- the line of this number stands in the record that was read last
abbrev pub HasReached : Log → ℕ → Type 0
HasReached l k = (l.reached.first ≤ k) × (k < l.reached.first + length l.reached.lines)

-- a log with the same lines as it keeps them, and dead or not as before
abbrev pub IsSameLog : Log → Log → Type 0
IsSameLog old new = (new.end ≡ old.end) × (new.count ≡ old.count) × (new.dead ≡ old.dead)
