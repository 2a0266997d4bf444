-- What a flush of a cluster's lines to the log answers and leaves.
use Rattle.std.specs.Prelude.{◌≡◌, ◌≢◌, ◌⊎◌, ℕ, ◌+◌, ◌-◌, ◌≤◌, List, [], ◌∷◌, ◌++◌, length, drop, decimal, codes, Result, Ok, Err}
use Rattle.ge_outside.specs.Faults.{Rose}
use Rattle.ge_outside.specs.Streams.{Gains, GainsPrefix}
use Rattle.ge_model_rows.specs.AccountRows.{Line}
use Rattle.ge_model_rows.specs.ClusterRows.{Cluster}
use Rattle.ge_model_journal.specs.Disk.{read_bytes}
use Rattle.ge_model_program.specs.Statuses.{IsOneStatusOf}
use Rattle.ge_model_program.specs.StandsFor as spool
use Rattle.ge_model_program.specs.declared.Wrong.{Wrong as WrongSpool}
use Rattle.ge_model_log.specs.Lines.{stands_for}
use Rattle.ge_model_log.specs.declared.Wrong.{Wrong}
use Rattle.ge_spool.specs.Moments.{IsQuiet, Since}
use Rattle.ge_spool.specs.Opening.{Tells}
use Rattle.ge_master.specs.Areas.{Areas, HasFailed, StandsSince}
use Rattle.ge_gridacct.specs.Fronts.{IsFront, StandsForFront, Fits, IsFull}
use Rattle.ge_acctlog.specs.Opens.{StandsAlike}
use Rattle.ge_gridacct.specs.Sights.{Sight, LogSays, IsFailure}
use Rattle.ge_gridacct.specs.declared.faults.Fault.{Fault}
use Rattle.ge_gridacct.specs.declared.faults.Fault.TheVariants.{Disk, Full, Wrong as WrongLog, Other, Write, Memory}

-- the line that a flush writes: how many lines were appended, and how many there are in all
unfoldable pub flushed_line : ℕ → ℕ → List ℕ
flushed_line appended all = codes "flushed " ++ decimal appended ++ codes " of " ++ decimal all ++ 10 ∷ []

-- The status of a flush of these lines to a log that holds this, failures of devices and want of memory aside: 0 where what the log holds
-- is a front of them and the others fit, 5 where it is one and they don't fit, 12 where it is none, 11 where the log is wrong.
abbrev pub FlushTells : ℕ → Result (List Line × ℕ) Wrong → List Line → Type 0
FlushTells status (Ok found) lines =
    (IsFront found.0 lines × Fits found.1 (drop (length found.0) lines) × (status ≡ 0))
    ⊎ (IsFront found.0 lines × IsFull found.1 (drop (length found.0) lines) × (status ≡ 5))
    ⊎ ((IsFront found.0 lines → ⊥) × (status ≡ 12))
FlushTells status (Err wrong) lines = status ≡ 11

-- what appending to a log that holds this answers, with the number of lines that were appended
abbrev pub FlushAnswers : Result ℕ Fault → Result (List Line × ℕ) Wrong → List Line → Type 0
FlushAnswers (Ok appended) (Ok found) lines =
    IsFront found.0 lines × Fits found.1 (drop (length found.0) lines) × (appended ≡ length lines - length found.0)
FlushAnswers (Ok appended) (Err wrong) lines = ⊥
FlushAnswers (Err Disk) found lines = Unit {0}
FlushAnswers (Err Full) (Ok found) lines = IsFront found.0 lines × IsFull found.1 (drop (length found.0) lines)
FlushAnswers (Err Full) (Err wrong) lines = ⊥
FlushAnswers (Err WrongLog) (Ok found) lines = ⊥
FlushAnswers (Err WrongLog) (Err wrong) lines = Unit {0}
FlushAnswers (Err Other) (Ok found) lines = IsFront found.0 lines → ⊥
FlushAnswers (Err Other) (Err wrong) lines = ⊥
FlushAnswers (Err Write) found lines = ⊥
FlushAnswers (Err Memory) found lines = Unit {0}

-- A flush of these lines. Exit statuses: 0 done, 5 the log is full, 7 a write failed, 8 a disk failed, 10 want of memory, 11 the log is wrong,
-- 12 the log's lines aren't a front of these. One line is written at 0, and a front of it at 7.
pub record FlushesLines (status : ℕ) (lines : List Line) (x y : Sight) : Type 0 where
  pub answer : (found : Result (List Line × ℕ) Wrong) → LogSays x.told found → FlushTells status found lines ⊎ IsFailure status
  pub whole : (held : List Line) (end : ℕ) → LogSays x.told (Ok (held, end)) → status ≡ 0
      → Gains x.output y.output (flushed_line (length lines - length held) (length lines))
  pub cut : (held : List Line) (end : ℕ) → LogSays x.told (Ok (held, end)) → status ≡ 7
      → GainsPrefix x.output y.output (flushed_line (length lines - length held) (length lines))
  -- Never ahead, and each line once: where the log held a front of the lines and nothing was pending, at each moment since the flush
  -- began every image of the log stands for a front of them that begins with what was held.
  pub fronts : (bytes : List ℕ) (held : List Line) → IsQuiet x.told bytes → stands_for bytes ≡ Ok held → IsFront held lines
      → Since x.told y.told (StandsForFront (length held) lines)
  -- any other log is left as it was, at each moment
  pub others : (bytes : List ℕ) → IsQuiet x.told bytes → ((held : List Line) → stands_for bytes ≡ Ok held → IsFront held lines → ⊥)
      → Since x.told y.told (StandsAlike bytes)
  -- in the end the log stands for all lines, and nothing is pending
  pub all : status ≡ 0 → Tells x.told → IsQuiet y.told (read_bytes y.told) × (stands_for (read_bytes y.told) ≡ Ok lines)

-- what two areas that tell stand for
abbrev pub SpoolSays : Areas → Result Cluster WrongSpool → Type 0
SpoolSays x stood = Tells x.a × Tells x.b × (spool.stands_for (read_bytes x.a) (read_bytes x.b) ≡ stood)

-- 4 exactly where the areas stand for nothing, failures and want of memory aside
abbrev pub SpoolTells : ℕ → Result Cluster WrongSpool → Type 0
SpoolTells status (Ok start) = status ≢ 4
SpoolTells status (Err wrong) = IsOneStatusOf (4 ∷ 8 ∷ 10 ∷ []) status

-- A flush of the cluster that two areas stand for. The areas are opened first; where they stand for nothing, log and output are untouched.
-- Whatever the status, a stop at any moment leaves areas that stand for the cluster.
pub record Flushes (status : ℕ) (a b : Areas) (x y : Sight) : Type 0 where
  pub statuses : IsOneStatusOf (0 ∷ 4 ∷ 5 ∷ 7 ∷ 8 ∷ 10 ∷ 11 ∷ 12 ∷ []) status
  pub opened : (stood : Result Cluster WrongSpool) → SpoolSays a stood → SpoolTells status stood
  pub untouched : (wrong : WrongSpool) → SpoolSays a (Err wrong) → (y.told ≡ x.told) × (y.output ≡ x.output)
  pub flushed : (start : Cluster) → SpoolSays a (Ok start) → FlushesLines status start.lines x y
  pub unwritten : status ≢ 0 → status ≢ 7 → y.output ≡ x.output
  pub spool_stands : (start : Cluster) → IsQuiet a.a (read_bytes a.a) → IsQuiet a.b (read_bytes a.b) → SpoolSays a (Ok start) → StandsSince a b start
  pub written : status ≡ 7 → Rose x.writes y.writes
  pub disk : status ≡ 8 → HasFailed a b ⊎ Rose x.faults y.faults
  pub syncs : b.syncs ≤ a.syncs + 6

-- When a flush has to be answered: the areas stand for a cluster and the log for a front of its lines, the others fit, and no device fails.
pub record AreFlushable (a b : Areas) (x y : Sight) : Type 0 where
  pub start : Cluster
  pub spool_says : SpoolSays a (Ok start)
  pub held : List Line
  pub end : ℕ
  pub log_says : LogSays x.told (Ok (held, end))
  pub front : IsFront held start.lines
  pub fits : Fits end (drop (length held) start.lines)
  pub writes : Rose x.writes y.writes → ⊥
  pub areas : HasFailed a b → ⊥
  pub disk : Rose x.faults y.faults → ⊥
