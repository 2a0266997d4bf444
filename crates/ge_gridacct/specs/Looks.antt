-- What a look at the log writes and answers.
use Rattle.std.specs.Prelude.{◌≡◌, ◌⊎◌, ℕ, List, [], ◌∷◌, Bool, true, false, codes, flat_map, Option, Result, Ok, Err, OnOk, IsErr}
use Rattle.ge_outside.specs.Faults.{Rose}
use Rattle.ge_outside.specs.Streams.{Gains, GainsPrefix}
use Rattle.ge_model_rows.specs.AccountRows.{Line}
use Rattle.ge_model_core.specs.Render.{rendered_line}
use Rattle.ge_model_report.specs.Accounting.{line_text, sum_line}
use Rattle.ge_model_program.specs.Statuses.{IsOneStatusOf}
use Rattle.ge_model_log.specs.declared.Wrong.{Wrong}
use Rattle.ge_spool.specs.Moments.{IsQuiet, Since}
use Rattle.ge_acctlog.specs.Opens.{StandsAlike}
use Rattle.ge_gridacct.specs.Sums.{counted}
use Rattle.ge_gridacct.specs.Sights.{Sight, LogSays, IsFailure}
use Rattle.ge_gridacct.specs.declared.words.Look.{Look}
use Rattle.ge_gridacct.specs.declared.words.Look.TheVariants.{Lines, Total, Owner}
use Rattle.ge_gridacct.specs.declared.faults.Fault.{Fault}
use Rattle.ge_gridacct.specs.declared.faults.Fault.TheVariants.{Disk, Full, Wrong as WrongLog, Other, Write, Memory}

-- texts, each with a line feed
abbrev pub fed : List (List ℕ) → List ℕ
fed texts = flat_map rendered_line texts

-- lines as they are shown, each with a line feed
abbrev pub shown : List Line → List ℕ
shown lines = flat_map (λ line. rendered_line (line_text line)) lines

-- the sums of all lines, or of those of an owner, behind a name
abbrev pub summed : Bool → List ℕ → List Line → List ℕ
summed all name lines = rendered_line (sum_line name (counted all name lines))

-- what is written of lines
abbrev pub look_text : Look → List ℕ → List Line → List ℕ
look_text Lines name lines = shown lines
look_text Total name lines = summed true (codes "total") lines
look_text Owner name lines = summed false name lines

-- The status of a look at a log that holds this, failures of devices and want of memory aside.
abbrev pub LookTells : ℕ → Result (List Line × ℕ) Wrong → Type 0
LookTells status (Ok found) = status ≡ 0
LookTells status (Err wrong) = status ≡ 11

-- A look at the log that writes a text of its lines. Exit statuses: 0 done, 7 a write failed, 8 the log's disk failed, 10 want of
-- memory, 11 the log is wrong. The text is written at 0 and a front of it at any other status. A stop at any moment leaves what the log
-- stood for.
pub record Looks (status : ℕ) (text : List Line → List ℕ) (x y : Sight) : Type 0 where
  pub statuses : IsOneStatusOf (0 ∷ 7 ∷ 8 ∷ 10 ∷ 11 ∷ []) status
  pub answer : (found : Result (List Line × ℕ) Wrong) → LogSays x.told found → LookTells status found ⊎ IsFailure status
  pub whole : (lines : List Line) (end : ℕ) → LogSays x.told (Ok (lines, end)) → status ≡ 0 → Gains x.output y.output (text lines)
  pub front : (lines : List Line) (end : ℕ) → LogSays x.told (Ok (lines, end)) → GainsPrefix x.output y.output (text lines)
  pub unwritten : (wrong : Wrong) → LogSays x.told (Err wrong) → y.output ≡ x.output
  pub moments : (bytes : List ℕ) → IsQuiet x.told bytes → Since x.told y.told (StandsAlike bytes)
  pub written : status ≡ 7 → Rose x.writes y.writes
  pub disk : status ≡ 8 → Rose x.faults y.faults

-- an answer that finds nothing wrong in the log
abbrev pub IsRight : {T : Type 0} → Result T Fault → Type 0
IsRight (Ok x) = Unit {0}
IsRight (Err Disk) = Unit {0}
IsRight (Err Full) = Unit {0}
IsRight (Err WrongLog) = ⊥
IsRight (Err Other) = Unit {0}
IsRight (Err Write) = Unit {0}
IsRight (Err Memory) = Unit {0}

-- what a walk over a log that holds this answers: all is written, or a front of it
abbrev pub LookAnswers : Result (Unit {0}) Fault → Result (List Line × ℕ) Wrong → (List Line → List ℕ) → Option (List ℕ) → Option (List ℕ) → Type 0
LookAnswers result (Ok found) text old new = OnOk result (Gains old new (text found.0)) × GainsPrefix old new (text found.0) × IsRight result
LookAnswers result (Err wrong) text old new = IsErr result × (new ≡ old)

-- a walk ends with none of what only a flush may meet
abbrev pub IsNoFlushFault : {T : Type 0} → Result T Fault → Type 0
IsNoFlushFault (Ok x) = Unit {0}
IsNoFlushFault (Err Disk) = Unit {0}
IsNoFlushFault (Err Full) = ⊥
IsNoFlushFault (Err WrongLog) = Unit {0}
IsNoFlushFault (Err Other) = ⊥
IsNoFlushFault (Err Write) = Unit {0}
IsNoFlushFault (Err Memory) = Unit {0}

-- When a look has to be answered: the log holds lines, and no device fails.
pub record IsShowable (x y : Sight) : Type 0 where
  pub lines : List Line
  pub end : ℕ
  pub says : LogSays x.told (Ok (lines, end))
  pub writes : Rose x.writes y.writes → ⊥
  pub disk : Rose x.faults y.faults → ⊥
