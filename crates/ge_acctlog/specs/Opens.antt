-- What opening a log answers and leaves.
use Rattle.std.specs.Prelude.{◌≡◌, ℕ, List, Result, Ok, Err}
use Rattle.ge_model_rows.specs.AccountRows.{Line}
use Rattle.ge_model_journal.specs.Disk.{Content, read_bytes}
use Rattle.ge_model_log.specs.declared.Wrong.TheVariants as wrong
use Rattle.ge_model_log.specs.Lines.{logged, stands_for}
use Rattle.ge_acctlog.specs.Gates.{with_gate}
use Rattle.ge_acctlog.specs.Logs.{IsLogged}
use Rattle.ge_acctlog.specs.declared.log.Log.{Log}
use Rattle.ge_acctlog.specs.declared.faults.LogFault.{LogFault}
use Rattle.ge_acctlog.specs.declared.faults.LogFault.TheVariants.{Disk, Frame, Bad, Memory}

-- What opening leaves where the disk reads as these bytes: a log at rest with the lines that they stand for, and a gate that isn't
-- open at the end of their list.
pub record HasOpened (l : Log) (bytes : List ℕ) (told : List Content) : Type 0 where
  pub lines : List Line
  pub stands : logged bytes ≡ Ok (lines, l.end)
  pub rests : IsLogged l told lines
  pub reads : read_bytes told ≡ with_gate bytes l.end

-- a log, or what is wrong first
abbrev pub Opens : Result Log LogFault → List ℕ → List Content → Type 0
Opens (Ok l) bytes told = HasOpened l bytes told
Opens (Err Disk) bytes told = Unit {0}
Opens (Err (Frame place)) bytes told = logged bytes ≡ Err (wrong.Frame place)
Opens (Err (Bad place)) bytes told = logged bytes ≡ Err (wrong.Bad place)
Opens (Err Memory) bytes told = Unit {0}

-- an image stands for what these bytes stand for
abbrev pub StandsAlike : List ℕ → List ℕ → Type 0
StandsAlike bytes image = stands_for image ≡ stands_for bytes

-- a fact where the log is wrong
abbrev pub OnWrong : {T : Type 0} → Result T LogFault → Type 0 → Type 0
OnWrong (Ok x) P = Unit {0}
OnWrong (Err Disk) P = Unit {0}
OnWrong (Err (Frame place)) P = P
OnWrong (Err (Bad place)) P = P
OnWrong (Err Memory) P = Unit {0}
