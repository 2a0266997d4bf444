-- What a log holds of a cluster's lines, and the records in which the others are appended.
use Rattle.std.specs.Prelude.{◌≡◌, ◌⊎◌, ℕ, ◌+◌, ◌*◌, ◌<◌, ◌≤◌, List, ◌++◌, length, take, drop, Result, Ok}
use Rattle.ge_limits.specs.Limits as limit
use Rattle.ge_model_rows.specs.AccountRows.{Line}
use Rattle.ge_model_log.specs.Lines.{stands_for}
use Rattle.ge_model_log.specs.declared.Wrong.{Wrong}
use Rattle.ge_acctlog.specs.Records.{log_end}

-- the ones are the first of the others
abbrev pub IsFront : List Line → List Line → Type 0
IsFront held lines = take (length held) lines ≡ held

-- an image stands for the first of these lines, no fewer than so many
abbrev pub StandsForFront : ℕ → List Line → List ℕ → Type 0
StandsForFront least lines image = (n : ℕ) × (least ≤ n) × (stands_for image ≡ Ok (take n lines))

-- an image stands for lines that were held and the first of others
abbrev pub StandsBehind : List Line → List Line → List ℕ → Type 0
StandsBehind held lines image = (n : ℕ) × (stands_for image ≡ Ok (held ++ take n lines))

-- An image stands for what was held or, where that is a front of these lines, for a front of them that begins with it.
abbrev pub KeepsFront : Result (List Line) Wrong → List Line → List ℕ → Type 0
KeepsFront stood lines image =
    (stands_for image ≡ stood) ⊎ ((held : List Line) × (stood ≡ Ok held) × IsFront held lines × StandsForFront (length held) lines image)

-- how many lines a record has, but for the last
abbrev pub record_lines : ℕ
record_lines = 1024

-- no record of these lines passes the limit of an area
abbrev pub Fits : ℕ → List Line → Type 0
Fits end lines = (k : ℕ) → k * record_lines < length lines → log_end record_lines end lines (k + 1) ≤ limit.area_bytes

-- one of them does
pub record IsFull (end : ℕ) (lines : List Line) : Type 0 where
  pub k : ℕ
  pub within : k * record_lines < length lines
  pub past : limit.area_bytes < log_end record_lines end lines (k + 1)
