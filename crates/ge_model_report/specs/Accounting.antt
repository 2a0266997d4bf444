-- Accounting lines and their sums: accounting, qacct.
use Rattle.std.specs.Prelude.{ℕ, ◌-◌, ◌==◌, List, [], ◌∷◌, map, filter, length, codes, decimal}
use Rattle.std.specs.Fmt.{signed_decimal}
use Rattle.ge_collections.specs.Keyed.{text_eq}
use Rattle.ge_model_rows.specs.AccountRows.{Line}
use Rattle.ge_model_rows.specs.ClusterRows.{Cluster}
use Rattle.ge_model_rows.specs.CommandRows.{Query}
use Rattle.ge_model_rows.specs.Pieces.{joined_by}
use Rattle.ge_model_order.specs.Amounts.{cut_total}
use Rattle.ge_model_report.specs.Grants.{worded}
use Rattle.ge_model_report.specs.JobFields.{or_none}

-- how long a task ran
abbrev pub wallclock : Line → ℕ
wallclock line = line.end - line.start

-- a line as qacct -j has it: its 21 fields with a colon between two
unfoldable pub line_text : Line → List ℕ
line_text line = joined_by (codes ":") (
    or_none line.queue ∷ or_none line.host ∷ line.group ∷ line.owner ∷ line.name ∷ decimal line.job ∷ line.account
    ∷ signed_decimal line.priority ∷ decimal line.submitted ∷ decimal line.start ∷ decimal line.end ∷ decimal line.failed
    ∷ decimal line.exit ∷ decimal (wallclock line) ∷ or_none line.project ∷ or_none line.pe ∷ decimal line.slots
    ∷ decimal line.task ∷ decimal line.cpu ∷ decimal line.mem ∷ decimal line.io ∷ [])

-- a name with the number of lines and the sums of wallclock, cpu, mem and io
abbrev pub sum_line : List ℕ → List Line → List ℕ
sum_line name lines = worded (
    name ∷ decimal (length lines) ∷ decimal (cut_total wallclock lines) ∷ decimal (cut_total (λ line. line.cpu) lines)
    ∷ decimal (cut_total (λ line. line.mem) lines) ∷ decimal (cut_total (λ line. line.io) lines) ∷ [])

-- the lines of qacct in each of its forms: the sums of all, those of an owner, and each line of a job
unfoldable pub account_of : Cluster → Query → List (List ℕ)
account_of c Query.Total = sum_line (codes "total") c.lines ∷ []
account_of c (Query.Owner name) = sum_line name (filter (λ line. text_eq line.owner name) c.lines) ∷ []
account_of c (Query.Job number) = map line_text (filter (λ line. line.job == number) c.lines)
