-- What is told of a job by its facts alone, or by the job alone.
use Rattle.std.specs.Prelude.{ℕ, Bool, true, false, not, ◌||◌, ◌&&◌, ◌==◌, nat_lt, if◌then◌else◌, List, [], ◌∷◌, filter, Option, Some, None}
use Rattle.std.specs.Map.{keys_of}
use Rattle.ge_job_index.specs.declared.short_row.ShortRow.{ShortRow}
use Rattle.ge_model_rows.specs.ClusterRows.{Cluster}
use Rattle.ge_model_rows.specs.JobRows.{Job}
use Rattle.ge_model_rows.specs.TaskRows.{TaskSpan}
use Rattle.ge_model_rows.specs.Pieces.{is_empty}
use Rattle.ge_model_order.specs.Candidates.{is_candidate}
use Rattle.ge_rows.specs.declared.labels.JobFacts.{JobFacts}

-- whether no task of a job may start, whatever other jobs do: none waits, it is held, or it may start only later
abbrev pub rests : JobFacts → ℕ → Bool
rests facts now = not facts.waits || not (facts.hold == 0) || nat_lt now facts.not_before

-- whether a job has an eligible task, where its facts tell that: those of a job with predecessors may not
abbrev pub told_by : JobFacts → ℕ → Option Bool
told_by facts now = if rests facts now then Some false else if facts.follows then None else Some true

-- whether a job has an eligible task
abbrev pub has_task : Cluster → ℕ → ℕ × ShortRow JobFacts → Bool
has_task c now row = elim (told_by row.1.facts now) [ None ↦ is_candidate c now row.0 | Some told ↦ told ]

-- the jobs of short rows that have an eligible task
abbrev pub chosen : Cluster → ℕ → List (ℕ × ShortRow JobFacts) → List ℕ
chosen c now rows = keys_of (filter (has_task c now) rows)

-- whether no hold and no other job keeps the tasks of a job from starting, and its time has come
abbrev pub is_free : Job → ℕ → Bool
is_free job now = (job.hold == 0) && is_empty job.after && is_empty job.after_each && not (nat_lt now job.not_before)

-- the number of a set that has one
abbrev pub only_number : List TaskSpan → Option ℕ
only_number [] = None
only_number (s ∷ []) = if s.first == s.last then Some s.first else None
only_number (s ∷ t ∷ rest) = None

-- the eligible task of a job of which one task waits, where the job alone tells that
abbrev pub only_task : Job → ℕ → Option ℕ
only_task job now = if is_free job now then only_number job.queued else None
