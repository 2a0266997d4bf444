-- Urgencies of jobs that are alike, and candidates by the numbers that their priorities stand on.
use Rattle.std.specs.Prelude.{◌≡◌, ℕ, max, List, [], ◌∷◌, ◌++◌, Option, Some, Result, IfOk}
use Rattle.std.specs.declared.alloc.AllocError.{AllocError}
use Rattle.ge_collections.specs.Keyed.{at_number}
use Rattle.ge_job_index.specs.declared.short_row.ShortRow.{ShortRow}
use Rattle.ge_model_order.specs.Amounts.{cut_at_64, least, greatest}
use Rattle.ge_model_order.specs.Priority.{priority_part, urgency_part, tickets_part, prio_with}
use Rattle.ge_model_rows.specs.ClusterRows.{Cluster}
use Rattle.ge_model_rows.specs.ScheduleRows.{Prio}
use Rattle.ge_model_rows.specs.SettingRows.{Sched}
use Rattle.ge_rows.specs.declared.labels.JobFacts.{JobFacts}
use Rattle.ge_order.specs.Alike.{candidate_by, gathered_in, urged_in}
use Rattle.ge_order.specs.Kinds.{kind_in, asked_of, AreAsked, TellJobs, urgency_by}
use Rattle.ge_order.specs.Standings.{lesser, urgencies_of, AreUnits}
use Rattle.ge_order.specs.declared.asked.Units.{Units}
use Rattle.ge_order.specs.declared.gathering.Candidate.{Candidate}
use Rattle.ge_order.specs.declared.gathering.Gathering.{Gathering}
use Rattle.ge_order.specs.declared.priority.Scale.{Scale}
use Rattle.ge_order.specs.declared.repeating.Bounds.{Bounds}
use Rattle.ge_order.specs.declared.repeating.Urged.{Urged}
use Rattle.ge_order.specs.declared.standing.Standing.{Standing}

-- what a candidate stands on, by its short row, and its urgency
abbrev pub urged_by : ShortRow JobFacts → ℕ → Urged
urged_by row urgency =
    record { kind = row.third; submitted = row.facts.submitted; deadline = row.facts.deadline; oticket = row.facts.oticket; priority = row.facts.priority; urgency = urgency }

-- what urgencies and tickets reach with one more candidate
abbrev pub bounds_with : Bounds → ℕ → ℕ → Bounds
bounds_with bounds urgency tickets = record { low = Some (lesser bounds.low urgency); high = max bounds.high urgency; most = max bounds.most tickets }

-- jobs have this urgency whose kind, submission and deadline are these, if it is kept
abbrev pub IsUrged : Cluster → List (ℕ × ShortRow JobFacts) → ℕ → Option Urged → Type 0
IsUrged c rows now last = (urged : Urged) → last ≡ Some urged → (number : ℕ) → kind_in rows number ≡ Some urged.kind → urged.urgency ≡ urgency_by c (asked_of c number) urged.submitted urged.deadline now

-- what is kept of kinds and of the last job is so of all jobs that are alike
pub record Knows (c : Cluster) (rows : List (ℕ × ShortRow JobFacts)) (now : ℕ) (kinds : List (Option (ℕ × ℕ))) (last : Option Urged) : Type 0 where
  pub all : AreAsked c rows kinds
  pub alike : IsUrged c rows now last

-- the last candidate changes no bound
abbrev pub IsWithin : Bounds → Option Urged → Type 0
IsWithin bounds last = (urged : Urged) → last ≡ Some urged → bounds ≡ bounds_with bounds urged.urgency (cut_at_64 urged.oticket)

-- a candidate, by its short row and its urgency
abbrev pub candidate_of : ℕ → ShortRow JobFacts → ℕ → Candidate
candidate_of number row urgency = candidate_by number (urged_by row urgency)

-- one more candidate is gathered, and bounds reach it
pub record Takes (before after : Gathering) (number : ℕ) (row : ShortRow JobFacts) (urgency : ℕ) : Type 0 where
  pub list : gathered_in after.lots.items after.last ≡ gathered_in before.lots.items before.last ++ candidate_of number row urgency ∷ []
  pub bounds : IsWithin before.bounds (urged_in before.last) → after.bounds ≡ bounds_with before.bounds urgency (cut_at_64 row.facts.oticket)
  pub within : IsWithin before.bounds (urged_in before.last) → IsWithin after.bounds (urged_in after.last)

-- one more candidate is gathered; where short rows tell of the jobs, and what is kept of those that are alike is so, it has the
-- urgency of its job, and what is kept then is so too
pub record Gathers (c : Cluster) (units : Units) (now : ℕ) (before after : Gathering) (number : ℕ) (row : ShortRow JobFacts) (result : Result ℕ AllocError) : Type 0 where
  pub taken : IfOk result (Takes before after number row)
  pub told : (rows : List (ℕ × ShortRow JobFacts)) → AreUnits c units → at_number rows number ≡ Some row → TellJobs c rows → Knows c rows now before.kinds (urged_in before.last)
      → IfOk result (λ urgency. (urgency ≡ urgency_by c (asked_of c number) row.facts.submitted row.facts.deadline now) × Knows c rows now after.kinds (urged_in after.last))

-- what is known of a candidate
abbrev pub standing : Candidate → Standing
standing candidate = record { job = candidate.job; urgent = Some (record { priority = candidate.priority; urgency = candidate.urgency }) }

-- the numbers that urgencies and tickets are parts of
pub record IsScale (scale : Scale) (standings : List Standing) (tickets : List ℕ) : Type 0 where
  pub low : scale.low ≡ least (urgencies_of standings)
  pub high : scale.high ≡ greatest (urgencies_of standings)
  pub most : scale.most ≡ greatest tickets

abbrev pub prio_of_candidate : Sched → Scale → Candidate → Prio
prio_of_candidate sched scale candidate =
    prio_with sched candidate.job (priority_part candidate.priority) (urgency_part scale.low scale.high candidate.urgency) (tickets_part scale.most candidate.tickets)
