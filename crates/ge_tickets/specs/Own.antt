-- Tickets where no user and no project has any, and jobs have none by their shares.
use Rattle.std.specs.Prelude.{◌≡◌, ℕ, Bool, ◌&&◌, ◌==◌, List, [], Some, None}
use Rattle.ge_collections.specs.Keyed.{at_number}
use Rattle.ge_job_index.specs.declared.short_row.ShortRow.{ShortRow}
use Rattle.ge_rows.specs.declared.labels.JobFacts.{JobFacts}
use Rattle.ge_model_rows.specs.ClusterRows.{Cluster}
use Rattle.ge_model_rows.specs.Pieces.{is_empty}
use Rattle.ge_model_order.specs.Amounts.{cut_at_64}
use Rattle.ge_model_order.specs.Tickets.{weighted}

-- no user and no project has a row, and no tickets are divided by the shares of jobs
pub record OwnAlone (c : Cluster) : Type 0 where
  pub users : c.users ≡ []
  pub projects : c.projects ≡ []
  pub shares : weighted c c.sched.w_job ≡ 0

-- whether that is so
abbrev pub is_own_alone : Cluster → Bool
is_own_alone c = is_empty c.users && is_empty c.projects && weighted c c.sched.w_job == 0

-- the tickets that a job itself was given; one that isn't there has none
abbrev pub own_tickets : Cluster → ℕ → ℕ
own_tickets c number = elim (at_number c.jobs number) [ None ↦ 0 | Some job ↦ cut_at_64 job.oticket ]

-- the same by the short rows of jobs
abbrev pub told_tickets : List (ℕ × ShortRow JobFacts) → ℕ → ℕ
told_tickets rows number = elim (at_number rows number) [ None ↦ 0 | Some row ↦ cut_at_64 row.facts.oticket ]
