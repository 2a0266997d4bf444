-- Usage and jobs along the lines, and the tickets of the jobs of a list (share_tree).
use Rattle.std.specs.Prelude.{ℕ, List, [], fold, Some, None}
use Rattle.ge_collections.specs.Keyed.{at_number}
use Rattle.ge_model_rows.specs.ClusterRows.{Cluster}
use Rattle.ge_model_jobs.specs.Usage.{UsageKey, epoch_of, decayed}
use Rattle.ge_model_order.specs.Share.{leaf_tickets}
use Rattle.ge_model_order.specs.ShareTables.{raised_along, leaf_at}
use Rattle.ge_tickets.specs.declared.finding.LeafFinder.{LeafFinder}
use Rattle.ge_tickets.specs.Found.{places_by, line_by}

-- a row of usage, as it counts in an epoch, more along its line
abbrev pub with_usage_by : ℕ → LeafFinder → List (ℕ × ℕ) → UsageKey × ℕ → List (ℕ × ℕ)
with_usage_by epoch finder amounts row = raised_along amounts (line_by finder row.0.0 row.0.1) (decayed row.1 row.0.2 epoch)

abbrev pub usage_by : Cluster → LeafFinder → ℕ → List (ℕ × ℕ)
usage_by c finder now = fold (with_usage_by (epoch_of now c.sched.halftime) finder) [] c.usage

-- one more job along its line, if it is there
abbrev pub with_number : Cluster → LeafFinder → List (ℕ × ℕ) → ℕ → List (ℕ × ℕ)
with_number c finder amounts number = elim (at_number c.jobs number) [ None ↦ amounts | Some job ↦ raised_along amounts (line_by finder job.owner job.project) 1 ]

abbrev pub jobs_by : Cluster → LeafFinder → List ℕ → List (ℕ × ℕ)
jobs_by c finder numbers = fold (with_number c finder) [] numbers

-- the tickets of a job, 0 where it isn't there
abbrev pub number_tickets : Cluster → LeafFinder → List (ℕ × ℕ) → List (ℕ × ℕ) → ℕ → ℕ
number_tickets c finder tickets jobs number = elim (at_number c.jobs number) [
  | None ↦ 0
  | Some job ↦ leaf_tickets tickets jobs (leaf_at (places_by finder) job.owner job.project)
]

-- where there is no tree, no job has any
abbrev pub no_tickets : ℕ → ℕ
no_tickets number = 0
