-- Whether a job would wait for itself, over predecessors that live.
use Rattle.std.specs.Prelude.{ℕ, zero, suc, ◌==◌, Bool, true, false, List, [], ◌∷◌, ◌++◌, length, sum_by, Option, Some, None, unwrap_or}
use Rattle.std.specs.List.{list_any}
use Rattle.std.specs.BTreeMap.{is_at}
use Rattle.std.specs.Ordering.{nat_cmp}
use Rattle.std.specs.Map.{lookup}
use Rattle.ge_collections.specs.Keyed.{at_number}
use Rattle.ge_model_rows.specs.ClusterRows.{Cluster}
use Rattle.ge_model_rows.specs.EntryRows.{Patch}
use Rattle.ge_model_rows.specs.JobRows.{Job}

-- the predecessors of a job once a patch is made
abbrev pub patched_after : Job → Option Patch → List ℕ
patched_after job None = job.after ++ job.after_each
patched_after job (Some patch) = unwrap_or patch.after job.after ++ unwrap_or patch.after_each job.after_each

abbrev pub after_of : Option Job → Option Patch → List ℕ
after_of None patch = []
after_of (Some job) patch = patched_after job patch

-- the predecessors of a number, once these patches are made; a job that doesn't live has none
abbrev pub waits_for : Cluster → List (ℕ × Patch) → ℕ → List ℕ
waits_for c patches number = after_of (at_number c.jobs number) (lookup (is_at (nat_cmp number)) patches)

-- a walk over predecessors: whether it meets the goal. Each number is gone through once, so the steps are bounded by
-- the number of all predecessors
abbrev pub meets : (ℕ → List ℕ) → ℕ → ℕ → List ℕ → List ℕ → Bool
meets next goal steps met [] = false
meets next goal zero met (n ∷ more) = false
meets next goal (suc steps) met (n ∷ more) =
    elim (n == goal) [
      | true ↦ true
      | false ↦ elim (list_any (λ m. m == n) met) [ true ↦ meets next goal steps met more | false ↦ meets next goal steps (n ∷ met) (next n ++ more) ]
    ]

abbrev pub predecessor_count : Cluster → List (ℕ × Patch) → ℕ × Job → ℕ
predecessor_count c patches job = length (waits_for c patches job.0)

abbrev pub all_predecessors : Cluster → List (ℕ × Patch) → ℕ
all_predecessors c patches = sum_by (predecessor_count c patches) c.jobs

-- whether a job would reach itself
abbrev pub reaches_itself : Cluster → List (ℕ × Patch) → ℕ → Bool
reaches_itself c patches number = meets (waits_for c patches) number (all_predecessors c patches) [] (waits_for c patches number)
