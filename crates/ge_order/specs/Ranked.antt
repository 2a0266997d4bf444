-- Ranks of priorities: what a sort by key must give.
use Rattle.std.specs.Prelude.{◌≡◌, ℕ, Bool, true, ◌&&◌, List, map, fold, [], ◌∷◌}
use Rattle.std.specs.Map.{keys_of}
use Rattle.std.specs.Ordering.{is_lt}
use Rattle.std.specs.declared.cmp.Reverse.{Reverse}
use Rattle.ge_model_rows.specs.ClusterRows.{Cluster}
use Rattle.ge_model_rows.specs.ScheduleRows.{Prio}
use Rattle.ge_model_rows.specs.TaskRows.{TaskId}
use Rattle.ge_model_jobs.specs.Holds.{eligible_tasks}
use Rattle.ge_model_order.specs.Priority.{rank_cmp, with_rank}

abbrev pub Rank : Type 0
Rank = Reverse ℕ × ℕ

abbrev pub task_at : ℕ → ℕ → TaskId
task_at job task = record { job = job; task = task }

-- the eligible tasks of a job, at most as many as a run considers
abbrev pub tasks_of_job : Cluster → ℕ → ℕ → List TaskId
tasks_of_job c now number = map (task_at number) (eligible_tasks c.jobs number now c.sched.max_pending)

abbrev pub tasks_at_rank : Cluster → ℕ → Rank → List TaskId
tasks_at_rank c now rank = tasks_of_job c now rank.1

-- whether each rank is below the next one
abbrev pub rise_above : Rank → List Rank → Bool
rise_above low [] = true
rise_above low (rank ∷ ranks) = is_lt (rank_cmp low rank) && rise_above rank ranks

abbrev pub rise : List Rank → Bool
rise [] = true
rise (rank ∷ ranks) = rise_above rank ranks

-- these are the ranks of the table of priorities, in its order
abbrev pub AreRanks : List Prio → List Rank → Type 0
AreRanks prios ranks = ranks ≡ keys_of (fold with_rank [] prios)
