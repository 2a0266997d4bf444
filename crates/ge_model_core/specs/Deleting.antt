-- The plans of qdel and qmod -cj.
use Rattle.std.specs.Prelude.{ℕ, Bool, not, ◌&&◌, if◌then◌else◌, List, [], ◌∷◌, ◌++◌, length, filter, flat_map, sum_by, codes, decimal}
use Rattle.ge_base.specs.declared.refusal.Refusal.TheVariants.{NotPermitted}
use Rattle.ge_model_rows.specs.ClusterRows.{Cluster}
use Rattle.ge_model_rows.specs.EntryRows.{Delete, Clear, Pick}
use Rattle.ge_model_rows.specs.EventRows.{Event, Planned}
use Rattle.ge_model_rows.specs.JobRows.{Job, Running}
use Rattle.ge_model_rows.specs.TaskRows.{TaskSpan}
use Rattle.ge_model_rows.specs.Faults.{when}
use Rattle.ge_model_rows.specs.Sets.{has_number, count_of, meet, union}
use Rattle.ge_model_rows.specs.Access.{is_operator}
use Rattle.ge_model_core.specs.Answers.{changed, unless_faulty}
use Rattle.ge_model_core.specs.Targets.{target_faults, named_jobs}

abbrev pub task_runs_in : List TaskSpan → ℕ × Running → Bool
task_runs_in tasks task = has_number task.0 tasks

-- how many of the tasks that are named run, how many wait or are in error, and how many there are
abbrev pub running_named : Job × List TaskSpan → ℕ
running_named named = length (filter (task_runs_in named.1) named.0.running)

abbrev pub pending_named : Job × List TaskSpan → ℕ
pending_named named = count_of (meet (union named.0.queued named.0.broken) named.1)

abbrev pub all_named : Job × List TaskSpan → ℕ
all_named named = count_of named.1

-- a waiting task and one in error are removed; a running one is marked, or by force removed (qdel)
abbrev pub removed_line : Bool → List (Job × List TaskSpan) → List ℕ
removed_line force named =
    codes "removed " ++ decimal (if force then sum_by all_named named else sum_by pending_named named)
    ++ codes " marked " ++ decimal (if force then 0 else sum_by running_named named)

unfoldable pub delete_plan : Cluster → Event → Bool → List Pick → Planned
delete_plan c e force picks =
    unless_faulty (flat_map (target_faults c e) picks ++ when (force && not (is_operator c e.user)) NotPermitted)
    (changed e (Delete picks force) (removed_line force (named_jobs c picks) ∷ []))

-- how many of the tasks that are named are in error
abbrev pub broken_named : Job × List TaskSpan → ℕ
broken_named named = count_of (meet named.0.broken named.1)

abbrev pub cleared_line : List (Job × List TaskSpan) → List ℕ
cleared_line named = codes "cleared " ++ decimal (sum_by broken_named named)

unfoldable pub clear_plan : Cluster → Event → List Pick → Planned
clear_plan c e picks = unless_faulty (flat_map (target_faults c e) picks) (changed e (Clear picks) (cleared_line (named_jobs c picks) ∷ []))
