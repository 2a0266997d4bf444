-- The targets of qdel and qmod: jobs and tasks that are named.
use Rattle.std.specs.Prelude.{ℕ, ◌==◌, Bool, List, [], ◌∷◌, ◌++◌, length, flat_map, Option, Some, None}
use Rattle.ge_base.specs.declared.refusal.Refusal.{Refusal}
use Rattle.ge_base.specs.declared.refusal.Refusal.TheVariants.{NoSuchObject, NotPermitted}
use Rattle.ge_collections.specs.Keyed.{at_number}
use Rattle.ge_model_rows.specs.ClusterRows.{Cluster}
use Rattle.ge_model_rows.specs.EntryRows.{Pick}
use Rattle.ge_model_rows.specs.EventRows.{Event}
use Rattle.ge_model_rows.specs.JobRows.{Job}
use Rattle.ge_model_rows.specs.TaskRows.{TaskSpan}
use Rattle.ge_model_rows.specs.Faults.{when}
use Rattle.ge_model_jobs.specs.Picks.{picked_tasks, joined_picks}
use Rattle.ge_model_core.specs.Altering.{is_foreign}

-- whether there is nothing in a set
abbrev pub is_none : List TaskSpan → Bool
is_none spans = length spans == 0

abbrev pub target_faults_of : Cluster → Event → Pick → Option Job → List Refusal
target_faults_of c e pick None = NoSuchObject ∷ []
target_faults_of c e pick (Some job) = when (is_foreign c e job) NotPermitted ++ when (is_none (picked_tasks job pick.tasks)) NoSuchObject

-- each target names a live task of a live job that the user may touch
abbrev pub target_faults : Cluster → Event → Pick → List Refusal
target_faults c e pick = target_faults_of c e pick (at_number c.jobs pick.job)

-- the live tasks of a job that are named, where it is there
abbrev pub live_named : Cluster → ℕ × Option (List TaskSpan) → List (Job × List TaskSpan)
live_named c named = elim (at_number c.jobs named.0) [ None ↦ [] | Some job ↦ (job, picked_tasks job named.1) ∷ [] ]

-- the jobs that are named, each once, by number, with their live tasks that any of these targets names
abbrev pub named_jobs : Cluster → List Pick → List (Job × List TaskSpan)
named_jobs c picks = flat_map (live_named c) (joined_picks picks)
