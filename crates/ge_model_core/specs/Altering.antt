-- The plan of qalter.
use Rattle.std.specs.Prelude.{ℕ, Bool, ◌==◌, ◌&&◌, ◌||◌, not, List, [], ◌∷◌, ◌++◌, length, flat_map, filter_map, Option, Some, None, option_map, codes, decimal}
use Rattle.std.specs.List.{list_any}
use Rattle.ge_base.specs.declared.refusal.Refusal.{Refusal}
use Rattle.ge_base.specs.declared.refusal.Refusal.TheVariants.{NoSuchObject, NotPermitted, InUse, Cycle}
use Rattle.ge_collections.specs.Keyed.{text_eq, at_number}
use Rattle.ge_model_rows.specs.ClusterRows.{Cluster}
use Rattle.ge_model_rows.specs.EntryRows.{Alter, Patch}
use Rattle.ge_model_rows.specs.EventRows.{Event, Planned}
use Rattle.ge_model_rows.specs.JobRows.{Job}
use Rattle.ge_model_rows.specs.Faults.{when}
use Rattle.ge_model_rows.specs.Pieces.{each_number_once}
use Rattle.ge_model_rows.specs.Access.{is_operator}
use Rattle.ge_model_grammar.specs.Options.{Given, has_option}
use Rattle.ge_model_core.specs.Answers.{changed, unless_faulty}
use Rattle.ge_model_core.specs.JobOptions.{Owned, asks, patch_of, option_faults}
use Rattle.ge_model_core.specs.JobAdvances.{stay_faults}
use Rattle.ge_model_core.specs.Reaching.{reaches_itself}

abbrev pub owned : Job → Owned
owned job = record { owner = job.owner; group = job.group; span = job.span; request = job.request }

-- whether a user is neither the owner of a job nor an operator
abbrev pub is_foreign : Cluster → Event → Job → Bool
is_foreign c e job = not (text_eq job.owner e.user) && not (is_operator c e.user)

abbrev pub runs_any : Job → Bool
runs_any job = not (length job.running == 0)

-- what a task runs with stays: -l, -q, -pe and -P (qalter)
abbrev pub is_fixed : Given → Bool
is_fixed options = asks options || has_option options (codes "-P")

abbrev pub alter_faults_of : Cluster → Event → Given → Option Job → List Refusal
alter_faults_of c e options None = NoSuchObject ∷ []
alter_faults_of c e options (Some job) =
    when (is_foreign c e job) NotPermitted
    ++ when (is_fixed options && runs_any job) InUse
    ++ option_faults c e options (owned job)
    ++ stay_faults c options job.advance

abbrev pub alter_faults : Cluster → Event → Given → ℕ → List Refusal
alter_faults c e options number = alter_faults_of c e options (at_number c.jobs number)

abbrev pub patch_for : Cluster → Given → ℕ → Job → ℕ × Patch
patch_for c options number job = (number, patch_of c options (owned job))

-- the patch of a job that lives
abbrev pub patch_at : Cluster → Given → ℕ → Option (ℕ × Patch)
patch_at c options number = option_map (patch_for c options number) (at_number c.jobs number)

-- each job named once, in first-seen order, with what is set in it
abbrev pub patches_of : Cluster → Given → List ℕ → List (ℕ × Patch)
patches_of c options numbers = filter_map (patch_at c options) (each_number_once numbers)

-- whether a job would wait for itself after new predecessors are set
abbrev pub closes_a_cycle : Cluster → Given → List (ℕ × Patch) → Bool
closes_a_cycle c options patches =
    (has_option options (codes "-hold_jid") || has_option options (codes "-hold_jid_ad")) && list_any (λ patch. reaches_itself c patches patch.0) patches

abbrev pub modified_line : List (ℕ × Patch) → List ℕ
modified_line patches = codes "modified " ++ decimal (length patches)

abbrev pub altered : Event → List (ℕ × Patch) → Planned
altered e patches = changed e (Alter patches) (modified_line patches ∷ [])

unfoldable pub alter_plan : Cluster → Event → Given → List ℕ → Planned
alter_plan c e options numbers =
    let patches = patches_of c options numbers in
    unless_faulty (flat_map (alter_faults c e options) numbers ++ when (closes_a_cycle c options patches) Cycle) (altered e patches)
