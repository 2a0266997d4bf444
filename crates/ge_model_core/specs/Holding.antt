-- The plans of qhold and qrls.
use Rattle.std.specs.Prelude.{ℕ, ◌/◌, ◌%◌, ◌==◌, ◌&&◌, Bool, not, List, [], ◌∷◌, ◌++◌, length, flat_map, Option, Some, None, codes, decimal}
use Rattle.ge_base.specs.declared.refusal.Refusal.{Refusal}
use Rattle.ge_base.specs.declared.refusal.Refusal.TheVariants.{NoSuchObject, NotPermitted}
use Rattle.ge_collections.specs.Keyed.{at_number}
use Rattle.ge_model_rows.specs.ClusterRows.{Cluster}
use Rattle.ge_model_rows.specs.EntryRows.{Change, Hold, Release}
use Rattle.ge_model_rows.specs.EventRows.{Event, Planned}
use Rattle.ge_model_rows.specs.JobRows.{Job}
use Rattle.ge_model_rows.specs.Faults.{when}
use Rattle.ge_model_rows.specs.Pieces.{each_number_once}
use Rattle.ge_model_rows.specs.Access.{is_manager, is_operator}
use Rattle.ge_model_core.specs.Answers.{changed, unless_faulty}
use Rattle.ge_model_core.specs.Altering.{is_foreign}

-- the hold bits: user 1, operator 2, system 4
abbrev pub has_user_bit : ℕ → Bool
has_user_bit bits = bits % 2 == 1

abbrev pub has_operator_bit : ℕ → Bool
has_operator_bit bits = bits / 2 % 2 == 1

abbrev pub has_system_bit : ℕ → Bool
has_system_bit bits = bits / 4 % 2 == 1

abbrev pub job_hold_faults : Cluster → Event → ℕ → Option Job → List Refusal
job_hold_faults c e bits None = NoSuchObject ∷ []
job_hold_faults c e bits (Some job) = when (has_user_bit bits && is_foreign c e job) NotPermitted

-- a user hold is for the owner and operators, an operator hold for operators, a system hold for managers (qhold)
abbrev pub hold_plan_faults : Cluster → Event → ℕ → List ℕ → List Refusal
hold_plan_faults c e bits numbers =
    flat_map (λ number. job_hold_faults c e bits (at_number c.jobs number)) numbers
    ++ when (has_operator_bit bits && not (is_operator c e.user)) NotPermitted
    ++ when (has_system_bit bits && not (is_manager c e.user)) NotPermitted

abbrev pub hold_answer : Event → Change → List ℕ → Planned
hold_answer e change numbers = changed e change ((codes "changed " ++ decimal (length numbers)) ∷ [])

unfoldable pub hold_plan : Cluster → Event → ℕ → List ℕ → Planned
hold_plan c e bits numbers =
    let once = each_number_once numbers in unless_faulty (hold_plan_faults c e bits numbers) (hold_answer e (Hold once bits) once)

unfoldable pub release_plan : Cluster → Event → ℕ → List ℕ → Planned
release_plan c e bits numbers =
    let once = each_number_once numbers in unless_faulty (hold_plan_faults c e bits numbers) (hold_answer e (Release once bits) once)
