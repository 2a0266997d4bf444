-- The targets that are read from a command line: the tasks that they name are sets in the form.
use Rattle.std.proofs.Common.{ℕ, Bool, true, false, if◌then◌else◌, List, [], ◌∷◌, ◌++◌, Option, Some, None, option_map}
use Rattle.std.specs.Prelude.{IfSome}
use Rattle.ge_model_rows.specs.EntryRows.{Pick}
use Rattle.ge_model_rows.specs.TaskRows.{TaskSpan}
use Rattle.ge_model_rows.specs.Pieces.{is_empty, before_byte, behind_byte, has_byte}
use Rattle.ge_model_rows.specs.Ranges.{range_of}
use Rattle.ge_model_jobs.proofs.Places.{IsPick}
use Rattle.ge_model_jobs.proofs.Orderly.{ArePicks}
use Rattle.ge_model_grammar.specs.Lines.{read_after, read_each}
use Rattle.ge_model_grammar.specs.Targets.{job_number_of, items_of, whole_job, some_tasks, target_of, targets_of}
use Rattle.ge_soundness.proofs.PlansRanges.{IsRange, text_is_range, range_set_form}

-- the tasks of a target are in the form, where it names some
abbrev IsTarget : Pick → Type 0
IsTarget pick = IsPick pick.tasks

-- a target is a job, or a job and a range of its tasks
target_is : (item : List ℕ) → IfSome (target_of item) IsTarget
target_is item = by (job_number_of (before_byte 46 item))
  where
    ranged : (job : ℕ) (range : Option TaskSpan) → IfSome range IsRange → IfSome (option_map (some_tasks job) range) IsTarget
    ranged job None is = tt
    ranged job (Some range) is = range_set_form range is

    pointed : (job : ℕ) (point : Bool) → IfSome (if point then option_map (some_tasks job) (range_of (behind_byte 46 item)) else Some (whole_job job)) IsTarget
    pointed job true = ranged job (range_of (behind_byte 46 item)) (text_is_range (behind_byte 46 item))
    pointed job false = tt

    by : (job : Option ℕ)
        → IfSome (elim job as (λ x. Option Pick) [
          | None ↦ None
          | Some job ↦ if has_byte 46 item then option_map (some_tasks job) (range_of (behind_byte 46 item)) else Some (whole_job job)
        ]) IsTarget
    by None = tt
    by (Some job) = pointed job (has_byte 46 item)

-- ---- many of them

picks_more : (picks : List Pick) (pick : Pick) → ArePicks picks → IsTarget pick → ArePicks (picks ++ pick ∷ [])
picks_more [] pick are is = (is, tt)
picks_more (first ∷ picks) pick (one, are) is = (one, picks_more picks pick are is)

-- what is read behind targets that are so is so too
read_are : (so_far : List Pick) (items : List (List ℕ)) → ArePicks so_far → IfSome (read_after target_of so_far items) ArePicks
read_are so_far [] are = are
read_are so_far (item ∷ items) are = by (target_of item) (target_is item) (λ pick is. read_are (so_far ++ pick ∷ []) items (picks_more so_far pick are is))
  where
    by : (pick : Option Pick) → IfSome pick IsTarget → ((pick : Pick) → IsTarget pick → IfSome (read_after target_of (so_far ++ pick ∷ []) items) ArePicks)
        → IfSome (elim pick as (λ x. Option (List Pick)) [ None ↦ None | Some pick ↦ read_after target_of (so_far ++ pick ∷ []) items ]) ArePicks
    by None is more = tt
    by (Some pick) is more = more pick is

-- the tasks of all targets are in the form
pub targets_are : (words : List (List ℕ)) → IfSome (targets_of words) ArePicks
targets_are words = by (is_empty words)
  where
    by : (none : Bool) → IfSome (if none then None else read_each target_of (items_of words)) ArePicks
    by true = tt
    by false = read_are [] (items_of words) tt
