-- The predecessors that -hold_jid and -hold_jid_ad name (qsub).
use Rattle.std.specs.Prelude.{ℕ, Bool, false, ◌==◌, ◌&&◌, ◌||◌, not, nat_le, if◌then◌else◌, List, [], ◌∷◌, map, filter, flat_map, Option, Some, None, is_some}
use Rattle.std.specs.List.{list_any}
use Rattle.ge_base.specs.declared.refusal.Refusal.{Refusal}
use Rattle.ge_base.specs.declared.refusal.Refusal.TheVariants.{NoSuchObject, BadValue}
use Rattle.ge_collections.specs.Keyed.{text_eq, at_number}
use Rattle.ge_model_rows.specs.ClusterRows.{Cluster}
use Rattle.ge_model_rows.specs.JobRows.{Job}
use Rattle.ge_model_rows.specs.TaskRows.{TaskSpan}
use Rattle.ge_model_text.specs.Pattern.{pattern_covers}
use Rattle.ge_model_rows.specs.Faults.{when}
use Rattle.ge_model_rows.specs.Pieces.{pieces_at, is_digits, number_of, each_number_once}

-- whether a pattern stands for a job's name, and the job is this owner's
abbrev pub is_named_by : List ℕ → List ℕ → ℕ × Job → Bool
is_named_by owner pattern job = text_eq owner job.1.owner && pattern_covers pattern job.1.name

abbrev pub number_in : ℕ × Job → ℕ
number_in job = job.0

-- a job that lives, by its number
abbrev pub live_number : Cluster → ℕ → List ℕ
live_number c number = if is_some (at_number c.jobs number) then number ∷ [] else []

-- what one item names: a number its job while it lives, a pattern the live jobs of the owner, by number
abbrev pub named_by : Cluster → List ℕ → List ℕ → List ℕ
named_by c owner item = if is_digits item then live_number c (number_of item) else map number_in (filter (is_named_by owner item) c.jobs)

-- the items of a list, each job once, at its first place
abbrev pub predecessors : Cluster → List ℕ → List ℕ → List ℕ
predecessors c owner word = each_number_once (flat_map (named_by c owner) (pieces_at 44 word))

-- whether an item is a number that no job has had
abbrev pub is_unknown_number : Cluster → List ℕ → Bool
is_unknown_number c item = is_digits item && (number_of item == 0 || nat_le c.next_job (number_of item))

abbrev pub hold_faults : Cluster → List ℕ → List Refusal
hold_faults c word = when (list_any (is_unknown_number c) (pieces_at 44 word)) NoSuchObject

-- whether two jobs have the same range of tasks
abbrev pub same_range : TaskSpan → TaskSpan → Bool
same_range a b = a.first == b.first && a.last == b.last && a.step == b.step

abbrev pub has_other_range : TaskSpan → Option Job → Bool
has_other_range span None = false
has_other_range span (Some job) = not (same_range job.span span)

-- array predecessors have the range of the job that waits for them
abbrev pub range_faults : Cluster → TaskSpan → List ℕ → List Refusal
range_faults c span numbers = when (list_any (λ number. has_other_range span (at_number c.jobs number)) numbers) BadValue
