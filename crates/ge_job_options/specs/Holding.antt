-- Hold lists as they are read, each once for a job.
use Rattle.std.specs.Prelude.{◌≡◌, ℕ, Bool, cond, if◌then◌else◌, List, [], ◌∷◌, map, filter, Option, Some, None, option_map}
use Rattle.std.specs.Borrow.{Bor}
use Rattle.std.specs.BTreeMap.{is_at}
use Rattle.std.specs.List.{list_any}
use Rattle.std.specs.Map.{lookup}
use Rattle.std.specs.Option.{option_or}
use Rattle.std.specs.Ordering.{nat_cmp}
use Rattle.ge_base.specs.declared.refusal.Refusal.{Refusal}
use Rattle.ge_base.specs.declared.refusal.Refusal.TheVariants.{NoSuchObject}
use Rattle.ge_collections.specs.Keyed.{at_number, text_eq}
use Rattle.ge_model_rows.specs.ClusterRows.{Cluster}
use Rattle.ge_model_rows.specs.JobRows.{Job}
use Rattle.ge_model_rows.specs.TaskRows.{TaskSpan}
use Rattle.ge_model_text.specs.Pattern.{pattern_covers}
use Rattle.ge_model_rows.specs.Pieces.{pieces_at}
use Rattle.ge_model_grammar.specs.Options.{Given}
use Rattle.ge_model_core.specs.OptionValues.{option_word}
use Rattle.ge_model_core.specs.HoldLists.{predecessors, is_unknown_number, range_faults}

-- numbers with names that are lent
abbrev pub named_shown : List (ℕ × Bor (List ℕ)) → List (ℕ × List ℕ)
named_shown named = map (λ e. (e.0, e.1.now)) named

-- the jobs of an owner by number, each with its name
abbrev pub jobs_of_owner : List (ℕ × Job) → List ℕ → List (ℕ × List ℕ)
jobs_of_owner jobs owner = map (λ job. (job.0, job.1.name)) (filter (λ job. text_eq owner job.1.owner) jobs)

-- the name that is lent for a number
abbrev pub at_name : ℕ → List (ℕ × Bor (List ℕ)) → Option (List ℕ)
at_name q named = option_map (λ name. name.now) (lookup (is_at (nat_cmp q)) named)

-- the name of a job
abbrev pub name_at : List (ℕ × Job) → ℕ → Option (List ℕ)
name_at jobs q = option_map (λ job. job.name) (at_number jobs q)

-- the name of a job is lent for its number, if the job is there
abbrev pub PutsName : List (ℕ × Job) → List (ℕ × Bor (List ℕ)) → List (ℕ × Bor (List ℕ)) → ℕ → Type 0
PutsName jobs old new number = (q : ℕ) → at_name q new ≡ option_or (cond (is_at (nat_cmp q) number) (name_at jobs number) None) (at_name q old)

-- whether a number stands with a mark
abbrev pub is_keyed : {M : Type 0} → ℕ → List (M × ℕ) → Bool
is_keyed q marked = list_any (λ p. is_at (nat_cmp q) p.1) marked

-- the numbers of those whose names a pattern stands for
abbrev pub numbers_matching : List ℕ → List (ℕ × List ℕ) → List ℕ
numbers_matching pattern named = map (λ e. e.0) (filter (λ e. pattern_covers pattern e.1) named)

-- what a hold list names, where each of its numbers is one that a job has had
abbrev pub known_predecessors : Cluster → List ℕ → List ℕ → Option (List ℕ)
known_predecessors c owner word = if list_any (is_unknown_number c) (pieces_at 44 word) then None else Some (predecessors c owner word)

-- the same of an option, where a command has it
abbrev pub holds_given : Cluster → Given → List ℕ → List ℕ → Option (Option (List ℕ))
holds_given c options owner name = option_map (known_predecessors c owner) (option_word options name)

-- what refuses a hold list that was read
abbrev pub unknown_faults : Option (Option (List ℕ)) → List Refusal
unknown_faults None = []
unknown_faults (Some None) = NoSuchObject ∷ []
unknown_faults (Some (Some numbers)) = []

-- what refuses array predecessors that were read
abbrev pub array_faults : Cluster → TaskSpan → Option (Option (List ℕ)) → List Refusal
array_faults c span None = []
array_faults c span (Some None) = NoSuchObject ∷ []
array_faults c span (Some (Some numbers)) = range_faults c span numbers
