-- Hold lists that were read: what refuses them, and their predecessors.
use Rattle.std.proofs.Common.{◌≡◌, ℕ, Bool, true, false, List, ◌++◌, Option, Some, None, refl, sym, ap, ◌∙◌}
use Rattle.std.specs.Prelude.{option_map, if◌then◌else◌}
use Rattle.std.specs.List.{list_any}
use Rattle.ge_base.specs.declared.refusal.Refusal.{Refusal}
use Rattle.ge_base.specs.declared.refusal.Refusal.TheVariants.{Syntax, TooLong, TimeBack, NoSuchObject, NotPermitted, Exists, InUse, BadValue, NotRequestable, Cycle, Limit, StaleReport, NoMemory}
use Rattle.ge_model_rows.specs.ClusterRows.{Cluster}
use Rattle.ge_model_rows.specs.TaskRows.{TaskSpan}
use Rattle.ge_model_rows.specs.Faults.{when, earlier_fault, after_faults}
use Rattle.ge_model_rows.specs.Pieces.{pieces_at}
use Rattle.ge_model_grammar.specs.Options.{Given}
use Rattle.ge_model_core.specs.OptionValues.{option_word}
use Rattle.ge_model_core.specs.HoldLists.{predecessors, is_unknown_number, hold_faults, range_faults}
use Rattle.ge_model_core.specs.JobOptions.{Owned, faults_in, array_hold_faults}
use Rattle.ge_job_options.specs.Holding.{known_predecessors, holds_given, unknown_faults, array_faults}

-- numbers that no job has had

unknown_by : (b : Bool) (numbers : List ℕ) → unknown_faults (Some (if b then None else Some numbers)) ≡ when b NoSuchObject
unknown_by true numbers = refl
unknown_by false numbers = refl

pub unknown_word : (c : Cluster) (owner : List ℕ) (word : Option (List ℕ)) → unknown_faults (option_map (known_predecessors c owner) word) ≡ faults_in word (hold_faults c)
unknown_word c owner None = refl
unknown_word c owner (Some word) = unknown_by (list_any (is_unknown_number c) (pieces_at 44 word)) (predecessors c owner word)

pub holds_noted : (c : Cluster) (options : Given) (owner name : List ℕ) (old : Option Refusal)
    → after_faults old (unknown_faults (holds_given c options owner name)) ≡ after_faults old (faults_in (option_word options name) (hold_faults c))
holds_noted c options owner name old = ap (after_faults old) (unknown_word c owner (option_word options name))

-- behind a number that no job has had, another range of tasks changes no answer

none_later : (old : Option Refusal) (t : Bool) → after_faults (earlier_fault old NoSuchObject) (when t BadValue) ≡ earlier_fault old NoSuchObject
none_later old false = refl
none_later None true = refl
none_later (Some Syntax) true = refl
none_later (Some TooLong) true = refl
none_later (Some TimeBack) true = refl
none_later (Some NoSuchObject) true = refl
none_later (Some NotPermitted) true = refl
none_later (Some Exists) true = refl
none_later (Some InUse) true = refl
none_later (Some BadValue) true = refl
none_later (Some NotRequestable) true = refl
none_later (Some Cycle) true = refl
none_later (Some Limit) true = refl
none_later (Some StaleReport) true = refl
none_later (Some NoMemory) true = refl

array_by : (c : Cluster) (span : TaskSpan) (b t : Bool) (numbers : List ℕ) (old : Option Refusal)
    → range_faults c span numbers ≡ when t BadValue
    → after_faults old (array_faults c span (Some (if b then None else Some numbers))) ≡ after_faults old (when b NoSuchObject ++ range_faults c span numbers)
array_by c span false t numbers old is = refl
array_by c span true t numbers old is =
    sym (none_later old t) ∙ ap (λ (faults : List Refusal). after_faults (earlier_fault old NoSuchObject) faults) (sym is)

pub array_word : (c : Cluster) (job : Owned) (word : Option (List ℕ)) (old : Option Refusal)
    → after_faults old (array_faults c job.span (option_map (known_predecessors c job.owner) word)) ≡ after_faults old (faults_in word (array_hold_faults c job))
array_word c job None old = refl
array_word c job (Some word) old = array_by c job.span (list_any (is_unknown_number c) (pieces_at 44 word)) _ (predecessors c job.owner word) old refl

pub array_holds_noted : (c : Cluster) (options : Given) (job : Owned) (name : List ℕ) (old : Option Refusal)
    → after_faults old (array_faults c job.span (holds_given c options job.owner name)) ≡ after_faults old (faults_in (option_word options name) (array_hold_faults c job))
array_holds_noted c options job name old = array_word c job (option_word options name) old

-- lists that aren't refused

known_by : (b : Bool) (list numbers : List ℕ) → Some (Some list) ≡ Some (if b then None else Some numbers) → Some list ≡ Some numbers
known_by true list numbers is = cc
known_by false list numbers is = cc

pub known_word : (c : Cluster) (owner : List ℕ) (word list : Option (List ℕ)) → option_map Some list ≡ option_map (known_predecessors c owner) word
    → list ≡ option_map (predecessors c owner) word
known_word c owner None None is = refl
known_word c owner None (Some list) is = cc
known_word c owner (Some word) None is = cc
known_word c owner (Some word) (Some list) is = known_by (list_any (is_unknown_number c) (pieces_at 44 word)) list (predecessors c owner word) is

pub known_lists : (c : Cluster) (options : Given) (owner name : List ℕ) (list : Option (List ℕ)) → option_map Some list ≡ holds_given c options owner name
    → list ≡ option_map (predecessors c owner) (option_word options name)
known_lists c options owner name list is = known_word c owner (option_word options name) list is
