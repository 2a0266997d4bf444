-- What the options of qsub and qalter set in a job, and what refuses them.
use Rattle.std.specs.Prelude.{ℕ, ◌^◌, Bool, ◌==◌, ◌&&◌, ◌||◌, not, nat_lt, nat_le, if◌then◌else◌, List, [], ◌∷◌, ◌++◌, Option, Some, None, option_map, codes}
use Rattle.ge_base.specs.declared.refusal.Refusal.{Refusal}
use Rattle.ge_base.specs.declared.refusal.Refusal.TheVariants.{NoSuchObject, NotPermitted, BadValue}
use Rattle.ge_collections.specs.Keyed.{at_text}
use Rattle.ge_limits.specs.Limits as limit
use Rattle.ge_model_rows.specs.ClusterRows.{Cluster}
use Rattle.ge_model_rows.specs.EntryRows.{Patch}
use Rattle.ge_model_rows.specs.EventRows.{Event}
use Rattle.ge_model_rows.specs.JobRows.{Request}
use Rattle.ge_model_rows.specs.PeopleRows.{ProjectRow}
use Rattle.ge_model_rows.specs.TaskRows.{TaskSpan}
use Rattle.ge_model_rows.specs.Faults.{when}
use Rattle.ge_model_rows.specs.Access.{is_operator, may_use}
use Rattle.ge_model_grammar.specs.Options.{Given, has_option}
use Rattle.ge_model_config.specs.Requests.{request_of}
use Rattle.ge_model_core.specs.OptionValues.{option_word, number_given, is_negative, magnitude, integer_of, is_yes}
use Rattle.ge_model_core.specs.HoldLists.{predecessors, hold_faults, range_faults}

-- whose job it is: its owner, the owner's group, its range of tasks and what it asked for so far
pub record Owned : Type 0 where
  pub owner : List ℕ
  pub group : List ℕ
  pub span : TaskSpan
  pub request : Request

-- whether they ask for another request: -l, -q or -pe
abbrev pub asks : Given → Bool
asks options = has_option options (codes "-l") || has_option options (codes "-q") || has_option options (codes "-pe")

abbrev pub request_given : Cluster → Given → Owned → Option Request
request_given c options job = if asks options then Some ((request_of c options job.request).0) else None

-- what the options set; what they don't name stays
abbrev pub patch_of : Cluster → Given → Owned → Patch
patch_of c options job = record {
  name = option_word options (codes "-N");
  request = request_given c options job;
  priority = option_map integer_of (option_word options (codes "-p"));
  share = number_given options (codes "-js");
  project = option_word options (codes "-P");
  reserve = option_map is_yes (option_word options (codes "-R"));
  not_before = number_given options (codes "-a");
  deadline = number_given options (codes "-dl");
  account = option_word options (codes "-A");
  after = option_map (predecessors c job.owner) (option_word options (codes "-hold_jid"));
  after_each = option_map (predecessors c job.owner) (option_word options (codes "-hold_jid_ad"));
  oticket = number_given options (codes "-ot");
}

-- faults of what is given, none where it isn't
abbrev pub faults_in : {X : Type 0} → Option X → (X → List Refusal) → List Refusal
faults_in None faults = []
faults_in (Some x) faults = faults x

-- a priority lies between -1023 and 1024; one above 0 is for operators (qsub, -p)
abbrev pub priority_faults : Cluster → Event → List ℕ → List Refusal
priority_faults c e word =
    when (not (is_negative word) && nat_lt 0 (magnitude word) && not (is_operator c e.user)) NotPermitted
    ++ when (nat_lt (if is_negative word then 1023 else 1024) (magnitude word)) BadValue

-- job shares and tickets are below 2^32
abbrev pub width_faults : ℕ → List Refusal
width_faults number = when (nat_le (2 ^ 32) number) BadValue

-- a moment is below 2^40
abbrev pub moment_faults : ℕ → List Refusal
moment_faults moment = when (nat_le limit.moments moment) BadValue

-- a deadline isn't 0
abbrev pub deadline_faults : ℕ → List Refusal
deadline_faults moment = moment_faults moment ++ when (moment == 0) BadValue

abbrev pub admission_faults : Cluster → Owned → Option ProjectRow → List Refusal
admission_faults c job None = NoSuchObject ∷ []
admission_faults c job (Some project) = when (not (may_use c project.acl project.xacl job.owner job.group)) NotPermitted

-- a project is there and admits the owner (project, acl and xacl)
abbrev pub project_faults : Cluster → Owned → List ℕ → List Refusal
project_faults c job name = admission_faults c job (at_text c.projects name)

-- override tickets are for operators (qalter, -ot)
abbrev pub override_faults : Cluster → Event → ℕ → List Refusal
override_faults c e number = when (not (is_operator c e.user)) NotPermitted ++ width_faults number

abbrev pub array_hold_faults : Cluster → Owned → List ℕ → List Refusal
array_hold_faults c job word = hold_faults c word ++ range_faults c job.span (predecessors c job.owner word)

-- the refusals that hold of options for a job
abbrev pub option_faults : Cluster → Event → Given → Owned → List Refusal
option_faults c e options job =
    (request_of c options job.request).1
    ++ faults_in (option_word options (codes "-p")) (priority_faults c e)
    ++ faults_in (number_given options (codes "-js")) width_faults
    ++ faults_in (option_word options (codes "-P")) (project_faults c job)
    ++ faults_in (number_given options (codes "-a")) moment_faults
    ++ faults_in (number_given options (codes "-dl")) deadline_faults
    ++ faults_in (number_given options (codes "-ot")) (override_faults c e)
    ++ faults_in (option_word options (codes "-hold_jid")) (hold_faults c)
    ++ faults_in (option_word options (codes "-hold_jid_ad")) (array_hold_faults c job)
