-- Whose job it is, and what its options give.
use Rattle.std.specs.Prelude.{ℕ, if◌then◌else◌, List, ◌++◌, Option, Some, None, option_map, codes}
use Rattle.ge_base.specs.declared.refusal.Refusal.{Refusal}
use Rattle.ge_model_rows.specs.ClusterRows.{Cluster}
use Rattle.ge_model_rows.specs.EntryRows.{Patch}
use Rattle.ge_model_rows.specs.EventRows.{Event}
use Rattle.ge_model_rows.specs.JobRows.{Request}
use Rattle.ge_model_grammar.specs.Options.{Given}
use Rattle.ge_model_core.specs.OptionValues.{option_word, number_given, integer_of, is_yes}
use Rattle.ge_model_core.specs.JobOptions.{Owned, asks, faults_in, priority_faults, width_faults, project_faults, moment_faults, deadline_faults, override_faults}
use Rattle.ge_commands.specs.Shown.{range_shown}
use Rattle.ge_job_options.specs.declared.holders.Holder.{Holder}

-- the definitions' words for it
abbrev pub holder_shown : Holder → Owned
holder_shown h = record { owner = h.who.now; group = h.team.now; span = range_shown h.tasks; request = h.older.now }

-- what options set in a job, with the request and the predecessors that were looked up
abbrev pub patch_with : Given → Request → Option (List ℕ) → Option (List ℕ) → Patch
patch_with options request after after_each = record {
  name = option_word options (codes "-N");
  request = if asks options then Some request else None;
  priority = option_map integer_of (option_word options (codes "-p"));
  share = number_given options (codes "-js");
  project = option_word options (codes "-P");
  reserve = option_map is_yes (option_word options (codes "-R"));
  not_before = number_given options (codes "-a");
  deadline = number_given options (codes "-dl");
  account = option_word options (codes "-A");
  after = after;
  after_each = after_each;
  oticket = number_given options (codes "-ot");
}

-- what refuses options, but for what they ask for and their hold lists
abbrev pub job_words_faults : Cluster → Event → Given → Owned → List Refusal
job_words_faults c e options job =
    faults_in (option_word options (codes "-p")) (priority_faults c e)
    ++ faults_in (number_given options (codes "-js")) width_faults
    ++ faults_in (option_word options (codes "-P")) (project_faults c job)
    ++ faults_in (number_given options (codes "-a")) moment_faults
    ++ faults_in (number_given options (codes "-dl")) deadline_faults
    ++ faults_in (number_given options (codes "-ot")) (override_faults c e)
