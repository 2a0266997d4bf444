-- The answer to a submission, of its parts.
use Rattle.std.proofs.Common.{◌≡◌, ℕ, List, [], ◌∷◌, Option, Some, ap, ◌∙◌}
use Rattle.std.specs.Prelude.{option_map, codes}
use Rattle.ge_model_rows.specs.ClusterRows.{Cluster}
use Rattle.ge_model_rows.specs.EntryRows.{Submit}
use Rattle.ge_model_rows.specs.EventRows.{Event}
use Rattle.ge_model_rows.specs.JobRows.{Job, Request}
use Rattle.ge_model_rows.specs.TaskRows.{TaskSpan}
use Rattle.ge_model_grammar.specs.Options.{Given}
use Rattle.ge_model_config.specs.Requests.{request_of, no_request}
use Rattle.ge_model_core.specs.Answers.{changed}
use Rattle.ge_model_core.specs.OptionValues.{option_word}
use Rattle.ge_model_core.specs.HoldLists.{predecessors}
use Rattle.ge_model_core.specs.Submitting.{job_from, submitted_tasks, submitted_job, submitted_line, submission_answer}
use Rattle.ge_job_options.specs.Held.{patch_with}
use Rattle.ge_job_options.specs.Holding.{holds_given}
use Rattle.ge_job_options.proofs.Held.{known_lists}

module _ (c : Cluster) (e : Event) (options : Given) (words : List (List ℕ)) (script : List ℕ) where
  job_is : (span : TaskSpan) (request : Request) (after each : Option (List ℕ)) (job : Job) → span ≡ submitted_tasks options → request ≡ (request_of c options no_request).0
      → after ≡ option_map (predecessors c e.user) (option_word options (codes "-hold_jid")) → each ≡ option_map (predecessors c e.user) (option_word options (codes "-hold_jid_ad"))
      → job ≡ job_from c e options words script span (patch_with options request after each) → job ≡ submitted_job c e options words script
  unfolding submitted_job
  job_is span request after each job range asked first second is =
      is ∙ ap (λ (s : TaskSpan). job_from c e options words script s (patch_with options request after each)) range
      ∙ ap (λ (r : Request). job_from c e options words script (submitted_tasks options) (patch_with options r after each)) asked
      ∙ ap (λ (l : Option (List ℕ)). job_from c e options words script (submitted_tasks options) (patch_with options (request_of c options no_request).0 l each)) first
      ∙ ap (λ (l : Option (List ℕ)).
      job_from c e options words script (submitted_tasks options)
      (patch_with options (request_of c options no_request).0 (option_map (predecessors c e.user) (option_word options (codes "-hold_jid"))) l)) second

  pub accepted : (span : TaskSpan) (looked : Request × Option (Option (List ℕ)) × Option (Option (List ℕ))) (after each : Option (List ℕ)) (job : Job) (line : List ℕ) → span ≡ submitted_tasks options
      → looked ≡ ((request_of c options no_request).0, holds_given c options e.user (codes "-hold_jid"), holds_given c options e.user (codes "-hold_jid_ad"))
      → option_map Some after ≡ looked.1 → option_map Some each ≡ looked.2 → job ≡ job_from c e options words script span (patch_with options looked.0 after each)
      → line ≡ submitted_line job → changed e (Submit job) (line ∷ []) ≡ submission_answer e (submitted_job c e options words script)
  accepted span looked after each job line range is first second made told =
      ap (λ (l : List ℕ). changed e (Submit job) (l ∷ [])) told
      ∙ ap (submission_answer e)
      (job_is span looked.0 after each job range (ap (λ (l : Request × Option (Option (List ℕ)) × Option (Option (List ℕ))). l.0) is)
      (known_lists c options e.user (codes "-hold_jid") after (first ∙ ap (λ (l : Request × Option (Option (List ℕ)) × Option (Option (List ℕ))). l.1) is))
      (known_lists c options e.user (codes "-hold_jid_ad") each (second ∙ ap (λ (l : Request × Option (Option (List ℕ)) × Option (Option (List ℕ))). l.2) is)) made)
