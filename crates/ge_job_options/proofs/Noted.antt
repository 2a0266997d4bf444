-- Refusals noted part by part, and those of the whole.
use Rattle.std.proofs.Common.{◌≡◌, ℕ, List, ◌++◌, Option, Some, None, sym, ap, ◌∙◌}
use Rattle.std.specs.Prelude.{codes}
use Rattle.ge_base.specs.declared.refusal.Refusal.{Refusal}
use Rattle.ge_model_rows.specs.ClusterRows.{Cluster}
use Rattle.ge_model_rows.specs.EventRows.{Event}
use Rattle.ge_model_rows.specs.TaskRows.{TaskSpan}
use Rattle.ge_model_rows.specs.Faults.{after_faults, first_fault}
use Rattle.ge_model_rows.proofs.FaultLaws.{after_faults-append}
use Rattle.ge_model_grammar.specs.Options.{Given}
use Rattle.ge_model_config.specs.Requests.{request_of}
use Rattle.ge_model_core.specs.Refusals.{refused, unless_refused}
use Rattle.ge_model_core.specs.OptionValues.{option_word, number_given}
use Rattle.ge_model_core.specs.HoldLists.{hold_faults}
use Rattle.ge_model_core.specs.JobOptions.{Owned, faults_in, priority_faults, width_faults, project_faults, moment_faults, deadline_faults, override_faults, array_hold_faults, option_faults}
use Rattle.ge_model_core.specs.JobAdvances.{join_faults}
use Rattle.ge_model_core.specs.Submitting.{submitted_tasks, submitter, submitted_job, size_faults, submission_answer, submit_plan}
use Rattle.ge_job_options.specs.Held.{job_words_faults}

abbrev Faults : Type 0
Faults = List Refusal

abbrev Answer : Type 0
Answer = Option Refusal

six : (x : Answer) (p j q a d o : Faults) → after_faults x (p ++ j ++ q ++ a ++ d ++ o)
    ≡ after_faults (after_faults (after_faults (after_faults (after_faults (after_faults x p) j) q) a) d) o
six x p j q a d o =
    after_faults-append x (p ++ j ++ q ++ a ++ d) o
    ∙ ap (λ (y : Answer). after_faults y o) (after_faults-append x (p ++ j ++ q ++ a) d
    ∙ ap (λ (y : Answer). after_faults y d) (after_faults-append x (p ++ j ++ q) a
    ∙ ap (λ (y : Answer). after_faults y a) (after_faults-append x (p ++ j) q
    ∙ ap (λ (y : Answer). after_faults y q) (after_faults-append x p j))))

seven : (x : Answer) (r p j q a d o : Faults) → after_faults x (r ++ p ++ j ++ q ++ a ++ d ++ o) ≡ after_faults (after_faults x r) (p ++ j ++ q ++ a ++ d ++ o)
seven x r p j q a d o =
    after_faults-append x (r ++ p ++ j ++ q ++ a ++ d) o
    ∙ ap (λ (y : Answer). after_faults y o) (after_faults-append x (r ++ p ++ j ++ q ++ a) d
    ∙ ap (λ (y : Answer). after_faults y d) (after_faults-append x (r ++ p ++ j ++ q) a
    ∙ ap (λ (y : Answer). after_faults y a) (after_faults-append x (r ++ p ++ j) q
    ∙ ap (λ (y : Answer). after_faults y q) (after_faults-append x (r ++ p) j
    ∙ ap (λ (y : Answer). after_faults y j) (after_faults-append x r p)))))
    ∙ sym (six (after_faults x r) p j q a d o)

nine : (x : Answer) (r p j q a d o h g : Faults) → after_faults x (r ++ p ++ j ++ q ++ a ++ d ++ o ++ h ++ g)
    ≡ after_faults (after_faults (after_faults (after_faults x r) (p ++ j ++ q ++ a ++ d ++ o)) h) g
nine x r p j q a d o h g =
    after_faults-append x (r ++ p ++ j ++ q ++ a ++ d ++ o ++ h) g
    ∙ ap (λ (y : Answer). after_faults y g) (after_faults-append x (r ++ p ++ j ++ q ++ a ++ d ++ o) h
    ∙ ap (λ (y : Answer). after_faults y h) (seven x r p j q a d o))

pub options_noted : (c : Cluster) (e : Event) (options : Given) (job : Owned) (old f g h i : Answer) → f ≡ after_faults old (request_of c options job.request).1
    → g ≡ after_faults f (job_words_faults c e options job) → h ≡ after_faults g (faults_in (option_word options (codes "-hold_jid")) (hold_faults c))
    → i ≡ after_faults h (faults_in (option_word options (codes "-hold_jid_ad")) (array_hold_faults c job)) → i ≡ after_faults old (option_faults c e options job)
options_noted c e options job old f g h i one two three four =
    four ∙ ap (λ (y : Answer). after_faults y (faults_in (option_word options (codes "-hold_jid_ad")) (array_hold_faults c job)))
    (three ∙ ap (λ (y : Answer). after_faults y (faults_in (option_word options (codes "-hold_jid")) (hold_faults c)))
    (two ∙ ap (λ (y : Answer). after_faults y (job_words_faults c e options job)) one))
    ∙ sym (nine old (request_of c options job.request).1 (faults_in (option_word options (codes "-p")) (priority_faults c e)) (faults_in (number_given options (codes "-js")) width_faults)
    (faults_in (option_word options (codes "-P")) (project_faults c job)) (faults_in (number_given options (codes "-a")) moment_faults) (faults_in (number_given options (codes "-dl")) deadline_faults)
    (faults_in (number_given options (codes "-ot")) (override_faults c e)) (faults_in (option_word options (codes "-hold_jid")) (hold_faults c))
    (faults_in (option_word options (codes "-hold_jid_ad")) (array_hold_faults c job)))

module _ (c : Cluster) (e : Event) (options : Given) (words : List (List ℕ)) (script : List ℕ) (span : TaskSpan) (f g h : Answer) (range : span ≡ submitted_tasks options)
    (one : f ≡ after_faults None (option_faults c e options (submitter e options))) (two : g ≡ after_faults f (join_faults c e options)) (three : h ≡ after_faults g (size_faults c span words script)) where
  whole : first_fault (option_faults c e options (submitter e options) ++ join_faults c e options ++ size_faults c (submitted_tasks options) words script) ≡ h
  whole =
      after_faults-append None (option_faults c e options (submitter e options) ++ join_faults c e options) (size_faults c (submitted_tasks options) words script)
      ∙ ap (λ (y : Answer). after_faults y (size_faults c (submitted_tasks options) words script))
      (after_faults-append None (option_faults c e options (submitter e options)) (join_faults c e options)
      ∙ ap (λ (y : Answer). after_faults y (join_faults c e options)) (sym one) ∙ sym two)
      ∙ ap (λ (s : TaskSpan). after_faults g (size_faults c s words script)) (sym range) ∙ sym three

  by_answer : (answer : Answer) → h ≡ answer → unless_refused answer (submission_answer e (submitted_job c e options words script)) ≡ submit_plan c e options words script
  unfolding submit_plan
  by_answer answer is = sym (ap (λ (o : Answer). unless_refused o (submission_answer e (submitted_job c e options words script))) (whole ∙ is))

  pub refused_plan : (refusal : Refusal) → h ≡ Some refusal → refused refusal ≡ submit_plan c e options words script
  refused_plan refusal is = by_answer (Some refusal) is

  pub accepted_plan : h ≡ None → submission_answer e (submitted_job c e options words script) ≡ submit_plan c e options words script
  accepted_plan is = by_answer None is
