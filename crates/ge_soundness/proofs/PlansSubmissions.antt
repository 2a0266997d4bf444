-- The job that a submission brings is new: it has the next number, tasks in its span alone, and none that runs.
use Rattle.std.proofs.Common.{◌≡◌, ℕ, ◌-◌, ◌^◌, ◌≤◌, ◌||◌, Bool, true, false, List, [], ◌++◌, Option, Some, None, option_and_then, codes, refl, sym, ◌∙◌, arith}
use Rattle.std.specs.Prelude.{IfSome, IsTrue, ◌==◌, nat_lt, nat_le, length}
use Rattle.std.proofs.lemmas.Bool.{ltb-false}
use Rattle.ge_base.specs.declared.refusal.Refusal.TheVariants.{Limit}
use Rattle.ge_model_rows.specs.ClusterRows.{Cluster}
use Rattle.ge_model_rows.specs.EntryRows.{Patch}
use Rattle.ge_model_rows.specs.EventRows.{Event}
use Rattle.ge_model_rows.specs.TaskRows.{TaskSpan}
use Rattle.ge_model_rows.specs.Spans.{in_span}
use Rattle.ge_model_rows.specs.Sets.{has_number}
use Rattle.ge_model_rows.specs.Ranges.{range_of, range_count, range_set}
use Rattle.ge_model_rows.proofs.Steps.{lies_back}
use Rattle.ge_model_jobs.specs.Orderly.{has_key, one_at_most}
use Rattle.ge_model_grammar.specs.Options.{Given}
use Rattle.ge_model_core.specs.OptionValues.{option_word}
use Rattle.ge_model_core.specs.JobOptions.{patch_of, option_faults}
use Rattle.ge_model_core.specs.Submitting.{range_reached, submitted_tasks, submitter, job_from, submitted_job, is_wide, is_full, is_script_over, are_tasks_over, size_faults, submit_plan}
use Rattle.ge_model_core.specs.JobAdvances.{advance_named, join_faults}
use Rattle.ge_soundness.proofs.Brought.{IsNew}
use Rattle.ge_soundness.proofs.PlansAnswers.{EntryFits, unmet, entry_change}
use Rattle.ge_soundness.proofs.PlansBookings.{joins_one}
use Rattle.ge_model_config.proofs.ReadBackNames.{both_empty}
use Rattle.ge_soundness.proofs.PlansRanges.{IsRange, text_is_range, range_set_form, range_set_has}

-- ---- the tasks of a submission

-- up to the last number that its steps reach, a range is one still
tasks_are_range : (options : Given) → IsRange (submitted_tasks options)
tasks_are_range options = by (option_word options (codes "-t"))
  where
    end : (range : Option TaskSpan) → IfSome range IsRange → IsRange (range_reached range)
    end None is = record { positive = omega arith; ordered = omega arith; forward = omega arith }
    end (Some range) is = record { positive = is.positive; ordered = omega arith; forward = is.forward }

    by : (word : Option (List ℕ)) → IsRange (range_reached (option_and_then range_of word))
    by None = end None tt
    by (Some text) = end (range_of text) (text_is_range text)

-- ---- the job

-- a job that is made of a range of tasks up to 2^31 - 1 is new: all its tasks wait, and they are those of the range
job_is_new : (c : Cluster) (e : Event) (options : Given) (words : List (List ℕ)) (script : List ℕ) (span : TaskSpan) (given : Patch)
    → IsRange span → span.last ≤ 2 ^ 31 - 1 → c.next_job ≤ 4294967294 → IsTrue (advance_named options == 0 || has_key (advance_named options) c.advances)
    → IsNew c e.moment (job_from c e options words script span given)
job_is_new c e options words script span given range small in_range joined = record {
  number = refl;
  in_range = in_range;
  tasks = (span.first, alone (has_number span.first (range_set span)) (has span.first ∙ first_there));
  spans = λ n there. sym (has n) ∙ waits (has_number n (range_set span)) there;
  idle = refl;
  orderly = record { waiting = range_set_form span range; broken = refl; keys = tt; places = λ t. once (has_number t (range_set span)) };
  submitted = omega arith;
  joined = joined;
}
  where
    has : (n : ℕ) → has_number n (range_set span) ≡ in_span n span
    has n = range_set_has n span range (omega arith)

    first_there : in_span span.first span ≡ true
    first_there = lies_back span.first span.first span.last span.step (omega arith, range.ordered, grind arith)

    alone : (waiting : Bool) → waiting ≡ true → (waiting || false || false) ≡ true
    alone waiting is = rw is refl

    waits : (waiting : Bool) → (waiting || false || false) ≡ true → waiting ≡ true
    waits true is = refl
    waits false is = is

    once : (waiting : Bool) → one_at_most waiting false false ≡ true
    once true = refl
    once false = refl

-- ---- the plan

-- a submission that is accepted is neither too wide nor one too many
fits_in : (c : Cluster) (span : TaskSpan) (words : List (List ℕ)) (script : List ℕ) → size_faults c span words script ≡ [] → (span.last ≤ 2 ^ 31 - 1) × (c.next_job ≤ 4294967294)
fits_in c span words script none =
    let tests = first_two (is_wide span) (is_full c words) (is_script_over c script) (are_tasks_over c span) (unmet _ Limit none) in (
      ltb-false (2 ^ 31 - 1) span.last (second (nat_lt 75000 (range_count span)) (nat_lt (2 ^ 31 - 1) span.last) (nat_lt (2 ^ 31 - 1) span.step) tests.0),
      ltb-false 4294967294 c.next_job (second (nat_le 100000 (length c.jobs)) (nat_lt 4294967294 c.next_job) (nat_lt 1024 (length words)) tests.1),
    )
  where
    first_two : (a b c d : Bool) → (a || b || c || d) ≡ false → (a ≡ false) × (b ≡ false)
    first_two a b c d h = (grind arith, grind arith)

    second : (a b c : Bool) → (a || b || c) ≡ false → b ≡ false
    second a b c h = grind arith

-- a submission brings a new job
pub submit_entry : (c : Cluster) (e : Event) (options : Given) (words : List (List ℕ)) (script : List ℕ) → c.last ≤ e.moment → EntryFits c (submit_plan c e options words script)
unfolding submit_plan submitted_job
submit_entry c e options words script later =
    entry_change c e (option_faults c e options (submitter e options) ++ join_faults c e options ++ size_faults c (submitted_tasks options) words script) _ _ later
    (λ none. let two = both_empty (option_faults c e options (submitter e options) ++ join_faults c e options) (size_faults c (submitted_tasks options) words script) none in
    let fits = fits_in c (submitted_tasks options) words script two.1 in
    job_is_new c e options words script (submitted_tasks options) (patch_of c options (submitter e options)) (tasks_are_range options) fits.0 fits.1
    (joins_one c e options (both_empty (option_faults c e options (submitter e options)) (join_faults c e options) two.0).1))
