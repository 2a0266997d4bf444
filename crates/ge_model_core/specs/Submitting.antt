-- The plan of qsub.
use Rattle.std.specs.Prelude.{ℕ, ◌+◌, ◌-◌, ◌^◌, pos, Bool, false, ◌||◌, nat_lt, nat_le, if◌then◌else◌, List, [], ◌∷◌, ◌++◌, length, sum_by, Option, Some, None, option_and_then, unwrap_or, codes, decimal}
use Rattle.ge_base.specs.declared.refusal.Refusal.{Refusal}
use Rattle.ge_base.specs.declared.refusal.Refusal.TheVariants.{Limit}
use Rattle.ge_limits.specs.Limits as limit
use Rattle.ge_model_rows.specs.ClusterRows.{Cluster}
use Rattle.ge_model_rows.specs.EntryRows.{Submit, Patch}
use Rattle.ge_model_rows.specs.EventRows.{Event, Planned}
use Rattle.ge_model_rows.specs.JobRows.{Job}
use Rattle.ge_model_rows.specs.TaskRows.{TaskSpan}
use Rattle.ge_model_rows.specs.Faults.{when}
use Rattle.ge_model_rows.specs.Sets.{count_of}
use Rattle.ge_model_rows.specs.Ranges.{range_of, reached, range_count, range_set}
use Rattle.ge_model_grammar.specs.Options.{Given, has_option, command_name}
use Rattle.ge_model_core.specs.Answers.{changed, unless_faulty}
use Rattle.ge_model_core.specs.OptionValues.{option_word}
use Rattle.ge_model_core.specs.JobOptions.{Owned, patch_of, option_faults}
use Rattle.ge_model_core.specs.JobAdvances.{no_request, advance_named, join_faults}

-- task 1, which a job that is no array has alone
abbrev pub one_task : TaskSpan
one_task = record { first = 1; last = 1; step = 1 }

abbrev pub range_reached : Option TaskSpan → TaskSpan
range_reached None = one_task
range_reached (Some range) = reached range

-- the tasks of a submission: its range up to the last number that its steps reach (qsub, -t)
abbrev pub submitted_tasks : Given → TaskSpan
submitted_tasks options = range_reached (option_and_then range_of (option_word options (codes "-t")))

-- the user who submits
abbrev pub submitter : Event → Given → Owned
submitter e options = record { owner = e.user; group = e.group; span = submitted_tasks options; request = no_request }

-- the name of a job that -N doesn't name: made of its command, STDIN without one
abbrev pub name_of_words : List (List ℕ) → List ℕ
name_of_words [] = codes "STDIN"
name_of_words (command ∷ arguments) = command_name command

abbrev pub name_given : Option (List ℕ) → List (List ℕ) → List ℕ
name_given None words = name_of_words words
name_given (Some name) words = name

-- the job that a user submits; what the options don't say has its default
abbrev pub job_from : Cluster → Event → Given → List (List ℕ) → List ℕ → TaskSpan → Patch → Job
job_from c e options words script span given = record {
  number = c.next_job;
  name = name_given given.name words;
  owner = e.user;
  group = e.group;
  account = unwrap_or given.account (codes "sge");
  submitted = e.moment;
  priority = unwrap_or given.priority (pos 0);
  share = unwrap_or given.share 0;
  project = unwrap_or given.project [];
  reserve = unwrap_or given.reserve false;
  not_before = unwrap_or given.not_before 0;
  deadline = unwrap_or given.deadline 0;
  request = unwrap_or given.request no_request;
  array = has_option options (codes "-t");
  span = span;
  queued = range_set span;
  broken = [];
  running = [];
  hold = if has_option options (codes "-h") then 1 else 0;
  after = unwrap_or given.after [];
  after_each = unwrap_or given.after_each [];
  oticket = 0;
  words = words;
  script = script;
  advance = advance_named options;
}

unfoldable pub submitted_job : Cluster → Event → Given → List (List ℕ) → List ℕ → Job
submitted_job c e options words script = job_from c e options words script (submitted_tasks options) (patch_of c options (submitter e options))

-- so many tasks has a job, and so far go their numbers and their step
abbrev pub is_wide : TaskSpan → Bool
is_wide span = nat_lt limit.tasks (range_count span) || nat_lt limit.last_task span.last || nat_lt limit.last_task span.step

-- how many tasks of a job live, and how long its script is
abbrev pub live_count : ℕ × Job → ℕ
live_count job = count_of job.1.queued + count_of job.1.broken + length job.1.running

abbrev pub script_length : ℕ × Job → ℕ
script_length job = length job.1.script

-- so many jobs may live, so far go their numbers, and so many words a command may have
abbrev pub is_full : Cluster → List (List ℕ) → Bool
is_full c words = nat_le limit.live_jobs (length c.jobs) || nat_lt limit.last_number c.next_job || nat_lt limit.command_words (length words)

-- so many bytes a script may have, and the scripts of all live jobs
abbrev pub is_script_over : Cluster → List ℕ → Bool
is_script_over c script = nat_lt limit.job_script_bytes (length script) || nat_lt limit.scripts_bytes (sum_by script_length c.jobs + length script)

-- so many live tasks, accounting lines and new tasks there may be together
abbrev pub are_tasks_over : Cluster → TaskSpan → Bool
are_tasks_over c span = nat_lt limit.tasks_and_lines (sum_by live_count c.jobs + length c.lines + range_count span)

abbrev pub size_faults : Cluster → TaskSpan → List (List ℕ) → List ℕ → List Refusal
size_faults c span words script = when (is_wide span || is_full c words || is_script_over c script || are_tasks_over c span) Limit

-- Your job N ("NAME") has been submitted
abbrev pub quoted : List ℕ → List ℕ
quoted name = codes " (\"" ++ name ++ codes "\") has been submitted"

abbrev pub array_range_text : TaskSpan → List ℕ
array_range_text span = decimal span.first ++ 45 ∷ decimal span.last ++ 58 ∷ decimal span.step

abbrev pub submitted_line : Job → List ℕ
submitted_line job =
    if job.array then codes "Your job-array " ++ decimal job.number ++ 46 ∷ array_range_text job.span ++ quoted job.name
    else codes "Your job " ++ decimal job.number ++ quoted job.name

abbrev pub submission_answer : Event → Job → Planned
submission_answer e job = changed e (Submit job) (submitted_line job ∷ [])

unfoldable pub submit_plan : Cluster → Event → Given → List (List ℕ) → List ℕ → Planned
submit_plan c e options words script =
    unless_faulty (option_faults c e options (submitter e options) ++ join_faults c e options ++ size_faults c (submitted_tasks options) words script)
    (submission_answer e (submitted_job c e options words script))
