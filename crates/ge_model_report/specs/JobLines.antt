-- The lines of qstat: running tasks, waiting ones and those in error, job by job.
use Rattle.std.specs.Prelude.{ℕ, if◌then◌else◌, List, [], ◌∷◌, ◌++◌, map, flat_map, filter, Option, Some, None, codes, decimal}
use Rattle.ge_model_rows.specs.ClusterRows.{Cluster}
use Rattle.ge_model_rows.specs.JobRows.{Job, PeRequest, Running, Grant}
use Rattle.ge_model_rows.specs.TaskRows.{TaskSpan}
use Rattle.ge_model_text.specs.Pattern.{pattern_covers}
use Rattle.ge_model_rows.specs.Pieces.{is_empty}
use Rattle.ge_model_rows.specs.Spans.{one}
use Rattle.ge_model_rows.specs.SetText.{set_text}
use Rattle.ge_model_jobs.specs.Holds.{is_job_held, held_tasks, free_tasks}
use Rattle.ge_model_report.specs.Grants.{instance_text, granted_slots, worded}

-- the tasks of an array; a job that is none doesn't tell its one task
abbrev pub tasks_text : Job → List TaskSpan → List ℕ
tasks_text job tasks = if job.array then set_text tasks else codes "-"

-- number, name, owner, state, moment, queue, slots and tasks
abbrev pub job_line : ℕ → Job → List ℕ → ℕ → List ℕ → ℕ → List TaskSpan → List ℕ
job_line number job state moment queue slots tasks =
    worded (decimal number ∷ job.name ∷ job.owner ∷ state ∷ decimal moment ∷ queue ∷ decimal slots ∷ tasks_text job tasks ∷ [])

-- r, or dr where the task is marked for deletion
abbrev pub running_state : Running → List ℕ
running_state task = if task.deleting then codes "dr" else codes "r"

-- where the first grant is, or a dash
abbrev pub first_instance_text : List Grant → List ℕ
first_instance_text [] = codes "-"
first_instance_text (grant ∷ grants) = instance_text grant.at

-- the line of one running task
abbrev pub running_line : ℕ → Job → ℕ × Running → List ℕ
running_line number job task =
    job_line number job (running_state task.1) task.1.start (first_instance_text task.1.grants) (granted_slots task.1.grants) (one task.0 ∷ [])

-- the least slots that a task needs to start
abbrev pub least_slots : Option PeRequest → ℕ
least_slots None = 1
least_slots (Some pe) = pe.low

-- one line for tasks that don't run, if there are any
abbrev pub pending_lines : ℕ → Job → List ℕ → List TaskSpan → List (List ℕ)
pending_lines number job state tasks =
    if is_empty tasks then [] else job_line number job state job.submitted (codes "-") (least_slots job.request.pe) tasks ∷ []

-- the waiting tasks that are held, and those that aren't: all of them where the job is held, else those that an array predecessor holds
abbrev pub held_waiting : List (ℕ × Job) → Job → List TaskSpan
held_waiting jobs job = if is_job_held jobs job then job.queued else held_tasks jobs job

abbrev pub free_waiting : List (ℕ × Job) → Job → List TaskSpan
free_waiting jobs job = if is_job_held jobs job then [] else free_tasks jobs job

-- running tasks by number, then waiting ones, those that are held, and those in error
abbrev pub job_lines : List (ℕ × Job) → ℕ × Job → List (List ℕ)
job_lines jobs entry =
    map (running_line entry.0 entry.1) entry.1.running
    ++ pending_lines entry.0 entry.1 (codes "qw") (free_waiting jobs entry.1)
    ++ pending_lines entry.0 entry.1 (codes "hqw") (held_waiting jobs entry.1)
    ++ pending_lines entry.0 entry.1 (codes "Eqw") entry.1.broken

-- -u: the jobs of the owners that a pattern covers
abbrev pub jobs_listing : Cluster → List ℕ → List (List ℕ)
jobs_listing c pattern = flat_map (job_lines c.jobs) (filter (λ entry. pattern_covers pattern entry.1.owner) c.jobs)
