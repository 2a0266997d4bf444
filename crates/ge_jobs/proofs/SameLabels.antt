-- A start and an end leave a job's labels as they are.
use Rattle.std.proofs.Common.{◌≡◌, ℕ, ◌==◌, Bool, true, false, if◌then◌else◌, refl}
use Rattle.ge_collections.specs.Keyed.{put_number}
use Rattle.ge_model_rows.specs.JobRows.{Job}
use Rattle.ge_model_rows.specs.ScheduleRows.{Start}
use Rattle.ge_rows.specs.JobShort.{job_labels}
use Rattle.ge_model_rows.specs.Sets.{has_number, without_number}
use Rattle.ge_model_jobs.specs.declared.After.{After}
use Rattle.ge_model_jobs.specs.declared.After.TheVariants as fate
use Rattle.ge_model_jobs.specs.Starting.{running_from, with_start}
use Rattle.ge_model_jobs.specs.Ending.{gone, moved, without_ended}

-- either of two jobs, where both have the labels of a third
either : (b : Bool) (first second job : Job) → job_labels first ≡ job_labels job → job_labels second ≡ job_labels job
    → job_labels (if b then first else second) ≡ job_labels job
either true first second job one other = one
either false first second job one other = other

pub start_keeps : (moment : ℕ) (start : Start) (job : Job) → job_labels (with_start moment start job) ≡ job_labels job
start_keeps moment start job = either (has_number start.task.task job.queued) begun job job refl refl
  where
    begun : Job
    begun = record job { queued = without_number start.task.task job.queued; running = put_number job.running start.task.task (running_from moment start) }

moved_keeps : (after : After) (task : ℕ) (job : Job) → job_labels (moved after task job) ≡ job_labels job
moved_keeps fate.Gone task job = refl
moved_keeps fate.Again task job = refl
moved_keeps fate.Broken task job = refl

pub end_keeps : (after : After) (task : ℕ) (job : Job) → job_labels (without_ended after task job) ≡ job_labels job
end_keeps after task job = either (task == 0) (gone task job) (moved after task job) job refl (moved_keeps after task job)
