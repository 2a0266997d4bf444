-- What a job is found by no more, and from then on, where an edit changes it.
use Rattle.std.specs.Prelude.{ℕ, ◌==◌, Bool, true, cond, List, [], ◌∷◌, ◌++◌, map, Option}
use Rattle.std.specs.Map.{keys_of}
use Rattle.ge_model_rows.specs.JobRows.{Job, PeRequest}
use Rattle.ge_model_rows.specs.ScheduleRows.{Start}
use Rattle.ge_model_rows.specs.ValueRows.{Value}
use Rattle.ge_rows.specs.declared.marks.JobMark.{JobMark}
use Rattle.ge_rows.specs.declared.marks.MarkSort.TheVariants as sort
use Rattle.ge_rows.specs.Marks.{mark_of, project_marks, advance_marks, pe_marks, attribute_mark, task_marks, task_marks_at}
use Rattle.ge_model_rows.specs.Sets.{has_number}
use Rattle.ge_model_jobs.specs.declared.After.{After}
use Rattle.ge_model_jobs.specs.declared.After.TheVariants as after
use Rattle.ge_model_jobs.specs.Starting.{running_from}

-- what a job is found by that has this owner, name, project, advance reservation, parallel environment and requested values
abbrev pub marks_of_names : List ℕ → List ℕ → List ℕ → ℕ → Option PeRequest → List (List ℕ × Value) → List JobMark
marks_of_names owner name project advance pe asked =
    mark_of sort.Owner owner name 0 ∷ []
    ++ project_marks project ++ advance_marks advance ++ pe_marks pe ++ map attribute_mark (keys_of asked)

-- the marks of a task that ran under the number of the one that starts
abbrev pub lost_by_start : Start → Job → List JobMark
lost_by_start start job = cond (has_number start.task.task job.queued) (task_marks_at start.task.task job.running) []

-- the marks of the task that starts
abbrev pub gained_by_start : ℕ → Start → Job → List JobMark
gained_by_start moment start job = cond (has_number start.task.task job.queued) (task_marks (running_from moment start)) []

-- whether a task is gone with its end: so is one of number 0, which no set holds
abbrev pub is_gone_when : Bool → After → Bool
is_gone_when none after.Gone = true
is_gone_when none after.Again = none
is_gone_when none after.Broken = none

abbrev pub is_gone_with : After → ℕ → Bool
is_gone_with after task = is_gone_when (task == 0) after
