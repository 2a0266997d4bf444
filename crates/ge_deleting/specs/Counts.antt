-- What is counted of the tasks of jobs that are named.
use Rattle.std.specs.Prelude.{ℕ, List, map}
use Rattle.ge_model_rows.specs.JobRows.{Job}
use Rattle.ge_model_rows.specs.TaskRows.{TaskSpan}
use Rattle.ge_model_core.specs.Deleting.{all_named, pending_named, running_named, broken_named}
use Rattle.ge_deleting.specs.declared.counting.Part.{Part}
use Rattle.ge_deleting.specs.declared.counting.Part.TheVariants.{All, Pending, Running, Broken}
use Rattle.ge_deleting.specs.declared.targets.NamedJob.{NamedJob}

-- all of them, those that wait or are in error, those that run, those in error
abbrev pub count_of_part : Part → Job × List TaskSpan → ℕ
count_of_part All named = all_named named
count_of_part Pending named = pending_named named
count_of_part Running named = running_named named
count_of_part Broken named = broken_named named

-- jobs that are lent, each with its tasks that are named
abbrev pub shown : List NamedJob → List (Job × List TaskSpan)
shown named = map (λ n. (n.job.now, n.tasks)) named
