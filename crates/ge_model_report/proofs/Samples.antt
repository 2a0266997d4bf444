-- Jobs for the worked rows.
use Rattle.std.specs.Prelude.{ℕ, List, [], ◌∷◌, codes}
use Rattle.ge_model_rows.specs.JobRows.{Job, Running}
use Rattle.ge_model_rows.specs.TaskRows.{TaskSpan}
use Rattle.ge_model_jobs.proofs.Samples.{span, some_job}

abbrev pub one_task : ℕ → List TaskSpan
one_task number = span number number 1 ∷ []

-- a job of ann's with a name
abbrev pub named : List ℕ → Job
named name = some_job 1 name (codes "ann") []

-- the same, whose one task runs
abbrev pub running_job : List ℕ → Running → Job
running_job name task = record (named name) { queued = []; running = (1, task) ∷ [] }
