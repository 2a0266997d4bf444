-- A task that ends, in two parts: what its end comes to, and that put into the cluster.
use Rattle.std.specs.Prelude.{ℕ, [], ◌∷◌, ◌++◌, Some, None}
use Rattle.ge_model_rows.specs.ClusterRows.{Cluster}
use Rattle.ge_model_rows.specs.JobRows.{Job, Running}
use Rattle.ge_model_rows.specs.SettingRows.{Sched}
use Rattle.ge_model_rows.specs.TaskRows.{TaskId}
use Rattle.ge_model_jobs.specs.Accounts.{Report, line_of}
use Rattle.ge_model_jobs.specs.Ending.{after_exit, ended, end_task}
use Rattle.ge_model_jobs.specs.Serials.{running_with}
use Rattle.ge_model_jobs.specs.Usage.{epoch_of, usage_of, with_usage}
use Rattle.ge_applying.specs.declared.ends.Ending.{Ending}

-- what the end of a running task of a job comes to
abbrev pub ending_of : Sched → ℕ → TaskId → Job → Running → Report → Ending
ending_of sched moment id job running report = record {
  id = id;
  after = after_exit report.exit running;
  key = (job.owner, job.project, epoch_of moment sched.halftime);
  amount = usage_of sched report.cpu report.mem report.io;
  line = line_of moment id.job job id.task running report;
}

-- the cluster with it
abbrev pub with_ending : Cluster → Ending → Cluster
with_ending c ending = record c {
  jobs = ended c.jobs ending.id ending.after;
  usage = with_usage c.usage ending.key ending.amount;
  lines = c.lines ++ ending.line ∷ [];
}

-- the task of a serial ends with a report; a serial of no running task changes nothing
abbrev pub end_with : ℕ → Cluster → ℕ → Report → Cluster
end_with moment c serial report = elim (running_with c.jobs serial) [
  | None ↦ c
  | Some found ↦ end_task moment c found.0 found.1 found.2 found.3 report
]
