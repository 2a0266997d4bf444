-- The accounting line of a task that ends: accounting.
use Rattle.std.specs.Prelude.{ℕ, ◌+◌, ◌-◌, ◌^◌, min, if◌then◌else◌, List, [], ◌∷◌, fold, Option, Some, None}
use Rattle.ge_model_rows.specs.AccountRows.{Line}
use Rattle.ge_model_rows.specs.HostRows.{InstanceId}
use Rattle.ge_model_rows.specs.JobRows.{Job, PeRequest, Running, Grant}

-- the instance of the first grant, whose host runs the task; empty names without a grant
abbrev pub first_instance : List Grant → InstanceId
first_instance [] = record { queue = []; host = [] }
first_instance (grant ∷ grants) = grant.at

-- the parallel environment of a request, or the empty text
abbrev pub pe_name : Option PeRequest → List ℕ
pe_name None = []
pe_name (Some pe) = pe.name

-- the slots of all grants, cut at the end of a line's type
abbrev pub line_slots : List Grant → ℕ
line_slots grants = min (fold (λ sum grant. sum + grant.slots) 0 grants) (2 ^ 32 - 1)

-- what is told of an end: 1 where it was forced, the exit status, processor time, memory, input and output
pub record Report : Type 0 where
  pub failed : ℕ
  pub exit : ℕ
  pub cpu : ℕ
  pub mem : ℕ
  pub io : ℕ

-- the line of a task that ran under a job's number and ends at a moment
abbrev pub line_of : ℕ → ℕ → Job → ℕ → Running → Report → Line
line_of moment number job task running report = record {
  queue = (first_instance running.grants).queue;
  host = (first_instance running.grants).host;
  group = job.group;
  owner = job.owner;
  name = job.name;
  job = number;
  account = job.account;
  priority = job.priority;
  submitted = job.submitted;
  start = running.start;
  end = moment;
  failed = report.failed;
  exit = report.exit;
  project = job.project;
  pe = pe_name job.request.pe;
  slots = line_slots running.grants;
  task = if job.array then task else 0;
  cpu = report.cpu;
  mem = report.mem;
  io = report.io;
}
