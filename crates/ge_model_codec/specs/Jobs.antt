-- The codes of jobs, their tasks, accounting lines and starts.
use Rattle.std.specs.Prelude.{ℕ, ℤ, Bool, List, ◌==◌}
use Rattle.std.specs.Ordering.{nat_cmp}
use Rattle.ge_model_rows.specs.AccountRows.{Line}
use Rattle.ge_model_rows.specs.HostRows.{InstanceId}
use Rattle.ge_model_rows.specs.JobRows.{Job, Request, PeRequest, Running, Grant, Advance}
use Rattle.ge_model_rows.specs.ScheduleRows.{Start}
use Rattle.ge_model_rows.specs.TaskRows.{TaskId, TaskSpan, is_form}
use Rattle.ge_model_codec.specs.Code.{Code, u8_code, u32_code, u64_code, signed_code, bool_code, text_code, list_code, option_code, table_code, pair_code, ◌⊗◌, triple_code, quadruple_code, quintuple_code, row_code, formed_code, absent_code}
use Rattle.ge_model_codec.specs.Configured.{values_code, texts_code}

-- a queue instance
abbrev pub instance_id_code : Code InstanceId
instance_id_code = row_code
    (text_code ⊗ text_code)
    (λ r. (r.queue, r.host))
    (λ p. record { queue = p.0; host = p.1 })

-- a grant
abbrev pub grant_code : Code Grant
grant_code = row_code
    (instance_id_code ⊗ u32_code)
    (λ r. (r.at, r.slots))
    (λ p. record { at = p.0; slots = p.1 })

-- a task
abbrev pub task_id_code : Code TaskId
task_id_code = row_code
    (u32_code ⊗ u32_code)
    (λ r. (r.job, r.task))
    (λ p. record { job = p.0; task = p.1 })

-- a span of tasks
abbrev pub task_span_code : Code TaskSpan
task_span_code = row_code
    (triple_code u32_code u32_code u32_code)
    (λ r. (r.first, r.last, r.step))
    (λ p. record { first = p.0; last = p.1; step = p.2 })

-- a set of tasks: its spans in their form
abbrev pub task_set_code : Code (List TaskSpan)
task_set_code = formed_code (list_code task_span_code) is_form

-- a running task
abbrev pub running_code : Code Running
running_code = row_code
    (quadruple_code u64_code u64_code (list_code grant_code) bool_code)
    (λ r. (r.serial, r.start, r.grants, r.deleting))
    (λ p. record { serial = p.0; start = p.1; grants = p.2; deleting = p.3 })

-- a request of a parallel environment
abbrev pub pe_request_code : Code PeRequest
pe_request_code = row_code
    (triple_code text_code u32_code u32_code)
    (λ r. (r.name, r.low, r.high))
    (λ p. record { name = p.0; low = p.1; high = p.2 })

-- a request
abbrev pub request_code : Code Request
request_code = row_code
    (triple_code values_code texts_code (option_code pe_request_code))
    (λ r. (r.asked, r.queues, r.pe))
    (λ p. record { asked = p.0; queues = p.1; pe = p.2 })

-- the fields of a job before `advance`
abbrev pub JobFront : Type 0
JobFront =
    (ℕ × List ℕ × List ℕ × List ℕ × List ℕ) ×
    (ℕ × ℤ × ℕ × List ℕ × Bool) ×
    (ℕ × ℕ × Request × Bool × TaskSpan) ×
    (List TaskSpan × List TaskSpan × List (ℕ × Running) × ℕ × List ℕ) ×
    (List ℕ × ℕ × List (List ℕ) × List ℕ)

abbrev pub job_front_code : Code JobFront
job_front_code = quintuple_code
    (quintuple_code u32_code text_code text_code text_code text_code)
    (quintuple_code u64_code signed_code u64_code text_code bool_code)
    (quintuple_code u64_code u64_code request_code bool_code task_span_code)
    (quintuple_code task_set_code task_set_code (table_code nat_cmp u32_code running_code) u8_code (list_code u32_code))
    (quadruple_code (list_code u32_code) u64_code texts_code text_code)

abbrev pub job_parts : Job → JobFront × ℕ
job_parts r = (
  (
    (r.number, r.name, r.owner, r.group, r.account),
    (r.submitted, r.priority, r.share, r.project, r.reserve),
    (r.not_before, r.deadline, r.request, r.array, r.span),
    (r.queued, r.broken, r.running, r.hold, r.after),
    (r.after_each, r.oticket, r.words, r.script),
  ),
  r.advance,
)

abbrev pub job_from_parts : JobFront × ℕ → Job
job_from_parts p = record {
  number = p.0.0.0;
  name = p.0.0.1;
  owner = p.0.0.2;
  group = p.0.0.3;
  account = p.0.0.4;
  submitted = p.0.1.0;
  priority = p.0.1.1;
  share = p.0.1.2;
  project = p.0.1.3;
  reserve = p.0.1.4;
  not_before = p.0.2.0;
  deadline = p.0.2.1;
  request = p.0.2.2;
  array = p.0.2.3;
  span = p.0.2.4;
  queued = p.0.3.0;
  broken = p.0.3.1;
  running = p.0.3.2;
  hold = p.0.3.3;
  after = p.0.3.4;
  after_each = p.0.4.0;
  oticket = p.0.4.1;
  words = p.0.4.2;
  script = p.0.4.3;
  advance = p.1;
}

-- a job, with this code of its last field
abbrev pub job_code_with : Code ℕ → Code Job
job_code_with advance = row_code (job_front_code ⊗ advance) job_parts job_from_parts

-- a job
abbrev pub job_code : Code Job
job_code = job_code_with u32_code

-- a job before there were advance reservations: it is in none
abbrev pub job_code_1 : Code Job
job_code_1 = job_code_with (absent_code (λ n. n == 0) 0)

-- an advance reservation
abbrev pub advance_code : Code Advance
advance_code = row_code
    (triple_code
    (triple_code text_code text_code text_code)
    (pair_code u64_code u64_code)
    (pair_code request_code (list_code grant_code)))
    (λ r. ((r.name, r.owner, r.group), (r.from, r.until), (r.request, r.grants)))
    (λ p. record {
      name = p.0.0;
      owner = p.0.1;
      group = p.0.2;
      from = p.1.0;
      until = p.1.1;
      request = p.2.0;
      grants = p.2.1;
    })

-- an accounting line
abbrev pub line_code : Code Line
line_code = row_code
    (quadruple_code
    (quintuple_code text_code text_code text_code text_code text_code)
    (quintuple_code u32_code text_code signed_code u64_code u64_code)
    (quintuple_code u64_code u32_code u32_code text_code text_code)
    (quintuple_code u32_code u32_code u64_code u64_code u64_code))
    (λ r. (
      (r.queue, r.host, r.group, r.owner, r.name),
      (r.job, r.account, r.priority, r.submitted, r.start),
      (r.end, r.failed, r.exit, r.project, r.pe),
      (r.slots, r.task, r.cpu, r.mem, r.io),
    ))
    (λ p. record {
      queue = p.0.0;
      host = p.0.1;
      group = p.0.2;
      owner = p.0.3;
      name = p.0.4;
      job = p.1.0;
      account = p.1.1;
      priority = p.1.2;
      submitted = p.1.3;
      start = p.1.4;
      end = p.2.0;
      failed = p.2.1;
      exit = p.2.2;
      project = p.2.3;
      pe = p.2.4;
      slots = p.3.0;
      task = p.3.1;
      cpu = p.3.2;
      mem = p.3.3;
      io = p.3.4;
    })

-- a start
abbrev pub start_code : Code Start
start_code = row_code
    (triple_code task_id_code u64_code (list_code grant_code))
    (λ r. (r.task, r.serial, r.grants))
    (λ p. record { task = p.0; serial = p.1; grants = p.2 })
