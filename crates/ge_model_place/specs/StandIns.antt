-- The job that stands for an advance reservation.
use Rattle.std.specs.Prelude.{ℕ, ◌-◌, pos, false, List, [], ◌∷◌, codes}
use Rattle.ge_collections.specs.Keyed.{put_text, drop_text}
use Rattle.ge_model_rows.specs.JobRows.{Job, Request, Advance}
use Rattle.ge_model_rows.specs.TaskRows.{TaskSpan}
use Rattle.ge_model_rows.specs.ValueRows.{Value, Amount}

-- the attributes that a reservation asks for, with the time that it lasts as the hard limit and without a soft one: qsub, -l h_rt
abbrev pub asked_for : Advance → List (List ℕ × Value)
asked_for a = put_text (drop_text a.request.asked (codes "s_rt")) (codes "h_rt") (Amount (a.until - a.from))

abbrev pub stand_in_request : Advance → Request
stand_in_request a = record { asked = asked_for a; queues = a.request.queues; pe = a.request.pe }

-- task 1, alone
abbrev pub first_task : TaskSpan
first_task = record { first = 1; last = 1; step = 1 }

-- a job of one waiting task that asks for what the reservation asks for, as long as that lasts; it has no number: qrsub
abbrev pub stand_in : Advance → Job
stand_in a = record {
  number = 0;
  name = a.name;
  owner = a.owner;
  group = a.group;
  account = [];
  submitted = 0;
  priority = pos 0;
  share = 0;
  project = [];
  reserve = false;
  not_before = 0;
  deadline = 0;
  request = stand_in_request a;
  array = false;
  span = first_task;
  queued = first_task ∷ [];
  broken = [];
  running = [];
  hold = 0;
  after = [];
  after_each = [];
  oticket = 0;
  words = [];
  script = [];
  advance = 0;
}
