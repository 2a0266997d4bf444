-- Durations, windows, and what running tasks and advance reservations book.
use Rattle.std.specs.Prelude.{ℕ, ◌+◌, ◌-◌, ◌^◌, ◌==◌, Bool, false, not, ◌&&◌, ◌||◌, if◌then◌else◌, nat_lt, nat_le, min, max, List, ◌++◌, map, flat_map, Option, Some, None, codes}
use Rattle.std.specs.List.{list_any}
use Rattle.ge_collections.specs.Keyed.{at_text, at_number}
use Rattle.ge_model_place.specs.Bookings.{window_end}
use Rattle.ge_model_rows.specs.Pieces.{is_empty}
use Rattle.ge_model_rows.specs.Values.{amount_in}
use Rattle.ge_model_rows.specs.ClusterRows.{Cluster}
use Rattle.ge_model_rows.specs.HostRows.{Groups}
use Rattle.ge_model_rows.specs.JobRows.{Job, Running, Grant, Advance}
use Rattle.ge_model_rows.specs.ScheduleRows.{Booking}
use Rattle.ge_model_rows.specs.TaskRows.{TaskId}
use Rattle.ge_model_rows.specs.ValueRows.{Value}
use Rattle.ge_model_place.specs.Limits.{demands_of}
use Rattle.ge_model_place.specs.StandIns.{stand_in}

-- the smaller of two amounts that are asked for, the one that is, or else this many seconds
abbrev pub least_asked : Option Value → Option Value → ℕ → ℕ
least_asked None None default = default
least_asked (Some hard) None default = amount_in hard
least_asked None (Some soft) default = amount_in soft
least_asked (Some hard) (Some soft) default = min (amount_in hard) (amount_in soft)

-- how many seconds a task of a job is booked for, at least 1: queue_conf, h_rt and s_rt; sched_conf, default_duration
abbrev pub duration_of : Cluster → Job → ℕ
duration_of c job = max 1 (least_asked (at_text job.request.asked (codes "h_rt")) (at_text job.request.asked (codes "s_rt")) c.sched.default_duration)

-- the reservation that a job is sent into, where it is there: qsub, -ar
abbrev pub advance_of : Cluster → Job → Option Advance
advance_of c job = at_number c.advances job.advance

abbrev pub no_later_than : Option Advance → ℕ → ℕ
no_later_than None end = end
no_later_than (Some a) end = min end a.until

-- where the window of a job's task from a moment on ends: after its duration, and no later than the reservation that the job is sent into
abbrev pub window_end_from : Cluster → Job → ℕ → ℕ
window_end_from c job from = no_later_than (advance_of c job) (window_end from (duration_of c job))

abbrev pub lasts_at : ℕ → Option Advance → Bool
lasts_at moment None = false
lasts_at moment (Some a) = nat_le a.from moment && nat_lt moment a.until

-- whether a job's task may start at a moment: one that is sent into a reservation only while that lasts
abbrev pub is_in_time : Cluster → Job → ℕ → Bool
is_in_time c job moment = job.advance == 0 || lasts_at moment (advance_of c job)

-- what a task books with these grants from a moment on
abbrev pub booking_of : Cluster → Groups → Job → TaskId → List Grant → ℕ → Booking
booking_of c groups job task grants from = record { task = task; demands = demands_of c groups job grants; from = from; until = window_end_from c job from }

-- the moment after a moment, cut at the end of its type
abbrev pub next_moment : ℕ → ℕ
next_moment now = min (now + 1) (2 ^ 64 - 1)

-- what a running task books: one that overran is booked up to the next moment
abbrev pub running_booking : Cluster → Groups → ℕ → ℕ × Job → ℕ × Running → Booking
running_booking c groups now job running =
    let b = booking_of c groups job.1 (record { job = job.0; task = running.0 }) running.1.grants running.1.start in record b { until = max b.until (next_moment now) }

abbrev pub job_bookings : Cluster → Groups → ℕ → ℕ × Job → List Booking
job_bookings c groups now job = map (running_booking c groups now job) job.1.running

-- whether a task of a job that was sent into a reservation runs
abbrev pub runs_in_advance : ℕ → ℕ × Job → Bool
runs_in_advance number job = job.1.advance == number && not (is_empty job.1.running)

-- until when a reservation books: up to the next moment where a task in it overran
abbrev pub booked_until : Cluster → ℕ → ℕ → ℕ → ℕ
booked_until c now number until = if list_any (runs_in_advance number) c.jobs then max until (next_moment now) else until

-- what a reservation books: the demands of its grants, as those of the job that stands for it; its task has the job 0
abbrev pub advance_booking : Cluster → Groups → ℕ → ℕ × Advance → Booking
advance_booking c groups now advance = record {
  task = record { job = 0; task = advance.0 };
  demands = demands_of c groups (stand_in advance.1) advance.1.grants;
  from = advance.1.from;
  until = booked_until c now advance.0 advance.1.until;
}

-- one booking for each running task, and one for each reservation
unfoldable pub base_bookings : Cluster → Groups → ℕ → List Booking
base_bookings c groups now = flat_map (job_bookings c groups now) c.jobs ++ map (advance_booking c groups now) c.advances
