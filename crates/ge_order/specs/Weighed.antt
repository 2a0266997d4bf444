-- Priorities of jobs that are alike: what is worked out from the numbers of one is that of the next with the same.
use Rattle.std.specs.Prelude.{◌≡◌, ℕ, ℤ}
use Rattle.ge_model_rows.specs.SettingRows.{Sched}
use Rattle.ge_model_order.specs.Priority.{priority_part, urgency_part, tickets_part, weighted_sum}
use Rattle.ge_order.specs.declared.priority.Scale.{Scale}
use Rattle.ge_order.specs.declared.weighing.Worked.{Worked}

-- numbers of a job with the parts of its priority, weighted
abbrev pub with_parts : Sched → ℤ → ℕ → ℕ → ℕ → ℕ → ℕ → Worked
with_parts sched priority urgency tickets np nu nt =
    record { priority = priority; urgency = urgency; tickets = tickets; np = np; nu = nu; nt = nt; total = weighted_sum sched np nu nt }

-- what is worked out from the numbers of a job
abbrev pub worked_by : Sched → Scale → ℤ → ℕ → ℕ → Worked
worked_by sched scale priority urgency tickets =
    with_parts sched priority urgency tickets (priority_part priority) (urgency_part scale.low scale.high urgency) (tickets_part scale.most tickets)

-- this was worked out from its numbers
abbrev pub IsWorked : Sched → Scale → Worked → Type 0
IsWorked sched scale worked = worked ≡ worked_by sched scale worked.priority worked.urgency worked.tickets
