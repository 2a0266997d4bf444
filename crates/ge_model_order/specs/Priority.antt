-- Priority, and the order of a run: sge_priority, sched_conf.
use Rattle.std.specs.Prelude.{ℕ, suc, ◌+◌, ◌-◌, ◌/◌, ◌==◌, if◌then◌else◌, ℤ, pos, negsuc, List, [], map, flat_map, fold, zip, Some, None}
use Rattle.std.specs.Map.{values_of}
use Rattle.std.specs.BTreeMap.{insert_entry}
use Rattle.std.specs.Ordering.{nat_cmp, ordering_then}
use Rattle.std.specs.declared.cmp.Ordering.{Ordering}
use Rattle.std.specs.declared.cmp.Reverse.{Reverse}
use Rattle.ge_base.specs.Fixed.{cut_sum, cut_product}
use Rattle.ge_collections.specs.Keyed.{at_number}
use Rattle.ge_model_rows.specs.ClusterRows.{Cluster}
use Rattle.ge_model_rows.specs.JobRows.{Job}
use Rattle.ge_model_rows.specs.ScheduleRows.{Prio}
use Rattle.ge_model_rows.specs.SettingRows.{Sched}
use Rattle.ge_model_rows.specs.TaskRows.{TaskId}
use Rattle.ge_model_rows.specs.ValueRows.{million}
use Rattle.ge_model_jobs.specs.Holds.{eligible_tasks}
use Rattle.ge_model_order.specs.Amounts.{cut_at_64, portion, greatest, least}
use Rattle.ge_model_order.specs.Candidates.{is_candidate, candidates}
use Rattle.ge_model_order.specs.Share.{share_tickets_of}
use Rattle.ge_model_order.specs.ShareTree.{tree_of}
use Rattle.ge_model_order.specs.Tickets.{jobs_of, tickets_of}
use Rattle.ge_model_order.specs.Urgency.{urgency_of}

-- how far a job's priority lies above the least one, -1023 (qsub, -p)
abbrev pub above_lowest : ℤ → ℕ
above_lowest (pos n) = n + 1023
above_lowest (negsuc n) = 1023 - suc n

-- the priority as a part of all 2047 steps, in millionths
abbrev pub priority_part : ℤ → ℕ
priority_part priority = cut_at_64 (cut_product (above_lowest priority) million / 2047)

-- an urgency as a part of what lies between the least and the greatest, one half where all are equal
abbrev pub urgency_part : ℕ → ℕ → ℕ → ℕ
urgency_part low high urgency = if low == high then 500000 else cut_at_64 (portion (urgency - low) million (high - low))

-- tickets as a part of the greatest, 0 where that is 0
abbrev pub tickets_part : ℕ → ℕ → ℕ
tickets_part most tickets = cut_at_64 (portion tickets million most)

-- the three parts, weighted (weight_priority, weight_urgency, weight_ticket)
abbrev pub weighted_sum : Sched → ℕ → ℕ → ℕ → ℕ
weighted_sum sched np nu nt = cut_sum (cut_sum (cut_product sched.w_priority np) (cut_product sched.w_urgency nu)) (cut_product sched.w_ticket nt)

abbrev pub prio_with : Sched → ℕ → ℕ → ℕ → ℕ → Prio
prio_with sched number np nu nt = record { job = number; np = np; nu = nu; nt = nt; total = weighted_sum sched np nu nt }

-- the greatest tickets, and the least and the greatest urgency
pub record Bounds : Type 0 where
  pub low : ℕ
  pub high : ℕ
  pub most : ℕ

abbrev pub bounds_of : List ℕ → List ℕ → Bounds
bounds_of urgencies tickets = record { low = least urgencies; high = greatest urgencies; most = greatest tickets }

abbrev pub job_prio : Cluster → ℕ → Bounds → ℕ → Job → ℕ → Prio
job_prio c now bounds number job tickets =
    prio_with c.sched number (priority_part job.priority) (urgency_part bounds.low bounds.high (urgency_of c job now)) (tickets_part bounds.most tickets)

-- a job that isn't there has the priority 0
abbrev pub prio_at : Cluster → ℕ → Bounds → ℕ × ℕ → Prio
prio_at c now bounds entry = elim (at_number c.jobs entry.0) [
  | None ↦ record { job = entry.0; np = 0; nu = 0; nt = 0; total = 0 }
  | Some job ↦ job_prio c now bounds entry.0 job entry.1
]

-- the priorities of these jobs with these tickets at a moment, in their order
unfoldable pub prios_of : Cluster → List ℕ → List ℕ → ℕ → List Prio
prios_of c jobs tickets now =
    let bounds = bounds_of (map (λ job. urgency_of c job now) (jobs_of c jobs)) tickets in
    map (prio_at c now bounds) (zip jobs tickets)

-- two lists of tickets, added job by job
abbrev pub added_tickets : List ℕ → List ℕ → List ℕ
added_tickets tickets others = map (λ both. cut_at_64 (both.0 + both.1)) (zip tickets others)

-- all tickets of these jobs at a moment
abbrev pub all_tickets_of : Cluster → List ℕ → ℕ → List ℕ
all_tickets_of c jobs now = added_tickets (tickets_of c jobs) (share_tickets_of c jobs now)

-- those of all candidates, with all their tickets
unfoldable pub prios_at : Cluster → ℕ → List Prio
prios_at c now = let jobs = candidates c now in prios_of c jobs (all_tickets_of c jobs now) now

-- the order of a run: the greater total first, then the lesser job
abbrev pub rank_cmp : Reverse ℕ × ℕ → Reverse ℕ × ℕ → Ordering
rank_cmp x y = ordering_then (nat_cmp (y.0).0 (x.0).0) (nat_cmp x.1 y.1)

abbrev pub rank_of : Prio → Reverse ℕ × ℕ
rank_of prio = (record { 0 = prio.total }, prio.job)

abbrev pub with_rank : List ((Reverse ℕ × ℕ) × Prio) → Prio → List ((Reverse ℕ × ℕ) × Prio)
with_rank rows prio = insert_entry rank_cmp rows (rank_of prio) prio

-- priorities by total falling, then job
abbrev pub sorted_prios : List Prio → List Prio
sorted_prios prios = values_of (fold with_rank [] prios)

-- the eligible tasks of a job, at most as many as a run considers (max_pending_tasks_per_job)
abbrev pub tasks_of : Cluster → ℕ → Prio → List TaskId
tasks_of c now prio = map (λ task. record { job = prio.job; task = task }) (eligible_tasks c.jobs prio.job now c.sched.max_pending)

-- the eligible tasks of the jobs of these priorities, by total falling, then job, then task
unfoldable pub order_of : Cluster → List Prio → ℕ → List TaskId
order_of c prios now = flat_map (tasks_of c now) (sorted_prios prios)

-- all that a row of priorities or of an order computes through
unfoldable pub order_of_runs : Unit {0}
unfolding eligible_tasks is_candidate tickets_of tree_of share_tickets_of urgency_of prios_of prios_at order_of
order_of_runs = tt
