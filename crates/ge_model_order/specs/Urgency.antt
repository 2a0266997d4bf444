-- Urgency: what a job asks for, how long it waits and how near its deadline is (complex, sched_conf, sge_pe).
use Rattle.std.specs.Prelude.{ℕ, ◌+◌, ◌-◌, ◌/◌, ◌^◌, ◌==◌, if◌then◌else◌, min, max, List, Option, Some, None, codes}
use Rattle.ge_base.specs.Fixed.{cut_sum, cut_product}
use Rattle.ge_collections.specs.Keyed.{at_text, put_text}
use Rattle.ge_model_rows.specs.ClusterRows.{Cluster}
use Rattle.ge_model_rows.specs.JobRows.{Job, Request, PeRequest}
use Rattle.ge_model_rows.specs.PeRows.{PeRow, UrgencySlots}
use Rattle.ge_model_rows.specs.ValueRows.{Value, Amount, Flag, Word, Kind, ComplexDef, million}
use Rattle.ge_model_rows.specs.Complexes.{complex_at}
use Rattle.ge_model_order.specs.Amounts.{cut_total}

-- how many slots are assumed of a range (sge_pe, urgency_slots)
abbrev pub slots_by : UrgencySlots → ℕ → ℕ → ℕ
slots_by (UrgencySlots.Fixed count) low high = count
slots_by UrgencySlots.Min low high = low
slots_by UrgencySlots.Max low high = high
slots_by UrgencySlots.Avg low high = (low + high) / 2

abbrev pub slots_under : Option PeRow → PeRequest → ℕ
slots_under None asked = 1
slots_under (Some pe) asked = slots_by pe.urgency_slots asked.low asked.high

-- one slot without a parallel environment, and under one that isn't there
abbrev pub slots_assumed : Cluster → Option PeRequest → ℕ
slots_assumed c None = 1
slots_assumed c (Some asked) = slots_under (at_text c.pes asked.name) asked

-- a DOUBLE counts in ones
abbrev pub in_ones : Kind → ℕ → ℕ
in_ones Kind.Double amount = amount / million
in_ones _ amount = amount

-- what a requested value adds: a number its complex's urgency for each unit and slot, any other value that urgency once
abbrev pub value_urgency : ComplexDef → ℕ → Value → ℕ
value_urgency complex slots (Amount amount) = in_ones complex.kind (cut_product (cut_product complex.urgency slots) amount)
value_urgency complex slots (Flag flag) = complex.urgency
value_urgency complex slots (Word word) = complex.urgency

-- a name that is no complex adds nothing
abbrev pub resource_urgency : Cluster → ℕ → List ℕ × Value → ℕ
resource_urgency c slots asked = elim (complex_at c asked.0) [ None ↦ 0 | Some complex ↦ value_urgency complex slots asked.1 ]

-- each job asks for one of slots
abbrev pub with_slots : List (List ℕ × Value) → List (List ℕ × Value)
with_slots asked = put_text asked (codes "slots") (Amount 1)

abbrev pub resources_urgency : Cluster → Request → ℕ
resources_urgency c request = cut_total (resource_urgency c (slots_assumed c request.pe)) (with_slots request.asked)

-- each second of waiting adds (weight_waiting_time)
abbrev pub waiting_urgency : Cluster → Job → ℕ → ℕ
waiting_urgency c job now = cut_product c.sched.w_waiting (now - job.submitted)

-- the nearer the deadline the more it adds, all of its weight from a second before it on (weight_deadline); 0 is no deadline
abbrev pub deadline_urgency : Cluster → Job → ℕ → ℕ
deadline_urgency c job now = if job.deadline == 0 then 0 else c.sched.w_deadline / max 1 (job.deadline - now)

-- the urgency of a job at a moment, in millionths
unfoldable pub urgency_of : Cluster → Job → ℕ → ℕ
urgency_of c job now =
    min (cut_sum (cut_sum (resources_urgency c job.request) (waiting_urgency c job now)) (deadline_urgency c job now)) (2 ^ 100 - 1)
