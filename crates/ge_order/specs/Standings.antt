-- What is known of the jobs of a list before their priorities can be told.
use Rattle.std.specs.Prelude.{◌≡◌, ℕ, Bool, ◌==◌, ◌&&◌, not, if◌then◌else◌, min, max, List, filter_map, fold, Option, Some, None, codes}
use Rattle.std.specs.BTreeMap.{is_at}
use Rattle.std.specs.List.{list_any}
use Rattle.std.specs.Option.{option_map, option_copied}
use Rattle.ge_base.specs.Fixed.{cut_sum}
use Rattle.ge_collections.specs.Keyed.{at_number, text_cmp}
use Rattle.ge_model_rows.specs.ClusterRows.{Cluster}
use Rattle.ge_model_rows.specs.JobRows.{Job}
use Rattle.ge_model_rows.specs.ScheduleRows.{Prio}
use Rattle.ge_model_rows.specs.SettingRows.{Sched}
use Rattle.ge_model_rows.specs.ValueRows.{Value, Amount, ComplexDef}
use Rattle.ge_model_rows.specs.Complexes.{complex_at}
use Rattle.ge_model_order.specs.Priority.{priority_part, urgency_part, tickets_part, prio_with}
use Rattle.ge_model_order.specs.Urgency.{urgency_of, value_urgency, resource_urgency}
use Rattle.ge_order.specs.declared.asked.Units.{Units}
use Rattle.ge_order.specs.declared.priority.Scale.{Scale}
use Rattle.ge_order.specs.declared.standing.Standing.{Standing}
use Rattle.ge_order.specs.declared.standing.Urgent.{Urgent}

abbrev pub urgent_of : Cluster → ℕ → Job → Urgent
urgent_of c now job = record { priority = job.priority; urgency = urgency_of c job now }

abbrev pub standing_of : Cluster → ℕ → ℕ → Standing
standing_of c now number = record { job = number; urgent = option_map (urgent_of c now) (at_number c.jobs number) }

-- the urgencies of those jobs that are there
abbrev pub urgencies_of : List Standing → List ℕ
urgencies_of standings = filter_map (λ standing. option_map (λ urgent. urgent.urgency) standing.urgent) standings

-- the least of those so far and one more
abbrev pub lesser : Option ℕ → ℕ → ℕ
lesser None urgency = urgency
lesser (Some low) urgency = min low urgency

abbrev pub with_lesser : Option ℕ → Standing → Option ℕ
with_lesser low standing = elim standing.urgent [ None ↦ low | Some urgent ↦ Some (lesser low urgent.urgency) ]

-- the greatest of those so far and one more
abbrev pub with_greater : ℕ → Standing → ℕ
with_greater high standing = elim standing.urgent [ None ↦ high | Some urgent ↦ max high urgent.urgency ]

-- the priority of a job of which this is known
abbrev pub prio_of_urgent : Sched → Scale → ℕ → ℕ → Option Urgent → Prio
prio_of_urgent sched scale number tickets None = record { job = number; np = 0; nu = 0; nt = 0; total = 0 }
prio_of_urgent sched scale number tickets (Some urgent) =
    prio_with sched number (priority_part urgent.priority) (urgency_part scale.low scale.high urgent.urgency) (tickets_part scale.most tickets)

abbrev pub prio_of : Sched → Scale → Standing × ℕ → Prio
prio_of sched scale entry = prio_of_urgent sched scale entry.0.job entry.1 entry.0.urgent

-- what the row that complexes have for slots adds
abbrev pub slot_urgency : ℕ → Option ComplexDef → ℕ
slot_urgency slots unit = elim unit [ None ↦ 0 | Some complex ↦ value_urgency complex slots (Amount 1) ]

-- what a sequential job adds that asks for nothing else which adds
abbrev pub sequential_urgency : Option ComplexDef → ℕ
sequential_urgency unit = cut_sum 0 (slot_urgency 1 unit)

-- one more resource, if it isn't slots
abbrev pub with_other : Cluster → ℕ → ℕ → List ℕ × Value → ℕ
with_other c slots total asked = if is_at (text_cmp (codes "slots")) asked.0 then total else cut_sum total (resource_urgency c slots asked)

-- what is asked for beside slots
abbrev pub others_urgency : Cluster → ℕ → List (List ℕ × Value) → ℕ
others_urgency c slots asked = fold (with_other c slots) 0 asked

-- whether a row of complexes adds to urgency and isn't that of slots
abbrev pub adds_beside : List ℕ × ComplexDef → Bool
adds_beside row = not (row.1.urgency == 0) && not (is_at (text_cmp (codes "slots")) row.0)

-- whether any does so
abbrev pub others_add : Cluster → Bool
others_add c = list_any adds_beside c.complexes

-- what the complexes of a cluster tell of the urgencies of its jobs
pub record AreUnits (c : Cluster) (units : Units) : Type 0 where
  pub slots : option_copied units.slots ≡ complex_at c (codes "slots")
  pub others : units.others ≡ others_add c
