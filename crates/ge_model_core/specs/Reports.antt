-- The plans of what daemons send and ask: load, end, orders, job; and of qconf -km.
use Rattle.std.specs.Prelude.{ℕ, ◌^◌, true, ◌==◌, ◌||◌, nat_lt, nat_le, if◌then◌else◌, List, [], ◌∷◌, ◌++◌, flat_map, fold, Option, Some, None, is_none, option_and_then, codes}
use Rattle.ge_base.specs.declared.refusal.Refusal.{Refusal}
use Rattle.ge_base.specs.declared.refusal.Refusal.TheVariants.{NoSuchObject, BadValue, StaleReport}
use Rattle.ge_collections.specs.Keyed.{text_eq, at_text, put_text}
use Rattle.ge_limits.specs.Limits as limit
use Rattle.ge_model_rows.specs.ClusterRows.{Cluster}
use Rattle.ge_model_rows.specs.EntryRows.{Load, End}
use Rattle.ge_model_rows.specs.EventRows.{Event, Planned}
use Rattle.ge_model_rows.specs.ValueRows.{Value}
use Rattle.ge_model_rows.specs.Faults.{when}
use Rattle.ge_model_rows.specs.Values.{value_of}
use Rattle.ge_model_rows.specs.Complexes.{complex_at}
use Rattle.ge_model_jobs.specs.Serials.{running_with}
use Rattle.ge_model_report.specs.Orders.{orders_of, task_lines}
use Rattle.ge_model_core.specs.Answers.{changed, shown, done_lines, unless_faulty}
use Rattle.ge_model_core.specs.Configuring.{manager_faults}

-- the value that a report gives, if its name is a complex and its text one of its values
abbrev pub report_value : Cluster → List ℕ → List ℕ → Option Value
report_value c name text = option_and_then (λ complex. value_of complex.kind text) (complex_at c name)

abbrev pub report_faults : Cluster → List ℕ × List ℕ → List Refusal
report_faults c (name, text) =
    if is_none (complex_at c name) then NoSuchObject ∷ [] else when (is_none (report_value c name text)) BadValue

abbrev pub put_reported : List (List ℕ × Value) → List ℕ → Option Value → List (List ℕ × Value)
put_reported table name None = table
put_reported table name (Some value) = put_text table name value

abbrev pub add_reported : Cluster → List (List ℕ × Value) → List ℕ × List ℕ → List (List ℕ × Value)
add_reported c table (name, text) = put_reported table name (report_value c name text)

-- the values of a load report by name; of a name twice the last counts
abbrev pub report_of : Cluster → List (List ℕ × List ℕ) → List (List ℕ × Value)
report_of c pairs = fold (add_reported c) [] pairs

-- hosts report, but not global
abbrev pub host_faults : Cluster → List ℕ → List Refusal
host_faults c host = when (is_none (at_text c.hosts host)) NoSuchObject ++ when (text_eq host (codes "global")) BadValue

unfoldable pub load_plan : Cluster → Event → List ℕ → List (List ℕ × List ℕ) → Planned
load_plan c e host pairs =
    unless_faulty (manager_faults c e ++ host_faults c host ++ flat_map (report_faults c) pairs) (changed e (Load host (report_of c pairs)) done_lines)

-- a serial that was given out is that of a running task, or the report is stale
abbrev pub serial_faults : Cluster → ℕ → List Refusal
serial_faults c serial =
    if serial == 0 || nat_le c.next_serial serial then NoSuchObject ∷ [] else when (is_none (running_with c.jobs serial)) StaleReport

-- an exit status has a byte, an amount is below 2^48
abbrev pub end_faults : ℕ → ℕ → ℕ → ℕ → List Refusal
end_faults exit cpu mem io = when (nat_lt 255 exit || nat_le limit.amounts cpu || nat_le limit.amounts mem || nat_le limit.amounts io) BadValue

unfoldable pub end_plan : Cluster → Event → ℕ → ℕ → ℕ → ℕ → ℕ → Planned
end_plan c e serial exit cpu mem io =
    unless_faulty (manager_faults c e ++ serial_faults c serial ++ end_faults exit cpu mem io) (changed e (End serial exit cpu mem io) done_lines)

unfoldable pub orders_plan : Cluster → Event → List ℕ → Planned
orders_plan c e host = unless_faulty (manager_faults c e ++ when (is_none (at_text c.hosts host)) NoSuchObject) (shown (orders_of c host))

unfoldable pub task_plan : Cluster → Event → ℕ → Planned
task_plan c e serial = unless_faulty (manager_faults c e ++ when (is_none (running_with c.jobs serial)) NoSuchObject) (shown (task_lines c serial))

-- qconf -km: the master stops
unfoldable pub stop_plan : Cluster → Event → Planned
stop_plan c e = unless_faulty (manager_faults c e) (record (shown done_lines) { stop = true })
