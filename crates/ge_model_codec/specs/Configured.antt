-- The codes of values and of what is configured.
use Rattle.std.specs.Prelude.{ℕ, Bool, List, ◌⊎◌}
use Rattle.std.proofs.Common.{inl, inr}
use Rattle.ge_rows.specs.Keyed.{text_cmp}
use Rattle.ge_model_rows.specs.HostRows.{HostRow}
use Rattle.ge_model_rows.specs.PeRows.{PeRow, Allocation, UrgencySlots}
use Rattle.ge_model_rows.specs.PeopleRows.{UserRow, ProjectRow, ShareNode}
use Rattle.ge_model_rows.specs.QueueRows.{QueueRow, Attr}
use Rattle.ge_model_rows.specs.QuotaRows.{QuotaRow, Rule, Filter}
use Rattle.ge_model_rows.specs.SettingRows.{Sched, SortMethod}
use Rattle.ge_model_rows.specs.ValueRows.{Value, Kind, Relop, Requestable, Consumable, ComplexDef}
use Rattle.ge_model_codec.specs.Code.{Code, Cases, u32_code, u64_code, bool_code, text_code, list_code, option_code, table_code, ◌⊗◌, row_code, triple_code, quadruple_code, quintuple_code, empty_code, last_case, ◌⊕◌, first_cases, cases_code}

-- a value
abbrev pub ValueParts : Type 0
ValueParts = ℕ ⊎ Bool ⊎ List ℕ

abbrev pub value_parts : Value → ValueParts
value_parts (Value.Amount a) = inl a
value_parts (Value.Flag a) = inr (inl a)
value_parts (Value.Word a) = inr (inr a)

abbrev pub value_from_parts : ValueParts → Value
value_from_parts (inl x) = Value.Amount x
value_from_parts (inr (inl x)) = Value.Flag x
value_from_parts (inr (inr x)) = Value.Word x

abbrev pub value_cases : Cases ValueParts
value_cases = u64_code ⊕ bool_code ⊕ last_case text_code

abbrev pub value_code : Code Value
value_code = row_code (cases_code value_cases) value_parts value_from_parts

-- a kind
abbrev pub KindParts : Type 0
KindParts =
    Unit {0} ⊎ Unit {0} ⊎ Unit {0} ⊎ Unit {0} ⊎ Unit {0} ⊎
    Unit {0} ⊎ Unit {0} ⊎ Unit {0} ⊎ Unit {0}

abbrev pub kind_parts : Kind → KindParts
kind_parts Kind.Int = inl tt
kind_parts Kind.Time = inr (inl tt)
kind_parts Kind.Memory = inr (inr (inl tt))
kind_parts Kind.Double = inr (inr (inr (inl tt)))
kind_parts Kind.Bool = inr (inr (inr (inr (inl tt))))
kind_parts Kind.Str = inr (inr (inr (inr (inr (inl tt)))))
kind_parts Kind.CStr = inr (inr (inr (inr (inr (inr (inl tt))))))
kind_parts Kind.ReStr = inr (inr (inr (inr (inr (inr (inr (inl tt)))))))
kind_parts Kind.Host = inr (inr (inr (inr (inr (inr (inr (inr tt)))))))

abbrev pub kind_from_parts : KindParts → Kind
kind_from_parts (inl u) = Kind.Int
kind_from_parts (inr (inl u)) = Kind.Time
kind_from_parts (inr (inr (inl u))) = Kind.Memory
kind_from_parts (inr (inr (inr (inl u)))) = Kind.Double
kind_from_parts (inr (inr (inr (inr (inl u))))) = Kind.Bool
kind_from_parts (inr (inr (inr (inr (inr (inl u)))))) = Kind.Str
kind_from_parts (inr (inr (inr (inr (inr (inr (inl u))))))) = Kind.CStr
kind_from_parts (inr (inr (inr (inr (inr (inr (inr (inl u)))))))) = Kind.ReStr
kind_from_parts (inr (inr (inr (inr (inr (inr (inr (inr u)))))))) = Kind.Host

abbrev pub kind_cases : Cases KindParts
kind_cases =
    empty_code ⊕ empty_code ⊕ empty_code ⊕ empty_code ⊕
    empty_code ⊕ empty_code ⊕ empty_code ⊕ empty_code ⊕ last_case empty_code

abbrev pub kind_code : Code Kind
kind_code = row_code (cases_code kind_cases) kind_parts kind_from_parts

-- a relational operator
abbrev pub RelopParts : Type 0
RelopParts = Unit {0} ⊎ Unit {0} ⊎ Unit {0} ⊎ Unit {0} ⊎ Unit {0} ⊎ Unit {0}

abbrev pub relop_parts : Relop → RelopParts
relop_parts Relop.Eq = inl tt
relop_parts Relop.Ne = inr (inl tt)
relop_parts Relop.Lt = inr (inr (inl tt))
relop_parts Relop.Le = inr (inr (inr (inl tt)))
relop_parts Relop.Gt = inr (inr (inr (inr (inl tt))))
relop_parts Relop.Ge = inr (inr (inr (inr (inr tt))))

abbrev pub relop_from_parts : RelopParts → Relop
relop_from_parts (inl u) = Relop.Eq
relop_from_parts (inr (inl u)) = Relop.Ne
relop_from_parts (inr (inr (inl u))) = Relop.Lt
relop_from_parts (inr (inr (inr (inl u)))) = Relop.Le
relop_from_parts (inr (inr (inr (inr (inl u))))) = Relop.Gt
relop_from_parts (inr (inr (inr (inr (inr u))))) = Relop.Ge

abbrev pub relop_cases : Cases RelopParts
relop_cases = empty_code ⊕ empty_code ⊕ empty_code ⊕ empty_code ⊕ empty_code ⊕ last_case empty_code

abbrev pub relop_code : Code Relop
relop_code = row_code (cases_code relop_cases) relop_parts relop_from_parts

-- whether jobs may ask
abbrev pub RequestableParts : Type 0
RequestableParts = Unit {0} ⊎ Unit {0} ⊎ Unit {0}

abbrev pub requestable_parts : Requestable → RequestableParts
requestable_parts Requestable.No = inl tt
requestable_parts Requestable.Yes = inr (inl tt)
requestable_parts Requestable.Forced = inr (inr tt)

abbrev pub requestable_from_parts : RequestableParts → Requestable
requestable_from_parts (inl u) = Requestable.No
requestable_from_parts (inr (inl u)) = Requestable.Yes
requestable_from_parts (inr (inr u)) = Requestable.Forced

abbrev pub requestable_cases : Cases RequestableParts
requestable_cases = empty_code ⊕ empty_code ⊕ last_case empty_code

abbrev pub requestable_code : Code Requestable
requestable_code = row_code (cases_code requestable_cases) requestable_parts requestable_from_parts

-- whether it is consumed
abbrev pub ConsumableParts : Type 0
ConsumableParts = Unit {0} ⊎ Unit {0} ⊎ Unit {0}

abbrev pub consumable_parts : Consumable → ConsumableParts
consumable_parts Consumable.No = inl tt
consumable_parts Consumable.Yes = inr (inl tt)
consumable_parts Consumable.Job = inr (inr tt)

abbrev pub consumable_from_parts : ConsumableParts → Consumable
consumable_from_parts (inl u) = Consumable.No
consumable_from_parts (inr (inl u)) = Consumable.Yes
consumable_from_parts (inr (inr u)) = Consumable.Job

abbrev pub consumable_cases : Cases ConsumableParts
consumable_cases = empty_code ⊕ empty_code ⊕ last_case empty_code

abbrev pub consumable_code : Code Consumable
consumable_code = row_code (cases_code consumable_cases) consumable_parts consumable_from_parts

-- the first so many of these
abbrev pub first_consumables_code : ℕ → Code Consumable
first_consumables_code count =
    row_code (cases_code (first_cases count consumable_cases)) consumable_parts consumable_from_parts

-- the same before a complex could be consumed per job: NO and YES
abbrev pub consumable_code_1 : Code Consumable
consumable_code_1 = first_consumables_code 2

-- a row of the complex table, with this code of the column consumable
abbrev pub complex_def_code_with : Code Consumable → Code ComplexDef
complex_def_code_with consumable = row_code
    ((quadruple_code text_code kind_code relop_code requestable_code) ⊗ consumable ⊗ value_code ⊗ u64_code)
    (λ r. ((r.shortcut, r.kind, r.relop, r.requestable), (r.consumable, (r.fallback, r.urgency))))
    (λ p. record {
      shortcut = p.0.0;
      kind = p.0.1;
      relop = p.0.2;
      requestable = p.0.3;
      consumable = p.1.0;
      fallback = p.1.1.0;
      urgency = p.1.1.1;
    })

abbrev pub complex_def_code : Code ComplexDef
complex_def_code = complex_def_code_with consumable_code

abbrev pub complex_def_code_1 : Code ComplexDef
complex_def_code_1 = complex_def_code_with consumable_code_1

-- values by the names of complexes
abbrev pub values_code : Code (List ((List ℕ) × Value))
values_code = table_code text_cmp text_code value_code

-- a list of texts
abbrev pub texts_code : Code (List (List ℕ))
texts_code = list_code text_code

-- a host
abbrev pub host_row_code : Code HostRow
host_row_code = row_code
    (values_code ⊗ values_code)
    (λ r. (r.values, r.load))
    (λ p. record { values = p.0; load = p.1 })

-- an attribute of a queue
abbrev pub attr_code : {T : Type 0} → Code T → Code (Attr T)
attr_code value = row_code (value ⊗ (list_code (text_code ⊗ value)))
    (λ r. (r.plain, r.overrides))
    (λ p. record { plain = p.0; overrides = p.1 })

-- a queue
abbrev pub queue_row_code : Code QueueRow
queue_row_code = row_code
    (triple_code
    (quadruple_code texts_code (attr_code u64_code) (attr_code values_code) (attr_code texts_code))
    (quadruple_code (attr_code texts_code) (attr_code texts_code) (attr_code texts_code) (attr_code texts_code))
    (triple_code (attr_code values_code) (attr_code u64_code) (table_code text_cmp text_code (attr_code u64_code))))
    (λ r. (
      (r.hosts, r.seq_no, r.thresholds, r.pes),
      (r.users, r.xusers, r.projects, r.xprojects),
      (r.values, r.slots, r.limits),
    ))
    (λ p. record {
      hosts = p.0.0;
      seq_no = p.0.1;
      thresholds = p.0.2;
      pes = p.0.3;
      users = p.1.0;
      xusers = p.1.1;
      projects = p.1.2;
      xprojects = p.1.3;
      values = p.2.0;
      slots = p.2.1;
      limits = p.2.2;
    })

-- an allocation rule
abbrev pub AllocationParts : Type 0
AllocationParts = ℕ ⊎ Unit {0} ⊎ Unit {0} ⊎ Unit {0}

abbrev pub allocation_parts : Allocation → AllocationParts
allocation_parts (Allocation.Fixed a) = inl a
allocation_parts Allocation.PeSlots = inr (inl tt)
allocation_parts Allocation.FillUp = inr (inr (inl tt))
allocation_parts Allocation.RoundRobin = inr (inr (inr tt))

abbrev pub allocation_from_parts : AllocationParts → Allocation
allocation_from_parts (inl x) = Allocation.Fixed x
allocation_from_parts (inr (inl u)) = Allocation.PeSlots
allocation_from_parts (inr (inr (inl u))) = Allocation.FillUp
allocation_from_parts (inr (inr (inr u))) = Allocation.RoundRobin

abbrev pub allocation_cases : Cases AllocationParts
allocation_cases = u32_code ⊕ empty_code ⊕ empty_code ⊕ last_case empty_code

abbrev pub allocation_code : Code Allocation
allocation_code = row_code (cases_code allocation_cases) allocation_parts allocation_from_parts

-- urgency slots
abbrev pub UrgencySlotsParts : Type 0
UrgencySlotsParts = ℕ ⊎ Unit {0} ⊎ Unit {0} ⊎ Unit {0}

abbrev pub urgency_slots_parts : UrgencySlots → UrgencySlotsParts
urgency_slots_parts (UrgencySlots.Fixed a) = inl a
urgency_slots_parts UrgencySlots.Min = inr (inl tt)
urgency_slots_parts UrgencySlots.Max = inr (inr (inl tt))
urgency_slots_parts UrgencySlots.Avg = inr (inr (inr tt))

abbrev pub urgency_slots_from_parts : UrgencySlotsParts → UrgencySlots
urgency_slots_from_parts (inl x) = UrgencySlots.Fixed x
urgency_slots_from_parts (inr (inl u)) = UrgencySlots.Min
urgency_slots_from_parts (inr (inr (inl u))) = UrgencySlots.Max
urgency_slots_from_parts (inr (inr (inr u))) = UrgencySlots.Avg

abbrev pub urgency_slots_cases : Cases UrgencySlotsParts
urgency_slots_cases = u32_code ⊕ empty_code ⊕ empty_code ⊕ last_case empty_code

abbrev pub urgency_slots_code : Code UrgencySlots
urgency_slots_code = row_code (cases_code urgency_slots_cases) urgency_slots_parts urgency_slots_from_parts

-- a parallel environment
abbrev pub pe_row_code : Code PeRow
pe_row_code = row_code
    (quintuple_code u64_code texts_code texts_code allocation_code urgency_slots_code)
    (λ r. (r.slots, r.users, r.xusers, r.rule, r.urgency_slots))
    (λ p. record { slots = p.0; users = p.1; xusers = p.2; rule = p.3; urgency_slots = p.4 })

-- a filter
abbrev pub filter_code : Code Filter
filter_code = row_code
    (triple_code bool_code texts_code texts_code)
    (λ r. (r.braces, r.plain, r.without))
    (λ p. record { braces = p.0; plain = p.1; without = p.2 })

-- a rule
abbrev pub rule_code : Code Rule
rule_code = row_code
    (triple_code
    text_code
    (quintuple_code (option_code filter_code) (option_code filter_code) (option_code filter_code)
    (option_code filter_code) (option_code filter_code))
    (table_code text_cmp text_code u64_code))
    (λ r. (r.name, (r.users, r.projects, r.pes, r.queues, r.hosts), r.limits))
    (λ p. record {
      name = p.0;
      users = p.1.0;
      projects = p.1.1;
      pes = p.1.2;
      queues = p.1.3;
      hosts = p.1.4;
      limits = p.2;
    })

-- a rule set
abbrev pub quota_row_code : Code QuotaRow
quota_row_code = row_code
    (triple_code text_code bool_code (list_code rule_code))
    (λ r. (r.description, r.enabled, r.rules))
    (λ p. record { description = p.0; enabled = p.1; rules = p.2 })

-- a user
abbrev pub user_row_code : Code UserRow
user_row_code = row_code
    (u64_code ⊗ u64_code)
    (λ r. (r.fshare, r.oticket))
    (λ p. record { fshare = p.0; oticket = p.1 })

-- a project
abbrev pub project_row_code : Code ProjectRow
project_row_code = row_code
    (quadruple_code u64_code u64_code texts_code texts_code)
    (λ r. (r.fshare, r.oticket, r.acl, r.xacl))
    (λ p. record { fshare = p.0; oticket = p.1; acl = p.2; xacl = p.3 })

-- a node of the share tree
abbrev pub share_node_code : Code ShareNode
share_node_code = row_code
    (quadruple_code text_code bool_code u64_code (list_code u32_code))
    (λ r. (r.name, r.project, r.shares, r.children))
    (λ p. record { name = p.0; project = p.1; shares = p.2; children = p.3 })

-- a sort method
abbrev pub SortMethodParts : Type 0
SortMethodParts = Unit {0} ⊎ Unit {0}

abbrev pub sort_method_parts : SortMethod → SortMethodParts
sort_method_parts SortMethod.Load = inl tt
sort_method_parts SortMethod.Seqno = inr tt

abbrev pub sort_method_from_parts : SortMethodParts → SortMethod
sort_method_from_parts (inl u) = SortMethod.Load
sort_method_from_parts (inr u) = SortMethod.Seqno

abbrev pub sort_method_cases : Cases SortMethodParts
sort_method_cases = empty_code ⊕ last_case empty_code

abbrev pub sort_method_code : Code SortMethod
sort_method_code = row_code (cases_code sort_method_cases) sort_method_parts sort_method_from_parts

-- the settings of the scheduler
abbrev pub sched_code : Code Sched
sched_code = row_code
    (quintuple_code
    (quadruple_code u64_code u64_code sort_method_code text_code)
    (quintuple_code u64_code u64_code u64_code u64_code u64_code)
    (quintuple_code u64_code u64_code u64_code u64_code u64_code)
    (triple_code u64_code u64_code u64_code)
    (quadruple_code u64_code u64_code u64_code u64_code))
    (λ r. (
      (r.interval, r.maxujobs, r.sort, r.load_formula),
      (r.w_priority, r.w_urgency, r.w_ticket, r.w_waiting, r.w_deadline),
      (r.functional, r.share, r.w_user, r.w_project, r.w_job),
      (r.halftime, r.max_reservation, r.default_duration),
      (r.u_cpu, r.u_mem, r.u_io, r.max_pending),
    ))
    (λ p. record {
      interval = p.0.0;
      maxujobs = p.0.1;
      sort = p.0.2;
      load_formula = p.0.3;
      w_priority = p.1.0;
      w_urgency = p.1.1;
      w_ticket = p.1.2;
      w_waiting = p.1.3;
      w_deadline = p.1.4;
      functional = p.2.0;
      share = p.2.1;
      w_user = p.2.2;
      w_project = p.2.3;
      w_job = p.2.4;
      halftime = p.3.0;
      max_reservation = p.3.1;
      default_duration = p.3.2;
      u_cpu = p.4.0;
      u_mem = p.4.1;
      u_io = p.4.2;
      max_pending = p.4.3;
    })
