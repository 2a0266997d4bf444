-- The scheduler's settings read from a body and printed (sched_conf).
use Rattle.std.specs.Prelude.{ℕ, Bool, not, ◌&&◌, if◌then◌else◌, List, [], ◌∷◌, ◌++◌, fold, Option, Some, None, unwrap_or, codes, decimal}
use Rattle.ge_collections.specs.Keyed.{text_eq, at_text, put_text}
use Rattle.ge_base.specs.declared.refusal.Refusal.{Refusal}
use Rattle.ge_base.specs.declared.refusal.Refusal.TheVariants.{NoSuchObject, BadValue}
use Rattle.ge_model_rows.specs.ClusterRows.{Cluster, default_sched}
use Rattle.ge_model_rows.specs.EntryRows.{Item}
use Rattle.ge_model_rows.specs.SettingRows.{SortMethod, Load, Seqno, Sched}
use Rattle.ge_model_rows.specs.ValueRows.{Kind, ComplexDef, infinity}
use Rattle.ge_model_rows.specs.Faults.{when}
use Rattle.ge_model_rows.specs.Pieces.{list_items, has_byte, before_byte, behind_byte, is_one_of}
use Rattle.ge_model_rows.specs.Values.{is_number_kind, fixed_text}
use Rattle.ge_model_rows.specs.Complexes.{complex_at}
use Rattle.ge_model_grammar.specs.Bodies.{attribute_in}
use Rattle.ge_model_config.specs.Cited.{Read, number_read, printed_attribute, number_text}

module _ {T : Type 0} where
  -- a setting, or its default where the body leaves it out
  abbrev pub setting : List (List ℕ × List ℕ) → List ℕ → T → (List ℕ → Read T) → Read T
  setting values attribute fallback read = elim (attribute_in values attribute) [ None ↦ (fallback, []) | Some text ↦ read text ]

-- queue_sort_method: load or seqno
abbrev pub sort_read : List ℕ → Read SortMethod
sort_read text = if text_eq text (codes "load") then (Load, []) else (if text_eq text (codes "seqno") then (Seqno, []) else (Load, BadValue ∷ []))

-- the load formula is the name of a complex whose values are amounts
abbrev pub formula_faults : Option ComplexDef → List Refusal
formula_faults None = NoSuchObject ∷ []
formula_faults (Some complex) = when (not (is_number_kind complex.kind)) BadValue

-- the load formula as it is written
abbrev pub formula_read : Cluster → List ℕ → Read (List ℕ)
formula_read c text = (text, formula_faults (complex_at c text))

-- what usage is weighed by: processor time, memory and transfers
abbrev pub usage_names : List (List ℕ)
usage_names = codes "cpu" ∷ codes "mem" ∷ codes "io" ∷ []

-- the weight behind the = of an item
abbrev pub weight_read : List ℕ → Read ℕ
weight_read item = number_read Kind.Double 0 infinity (behind_byte 61 item)

-- an item of the list of weights names one of these, with its =
abbrev pub is_weight : List ℕ → Bool
is_weight item = has_byte 61 item && is_one_of (before_byte 61 item) usage_names

-- one more item beside those that were read: of a name that comes twice the last counts
abbrev pub with_weight_item : Read (List (List ℕ × ℕ)) → List ℕ → Read (List (List ℕ × ℕ))
with_weight_item weights item =
    let weight = weight_read item in
    (put_text weights.0 (before_byte 61 item) weight.0, weights.1 ++ when (not (is_weight item)) BadValue ++ weight.1)

-- the weights by name
abbrev pub weights_read : List ℕ → Read (List (List ℕ × ℕ))
weights_read text = fold with_weight_item ([], []) (list_items text)

-- a name that the list leaves out weighs nothing
abbrev pub weight_at : List (List ℕ × ℕ) → List ℕ → ℕ
weight_at weights name = unwrap_or (at_text weights name) 0

-- the weights of a body that gives none
abbrev pub default_weights : List (List ℕ × ℕ)
default_weights = (codes "cpu", default_sched.u_cpu) ∷ (codes "io", default_sched.u_io) ∷ (codes "mem", default_sched.u_mem) ∷ []

-- the settings that a body gives
unfoldable pub sched_item : Cluster → List (List ℕ × List ℕ) → Read Item
sched_item c values =
    let d = default_sched in
    let interval = setting values (codes "schedule_interval") d.interval (number_read Kind.Time 0 infinity) in
    let maxujobs = setting values (codes "maxujobs") d.maxujobs (number_read Kind.Int 0 infinity) in
    let sort = setting values (codes "queue_sort_method") d.sort sort_read in
    let load_formula = setting values (codes "load_formula") d.load_formula (formula_read c) in
    let w_priority = setting values (codes "weight_priority") d.w_priority (number_read Kind.Double 0 infinity) in
    let w_urgency = setting values (codes "weight_urgency") d.w_urgency (number_read Kind.Double 0 infinity) in
    let w_ticket = setting values (codes "weight_ticket") d.w_ticket (number_read Kind.Double 0 infinity) in
    let w_waiting = setting values (codes "weight_waiting_time") d.w_waiting (number_read Kind.Double 0 infinity) in
    let w_deadline = setting values (codes "weight_deadline") d.w_deadline (number_read Kind.Double 0 infinity) in
    let functional = setting values (codes "weight_tickets_functional") d.functional (number_read Kind.Int 0 1000000000) in
    let share = setting values (codes "weight_tickets_share") d.share (number_read Kind.Int 0 1000000000) in
    let w_user = setting values (codes "weight_user") d.w_user (number_read Kind.Double 0 infinity) in
    let w_project = setting values (codes "weight_project") d.w_project (number_read Kind.Double 0 infinity) in
    let w_job = setting values (codes "weight_job") d.w_job (number_read Kind.Double 0 infinity) in
    let halftime = setting values (codes "halftime") d.halftime (number_read Kind.Int 0 1048575) in
    let max_reservation = setting values (codes "max_reservation") d.max_reservation (number_read Kind.Int 0 infinity) in
    let default_duration = setting values (codes "default_duration") d.default_duration (number_read Kind.Time 0 infinity) in
    let usage = setting values (codes "usage_weight_list") default_weights weights_read in
    let max_pending = setting values (codes "max_pending_tasks_per_job") d.max_pending (number_read Kind.Int 0 infinity) in (
      Item.Sched (record {
        interval = interval.0;
        maxujobs = maxujobs.0;
        sort = sort.0;
        load_formula = load_formula.0;
        w_priority = w_priority.0;
        w_urgency = w_urgency.0;
        w_ticket = w_ticket.0;
        w_waiting = w_waiting.0;
        w_deadline = w_deadline.0;
        functional = functional.0;
        share = share.0;
        w_user = w_user.0;
        w_project = w_project.0;
        w_job = w_job.0;
        halftime = halftime.0;
        max_reservation = max_reservation.0;
        default_duration = default_duration.0;
        u_cpu = weight_at usage.0 (codes "cpu");
        u_mem = weight_at usage.0 (codes "mem");
        u_io = weight_at usage.0 (codes "io");
        max_pending = max_pending.0;
      }),
      interval.1 ++ maxujobs.1 ++ sort.1 ++ load_formula.1 ++ w_priority.1 ++ w_urgency.1 ++ w_ticket.1 ++ w_waiting.1 ++ w_deadline.1 ++ functional.1
          ++ share.1 ++ w_user.1 ++ w_project.1 ++ w_job.1 ++ halftime.1 ++ max_reservation.1 ++ default_duration.1 ++ usage.1 ++ max_pending.1,
    )

-- sched_conf, queue_sort_method
abbrev pub sort_text : SortMethod → List ℕ
sort_text SortMethod.Load = codes "load"
sort_text SortMethod.Seqno = codes "seqno"

-- the weights of usage
abbrev pub usage_text : Sched → List ℕ
usage_text s = codes "cpu=" ++ fixed_text s.u_cpu ++ codes ",mem=" ++ fixed_text s.u_mem ++ codes ",io=" ++ fixed_text s.u_io

-- sched_conf
abbrev pub sched_lines : Sched → List (List ℕ)
sched_lines s =
    printed_attribute (codes "schedule_interval") (number_text Kind.Time s.interval)
    ∷ printed_attribute (codes "maxujobs") (decimal s.maxujobs)
    ∷ printed_attribute (codes "queue_sort_method") (sort_text s.sort)
    ∷ printed_attribute (codes "load_formula") s.load_formula
    ∷ printed_attribute (codes "weight_priority") (fixed_text s.w_priority)
    ∷ printed_attribute (codes "weight_urgency") (fixed_text s.w_urgency)
    ∷ printed_attribute (codes "weight_ticket") (fixed_text s.w_ticket)
    ∷ printed_attribute (codes "weight_waiting_time") (fixed_text s.w_waiting)
    ∷ printed_attribute (codes "weight_deadline") (fixed_text s.w_deadline)
    ∷ printed_attribute (codes "weight_tickets_functional") (decimal s.functional)
    ∷ printed_attribute (codes "weight_tickets_share") (decimal s.share)
    ∷ printed_attribute (codes "weight_user") (fixed_text s.w_user)
    ∷ printed_attribute (codes "weight_project") (fixed_text s.w_project)
    ∷ printed_attribute (codes "weight_job") (fixed_text s.w_job)
    ∷ printed_attribute (codes "halftime") (decimal s.halftime)
    ∷ printed_attribute (codes "max_reservation") (decimal s.max_reservation)
    ∷ printed_attribute (codes "default_duration") (number_text Kind.Time s.default_duration)
    ∷ printed_attribute (codes "usage_weight_list") (usage_text s)
    ∷ printed_attribute (codes "max_pending_tasks_per_job") (decimal s.max_pending)
    ∷ []
