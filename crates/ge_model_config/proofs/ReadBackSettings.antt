-- The printed settings of the scheduler read back.
use Rattle.std.proofs.Common.{◌≡◌, ℕ, ◌^◌, ◌≤◌, ◌<◌, ◌&&◌, Bool, true, if◌then◌else◌, List, [], ◌∷◌, ◌++◌, fold, refl, sym, ap, ◌∙◌, arith, append_assoc, append-nil, codes}
use Rattle.std.specs.Int.{is_in_range}
use Rattle.std.specs.List.{list_all}
use Rattle.ge_base.specs.declared.refusal.Refusal.TheVariants.{BadValue}
use Rattle.ge_collections.specs.Keyed.{put_text}
use Rattle.ge_model_rows.specs.ClusterRows.{Cluster}
use Rattle.ge_model_rows.specs.EntryRows.{Item, ObjectKind}
use Rattle.ge_model_rows.specs.SettingRows.{Sched, SortMethod}
use Rattle.ge_model_rows.specs.ValueRows.{Amount, Kind, infinity}
use Rattle.ge_model_rows.specs.Pieces.{list_text}
use Rattle.ge_model_rows.specs.Values.{fixed_text}
use Rattle.ge_model_rows.specs.Complexes.{complex_at}
use Rattle.ge_model_grammar.specs.declared.Body.TheVariants.{Attributes}
use Rattle.ge_model_config.specs.Cited.{Read, amount_within, number_read, number_text}
use Rattle.ge_model_config.specs.Printing.{printed}
use Rattle.ge_model_config.specs.Reading.{item_of}
use Rattle.ge_model_config.specs.Settings.{sort_read, formula_faults, with_weight_item, weights_read, weight_at, sched_item, sort_text, usage_text}
use Rattle.ge_model_config.proofs.ReadBackTexts.{is_shown}
use Rattle.ge_model_config.proofs.ReadBackBodies.{AreShown, body_back}
use Rattle.ge_model_config.proofs.ReadBackLists.{is_item, list_back, list_shown, text_joined}
use Rattle.ge_model_config.proofs.ReadBackValues.{FitsKind, value_back}
use Rattle.ge_model_config.proofs.ReadBackPrinted.{number_shown, weight_item}
use Rattle.ge_model_config.proofs.ReadBack.{ReadsBack}

-- ---- settings

-- an amount up to this one
abbrev pub is_up_to : ℕ → ℕ → Bool
is_up_to high n = is_in_range 0 high n

-- settings that are read without a refusal
pub record AreSettings (c : Cluster) (s : Sched) : Type 0 where
  pub interval : is_up_to infinity s.interval ≡ true
  pub maxujobs : is_up_to infinity s.maxujobs ≡ true
  pub formula : formula_faults (complex_at c s.load_formula) ≡ []
  pub formula_shown : is_shown s.load_formula ≡ true
  pub w_priority : is_up_to infinity s.w_priority ≡ true
  pub w_urgency : is_up_to infinity s.w_urgency ≡ true
  pub w_ticket : is_up_to infinity s.w_ticket ≡ true
  pub w_waiting : is_up_to infinity s.w_waiting ≡ true
  pub w_deadline : is_up_to infinity s.w_deadline ≡ true
  pub functional : is_up_to 1000000000 s.functional ≡ true
  pub share : is_up_to 1000000000 s.share ≡ true
  pub w_user : is_up_to infinity s.w_user ≡ true
  pub w_project : is_up_to infinity s.w_project ≡ true
  pub w_job : is_up_to infinity s.w_job ≡ true
  pub halftime : is_up_to 1048575 s.halftime ≡ true
  pub max_reservation : is_up_to infinity s.max_reservation ≡ true
  pub default_duration : is_up_to infinity s.default_duration ≡ true
  pub u_cpu : is_up_to infinity s.u_cpu ≡ true
  pub u_mem : is_up_to infinity s.u_mem ≡ true
  pub u_io : is_up_to infinity s.u_io ≡ true
  pub max_pending : is_up_to infinity s.max_pending ≡ true

-- ---- what is printed is read

-- an amount of a kind
pub amount_back : (k : Kind) (high n : ℕ) → FitsKind k (Amount n) → is_up_to high n ≡ true → number_read k 0 high (number_text k n) ≡ (n, [])
amount_back k high n fits within =
    ap (amount_within 0 high) (value_back k (Amount n) fits) ∙ ap (λ z. if z then (n, []) else (0, BadValue ∷ [])) within

pub up_to_small : (high n : ℕ) → high < 2 ^ 48 → is_up_to high n ≡ true → n < 2 ^ 48
up_to_small high n small within = let low : n ≤ high = grind arith in omega arith

sort_back : (sort : SortMethod) → sort_read (sort_text sort) ≡ (sort, [])
sort_back SortMethod.Load = refl
sort_back SortMethod.Seqno = refl

sort_shown : (sort : SortMethod) → is_shown (sort_text sort) ≡ true
sort_shown SortMethod.Load = refl
sort_shown SortMethod.Seqno = refl

-- the three weights of usage
weight_items : Sched → List (List ℕ)
weight_items s = (codes "cpu=" ++ fixed_text s.u_cpu) ∷ (codes "mem=" ++ fixed_text s.u_mem) ∷ (codes "io=" ++ fixed_text s.u_io) ∷ []

usage_joined : (s : Sched) → usage_text s ≡ list_text (weight_items s)
unfolding weight_items
usage_joined s =
    append_assoc (first ++ codes ",mem=" ++ fixed_text s.u_mem) (codes ",io=") (fixed_text s.u_io)
    ∙ append_assoc (first ++ codes ",mem=") (fixed_text s.u_mem) (codes ",io=" ++ fixed_text s.u_io)
    ∙ append_assoc first (codes ",mem=") (fixed_text s.u_mem ++ (codes ",io=" ++ fixed_text s.u_io))
    ∙ ap (λ z. first ++ (codes ",mem=" ++ (fixed_text s.u_mem ++ (codes ",io=" ++ z)))) (sym (append-nil (fixed_text s.u_io)))
    ∙ sym (text_joined first ((codes "mem=" ++ fixed_text s.u_mem) ∷ (codes "io=" ++ fixed_text s.u_io) ∷ []))
  where
    first : List ℕ
    first = codes "cpu=" ++ fixed_text s.u_cpu

weights_pass : (s : Sched) → list_all is_item (weight_items s) ≡ true
unfolding weight_items
weights_pass s = λ i. weight_item (codes "cpu=") s.u_cpu refl i && (weight_item (codes "mem=") s.u_mem refl i && (weight_item (codes "io=") s.u_io refl i && true))

usage_shown : (s : Sched) → is_shown (usage_text s) ≡ true
usage_shown s = ap is_shown (usage_joined s) ∙ list_shown (weight_items s) (weights_pass s)

-- weights of what is read
abbrev weights_with : Read ℕ → Read ℕ → Read ℕ → Read (List (List ℕ × ℕ))
weights_with cpu mem io = (
  put_text (put_text (put_text [] (codes "cpu") cpu.0) (codes "mem") mem.0) (codes "io") io.0,
  ([] ++ [] ++ cpu.1) ++ [] ++ mem.1 ++ [] ++ io.1,
)

usage_back : (c : Cluster) (s : Sched) → AreSettings c s → weights_read (usage_text s) ≡ ((codes "cpu", s.u_cpu) ∷ (codes "io", s.u_io) ∷ (codes "mem", s.u_mem) ∷ [], [])
unfolding weight_items
usage_back c s is =
    ap (λ z. weights_read z) (usage_joined s)
    ∙ ap (λ items. fold with_weight_item ([], []) items) (list_back (weight_items s) (record { pass = weights_pass s; others = refl }))
    ∙ (λ i. weights_with (weight s.u_cpu is.u_cpu i) (weight s.u_mem is.u_mem i) (weight s.u_io is.u_io i))
  where
    weight : (n : ℕ) → is_up_to infinity n ≡ true → number_read Kind.Double 0 infinity (fixed_text n) ≡ (n, [])
    weight n within = amount_back Kind.Double infinity n (up_to_small infinity n (omega arith) within) within

-- settings of what is read
abbrev settings_with : Read ℕ → Read ℕ → Read SortMethod → Read (List ℕ) → Read ℕ → Read ℕ → Read ℕ → Read ℕ → Read ℕ → Read ℕ → Read ℕ → Read ℕ → Read ℕ → Read ℕ → Read ℕ → Read ℕ → Read ℕ → Read (List (List ℕ × ℕ)) → Read ℕ → Read Item
settings_with interval maxujobs sort load_formula w_priority w_urgency w_ticket w_waiting w_deadline functional share w_user w_project w_job halftime max_reservation default_duration usage max_pending = (
  Item.Sched (record {
    interval = interval.0;
    maxujobs = maxujobs.0;
    sort = sort.0;
    load_formula = load_formula.0;
    w_priority = w_priority.0;
    w_urgency = w_urgency.0;
    w_ticket = w_ticket.0;
    w_waiting = w_waiting.0;
    w_deadline = w_deadline.0;
    functional = functional.0;
    share = share.0;
    w_user = w_user.0;
    w_project = w_project.0;
    w_job = w_job.0;
    halftime = halftime.0;
    max_reservation = max_reservation.0;
    default_duration = default_duration.0;
    u_cpu = weight_at usage.0 (codes "cpu");
    u_mem = weight_at usage.0 (codes "mem");
    u_io = weight_at usage.0 (codes "io");
    max_pending = max_pending.0;
  }),
  interval.1 ++ maxujobs.1 ++ sort.1 ++ load_formula.1 ++ w_priority.1 ++ w_urgency.1 ++ w_ticket.1 ++ w_waiting.1 ++ w_deadline.1 ++ functional.1 ++ share.1 ++ w_user.1 ++ w_project.1 ++ w_job.1 ++ halftime.1 ++ max_reservation.1 ++ default_duration.1 ++ usage.1 ++ max_pending.1,
)

-- settings are printed as they are read
pub settings_back : (c : Cluster) (s : Sched) → AreSettings c s → (ended : Bool) → ReadsBack c ObjectKind.Sched (Item.Sched s) ended
unfolding printed item_of sched_item
settings_back c s is ended = record {
  body = Attributes (first ∷ values);
  parsed = body_back ObjectKind.Sched first values ended (λ lines. refl) refl refl shown;
  again = λ adding. λ i. settings_with
      (amount_back Kind.Time infinity s.interval (up_to_small infinity s.interval (omega arith) is.interval) is.interval i)
      (amount_back Kind.Int infinity s.maxujobs (up_to_small infinity s.maxujobs (omega arith) is.maxujobs) is.maxujobs i)
      (sort_back s.sort i)
      ((s.load_formula, is.formula i))
      (amount_back Kind.Double infinity s.w_priority (up_to_small infinity s.w_priority (omega arith) is.w_priority) is.w_priority i)
      (amount_back Kind.Double infinity s.w_urgency (up_to_small infinity s.w_urgency (omega arith) is.w_urgency) is.w_urgency i)
      (amount_back Kind.Double infinity s.w_ticket (up_to_small infinity s.w_ticket (omega arith) is.w_ticket) is.w_ticket i)
      (amount_back Kind.Double infinity s.w_waiting (up_to_small infinity s.w_waiting (omega arith) is.w_waiting) is.w_waiting i)
      (amount_back Kind.Double infinity s.w_deadline (up_to_small infinity s.w_deadline (omega arith) is.w_deadline) is.w_deadline i)
      (amount_back Kind.Int 1000000000 s.functional (up_to_small 1000000000 s.functional (omega arith) is.functional) is.functional i)
      (amount_back Kind.Int 1000000000 s.share (up_to_small 1000000000 s.share (omega arith) is.share) is.share i)
      (amount_back Kind.Double infinity s.w_user (up_to_small infinity s.w_user (omega arith) is.w_user) is.w_user i)
      (amount_back Kind.Double infinity s.w_project (up_to_small infinity s.w_project (omega arith) is.w_project) is.w_project i)
      (amount_back Kind.Double infinity s.w_job (up_to_small infinity s.w_job (omega arith) is.w_job) is.w_job i)
      (amount_back Kind.Int 1048575 s.halftime (up_to_small 1048575 s.halftime (omega arith) is.halftime) is.halftime i)
      (amount_back Kind.Int infinity s.max_reservation (up_to_small infinity s.max_reservation (omega arith) is.max_reservation) is.max_reservation i)
      (amount_back Kind.Time infinity s.default_duration (up_to_small infinity s.default_duration (omega arith) is.default_duration) is.default_duration i)
      (usage_back c s is i)
      (amount_back Kind.Int infinity s.max_pending (up_to_small infinity s.max_pending (omega arith) is.max_pending) is.max_pending i);
}
  where
    first : List ℕ × List ℕ
    first = (codes "schedule_interval", number_text Kind.Time s.interval)

    values : List (List ℕ × List ℕ)
    values =
        (codes "maxujobs", number_text Kind.Int s.maxujobs)
        ∷ (codes "queue_sort_method", sort_text s.sort)
        ∷ (codes "load_formula", s.load_formula)
        ∷ (codes "weight_priority", number_text Kind.Double s.w_priority)
        ∷ (codes "weight_urgency", number_text Kind.Double s.w_urgency)
        ∷ (codes "weight_ticket", number_text Kind.Double s.w_ticket)
        ∷ (codes "weight_waiting_time", number_text Kind.Double s.w_waiting)
        ∷ (codes "weight_deadline", number_text Kind.Double s.w_deadline)
        ∷ (codes "weight_tickets_functional", number_text Kind.Int s.functional)
        ∷ (codes "weight_tickets_share", number_text Kind.Int s.share)
        ∷ (codes "weight_user", number_text Kind.Double s.w_user)
        ∷ (codes "weight_project", number_text Kind.Double s.w_project)
        ∷ (codes "weight_job", number_text Kind.Double s.w_job)
        ∷ (codes "halftime", number_text Kind.Int s.halftime)
        ∷ (codes "max_reservation", number_text Kind.Int s.max_reservation)
        ∷ (codes "default_duration", number_text Kind.Time s.default_duration)
        ∷ (codes "usage_weight_list", usage_text s)
        ∷ (codes "max_pending_tasks_per_job", number_text Kind.Int s.max_pending)
        ∷ []

    shown : AreShown (first ∷ values)
    shown = (number_shown Kind.Time s.interval, (number_shown Kind.Int s.maxujobs, (sort_shown s.sort, (is.formula_shown, (number_shown Kind.Double s.w_priority, (number_shown Kind.Double s.w_urgency, (number_shown Kind.Double s.w_ticket, (number_shown Kind.Double s.w_waiting, (number_shown Kind.Double s.w_deadline, (number_shown Kind.Int s.functional, (number_shown Kind.Int s.share, (number_shown Kind.Double s.w_user, (number_shown Kind.Double s.w_project, (number_shown Kind.Double s.w_job, (number_shown Kind.Int s.halftime, (number_shown Kind.Int s.max_reservation, (number_shown Kind.Time s.default_duration, (usage_shown s, (number_shown Kind.Int s.max_pending, tt)))))))))))))))))))
