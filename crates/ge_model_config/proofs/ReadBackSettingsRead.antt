-- What settings are read to without a refusal; so the printed settings of the scheduler read back.
use Rattle.std.proofs.Common.{◌≡◌, ℕ, Bool, true, false, if◌then◌else◌, List, [], ◌∷◌, ◌++◌, fold, Option, Some, None, unwrap_or, refl, subst, codes, ap, ◌∙◌, is_some, cond, Ordering, Less, Equal, Greater}
use Rattle.std.specs.Int.{is_in_range}
use Rattle.std.specs.List.{list_all}
use Rattle.std.specs.BTreeMap.{is_at}
use Rattle.std.specs.Map.{keys_of}
use Rattle.std.specs.Ordering.{match_ordering}
use Rattle.ge_base.specs.declared.refusal.Refusal.{Refusal}
use Rattle.ge_base.specs.declared.refusal.Refusal.TheVariants.{BadValue, NoSuchObject}
use Rattle.ge_collections.specs.Keyed.{at_text, put_text, text_cmp}
use Rattle.ge_model_rows.specs.ClusterRows.{Cluster, default_sched}
use Rattle.ge_model_rows.specs.EntryRows.{Item, ObjectKind}
use Rattle.ge_model_rows.specs.SettingRows.{Sched}
use Rattle.ge_model_rows.specs.ValueRows.{Value, Kind, ComplexDef, infinity}
use Rattle.ge_model_grammar.specs.Names.{is_name}
use Rattle.ge_model_rows.specs.Pieces.{list_items, before_byte, behind_byte}
use Rattle.ge_model_rows.specs.Values.{value_of, amount_in}
use Rattle.ge_model_rows.specs.Complexes.{complex_at}
use Rattle.ge_model_grammar.specs.declared.Body.{Body}
use Rattle.ge_model_grammar.specs.declared.Body.TheVariants.{Attributes}
use Rattle.ge_model_grammar.specs.Bodies.{attribute_in, body_of}
use Rattle.ge_model_config.specs.Cited.{Read, amount_within, number_read}
use Rattle.ge_model_config.specs.Reading.{item_of}
use Rattle.ge_model_config.specs.Settings.{setting, sort_read, formula_faults, formula_read, with_weight_item, weights_read, weight_at, default_weights, sched_item, weight_read}
use Rattle.ge_model_config.proofs.ReadBackTexts.{is_shown}
use Rattle.ge_model_config.proofs.ReadBackNames.{both_empty, name_item, item_shown, known_passes}
use Rattle.ge_model_config.proofs.ReadBackNumbers.{in_range}
use Rattle.ge_model_config.proofs.ReadBack.{ReadsBack, of_bodies}
use Rattle.ge_model_config.proofs.ReadBackSettings.{is_up_to, AreSettings, settings_back}

-- what is read without a refusal
abbrev Within : ℕ → Read ℕ → Type 0
Within high amount = amount.1 ≡ [] → is_up_to high amount.0 ≡ true

abbrev IsFormula : Cluster → Read (List ℕ) → Type 0
IsFormula c formula = formula.1 ≡ [] → (formula_faults (complex_at c formula.0) ≡ []) × (is_shown formula.0 ≡ true)

abbrev IsUpTo : Read ℕ → Type 0
IsUpTo amount = is_up_to infinity amount.0 ≡ true

abbrev AreSmall : List (List ℕ × ℕ) → Type 0
AreSmall [] = Unit {0}
AreSmall (row ∷ rows) = (is_up_to infinity row.1 ≡ true) × AreSmall rows

abbrev AreWeights : Read (List (List ℕ × ℕ)) → Type 0
AreWeights weights = AreSmall weights.0

abbrev pub IsSettings : Cluster → Item → Type 0
IsSettings c (Item.Sched s) = AreSettings c s
IsSettings c _ = ⊥

abbrev SettingsFrom : Cluster → Item × List Refusal → Type 0
SettingsFrom c read = read.1 ≡ [] → IsSettings c read.0

-- ---- what is read without a refusal

-- settings, or their defaults
within : (k : Kind) (high : ℕ) (values : List (List ℕ × List ℕ)) (attribute : List ℕ) (fallback : ℕ) → is_up_to high fallback ≡ true → Within high (setting values attribute fallback (number_read k 0 high))
within k high values attribute fallback fits = by (attribute_in values attribute)
  where
    by : (given : Option (List ℕ)) → Within high (elim given as (λ x. Read ℕ) [ None ↦ (fallback, []) | Some text ↦ number_read k 0 high text ])
    by None none = fits
    by (Some text) none = in_range 0 high (value_of k text) none

formula_named : (c : Cluster) (text : List ℕ) → list_all is_name (keys_of c.complexes) ≡ true → formula_faults (complex_at c text) ≡ [] → is_shown text ≡ true
formula_named c text complexes none = item_shown text (name_item text (known_passes is_name c.complexes text complexes (by (complex_at c text) none)))
  where
    by : (found : Option ComplexDef) → formula_faults found ≡ [] → is_some found ≡ true
    by None none = absurd (let h : NoSuchObject ∷ [] ≡ [] = none in cc)
    by (Some complex) none = refl

-- the load formula is a complex that is there
formula_is : (c : Cluster) (values : List (List ℕ × List ℕ)) → list_all is_name (keys_of c.complexes) ≡ true → formula_faults (complex_at c default_sched.load_formula) ≡ []
    → IsFormula c (setting values (codes "load_formula") default_sched.load_formula (formula_read c))
formula_is c values complexes known = by (attribute_in values (codes "load_formula"))
  where
    by : (given : Option (List ℕ)) → IsFormula c (elim given as (λ x. Read (List ℕ)) [ None ↦ (default_sched.load_formula, []) | Some text ↦ formula_read c text ])
    by None none = (known, formula_named c default_sched.load_formula complexes known)
    by (Some text) none = (none, formula_named c text complexes none)

-- weights in their range, whatever was read
weight_always : (value : Option Value) → is_up_to infinity (amount_within 0 infinity value).0 ≡ true
weight_always None = refl
weight_always (Some value) = by (is_in_range 0 infinity (amount_in value)) refl
  where
    by : (fits : Bool) → is_in_range 0 infinity (amount_in value) ≡ fits → IsUpTo (if fits then (amount_in value, []) else (0, BadValue ∷ []))
    by true is = is
    by false is = refl

put_small : (table : List (List ℕ × ℕ)) (name : List ℕ) (n : ℕ) → is_up_to infinity n ≡ true → AreSmall table → AreSmall (put_text table name n)
put_small [] name n fits small = (fits, tt)
put_small (row ∷ rows) name n fits (first, small) = by (text_cmp name row.0) (put_small rows name n fits small)
  where
    by : (order : Ordering) → AreSmall (put_text rows name n) → AreSmall (match_ordering order ((name, n) ∷ row ∷ rows) ((row.0, n) ∷ rows) (row ∷ put_text rows name n))
    by Less again = (fits, (first, small))
    by Equal again = (fits, small)
    by Greater again = (first, again)

weight_small : (table : List (List ℕ × ℕ)) (name : List ℕ) → AreSmall table → is_up_to infinity (weight_at table name) ≡ true
weight_small [] name small = refl
weight_small (row ∷ rows) name (first, small) = by (is_at (text_cmp name) row.0) (weight_small rows name small)
  where
    by : (here : Bool) → is_up_to infinity (weight_at rows name) ≡ true → is_up_to infinity (unwrap_or (cond here (Some row.1) (at_text rows name)) 0) ≡ true
    by true again = first
    by false again = again

weights_small : (weights : Read (List (List ℕ × ℕ))) (items : List (List ℕ)) → AreSmall weights.0 → AreSmall (fold with_weight_item weights items).0
weights_small weights [] small = small
weights_small weights (item ∷ items) small =
    weights_small (with_weight_item weights item) items (put_small weights.0 (before_byte 61 item) (weight_read item).0 (weight_always (value_of Kind.Double (behind_byte 61 item))) small)

usage_small : (values : List (List ℕ × List ℕ)) → AreWeights (setting values (codes "usage_weight_list") default_weights weights_read)
unfolding default_sched
usage_small values = by (attribute_in values (codes "usage_weight_list"))
  where
    by : (given : Option (List ℕ)) → AreWeights (elim given as (λ x. Read (List (List ℕ × ℕ))) [ None ↦ (default_weights, []) | Some text ↦ weights_read text ])
    by None = (refl, (refl, (refl, tt)))
    by (Some text) = weights_small ([], []) (list_items text) tt

-- what is read without a refusal are settings, where complexes have names and the default load formula is one
pub settings_read : (c : Cluster) (adding : Bool) (text : List ℕ) (body : Body) (thing : Item) → list_all is_name (keys_of c.complexes) ≡ true
    → formula_faults (complex_at c default_sched.load_formula) ≡ [] → body_of ObjectKind.Sched text ≡ Some body → item_of c ObjectKind.Sched adding body ≡ (thing, []) → IsSettings c thing
unfolding item_of sched_item default_sched
settings_read c adding text body thing complexes known parsed is =
    subst (SettingsFrom c) is (of_bodies c ObjectKind.Sched adding text body (SettingsFrom c) (λ lines. refl) each parsed) refl
  where
    each : (values : List (List ℕ × List ℕ)) → SettingsFrom c (item_of c ObjectKind.Sched adding (Attributes values))
    each values none =
        let d = default_sched in
        let interval = setting values (codes "schedule_interval") d.interval (number_read Kind.Time 0 infinity) in
        let maxujobs = setting values (codes "maxujobs") d.maxujobs (number_read Kind.Int 0 infinity) in
        let sort = setting values (codes "queue_sort_method") d.sort sort_read in
        let load_formula = setting values (codes "load_formula") d.load_formula (formula_read c) in
        let w_priority = setting values (codes "weight_priority") d.w_priority (number_read Kind.Double 0 infinity) in
        let w_urgency = setting values (codes "weight_urgency") d.w_urgency (number_read Kind.Double 0 infinity) in
        let w_ticket = setting values (codes "weight_ticket") d.w_ticket (number_read Kind.Double 0 infinity) in
        let w_waiting = setting values (codes "weight_waiting_time") d.w_waiting (number_read Kind.Double 0 infinity) in
        let w_deadline = setting values (codes "weight_deadline") d.w_deadline (number_read Kind.Double 0 infinity) in
        let functional = setting values (codes "weight_tickets_functional") d.functional (number_read Kind.Int 0 1000000000) in
        let share = setting values (codes "weight_tickets_share") d.share (number_read Kind.Int 0 1000000000) in
        let w_user = setting values (codes "weight_user") d.w_user (number_read Kind.Double 0 infinity) in
        let w_project = setting values (codes "weight_project") d.w_project (number_read Kind.Double 0 infinity) in
        let w_job = setting values (codes "weight_job") d.w_job (number_read Kind.Double 0 infinity) in
        let halftime = setting values (codes "halftime") d.halftime (number_read Kind.Int 0 1048575) in
        let max_reservation = setting values (codes "max_reservation") d.max_reservation (number_read Kind.Int 0 infinity) in
        let default_duration = setting values (codes "default_duration") d.default_duration (number_read Kind.Time 0 infinity) in
        let usage = setting values (codes "usage_weight_list") default_weights weights_read in
        let max_pending = setting values (codes "max_pending_tasks_per_job") d.max_pending (number_read Kind.Int 0 infinity) in
        let faults1 = interval.1 ++ maxujobs.1 in
        let faults2 = faults1 ++ sort.1 in
        let faults3 = faults2 ++ load_formula.1 in
        let faults4 = faults3 ++ w_priority.1 in
        let faults5 = faults4 ++ w_urgency.1 in
        let faults6 = faults5 ++ w_ticket.1 in
        let faults7 = faults6 ++ w_waiting.1 in
        let faults8 = faults7 ++ w_deadline.1 in
        let faults9 = faults8 ++ functional.1 in
        let faults10 = faults9 ++ share.1 in
        let faults11 = faults10 ++ w_user.1 in
        let faults12 = faults11 ++ w_project.1 in
        let faults13 = faults12 ++ w_job.1 in
        let faults14 = faults13 ++ halftime.1 in
        let faults15 = faults14 ++ max_reservation.1 in
        let faults16 = faults15 ++ default_duration.1 in
        let faults17 = faults16 ++ usage.1 in
        let parts18 = both_empty faults17 max_pending.1 none in
        let parts17 = both_empty faults16 usage.1 parts18.0 in
        let parts16 = both_empty faults15 default_duration.1 parts17.0 in
        let parts15 = both_empty faults14 max_reservation.1 parts16.0 in
        let parts14 = both_empty faults13 halftime.1 parts15.0 in
        let parts13 = both_empty faults12 w_job.1 parts14.0 in
        let parts12 = both_empty faults11 w_project.1 parts13.0 in
        let parts11 = both_empty faults10 w_user.1 parts12.0 in
        let parts10 = both_empty faults9 share.1 parts11.0 in
        let parts9 = both_empty faults8 functional.1 parts10.0 in
        let parts8 = both_empty faults7 w_deadline.1 parts9.0 in
        let parts7 = both_empty faults6 w_waiting.1 parts8.0 in
        let parts6 = both_empty faults5 w_ticket.1 parts7.0 in
        let parts5 = both_empty faults4 w_urgency.1 parts6.0 in
        let parts4 = both_empty faults3 w_priority.1 parts5.0 in
        let parts3 = both_empty faults2 load_formula.1 parts4.0 in
        let parts2 = both_empty faults1 sort.1 parts3.0 in
        let parts1 = both_empty interval.1 maxujobs.1 parts2.0 in
        record {
          interval = within Kind.Time infinity values (codes "schedule_interval") d.interval refl parts1.0;
          maxujobs = within Kind.Int infinity values (codes "maxujobs") d.maxujobs refl parts1.1;
          formula = (formula_is c values complexes known parts3.1).0;
          formula_shown = (formula_is c values complexes known parts3.1).1;
          w_priority = within Kind.Double infinity values (codes "weight_priority") d.w_priority refl parts4.1;
          w_urgency = within Kind.Double infinity values (codes "weight_urgency") d.w_urgency refl parts5.1;
          w_ticket = within Kind.Double infinity values (codes "weight_ticket") d.w_ticket refl parts6.1;
          w_waiting = within Kind.Double infinity values (codes "weight_waiting_time") d.w_waiting refl parts7.1;
          w_deadline = within Kind.Double infinity values (codes "weight_deadline") d.w_deadline refl parts8.1;
          functional = within Kind.Int 1000000000 values (codes "weight_tickets_functional") d.functional refl parts9.1;
          share = within Kind.Int 1000000000 values (codes "weight_tickets_share") d.share refl parts10.1;
          w_user = within Kind.Double infinity values (codes "weight_user") d.w_user refl parts11.1;
          w_project = within Kind.Double infinity values (codes "weight_project") d.w_project refl parts12.1;
          w_job = within Kind.Double infinity values (codes "weight_job") d.w_job refl parts13.1;
          halftime = within Kind.Int 1048575 values (codes "halftime") d.halftime refl parts14.1;
          max_reservation = within Kind.Int infinity values (codes "max_reservation") d.max_reservation refl parts15.1;
          default_duration = within Kind.Time infinity values (codes "default_duration") d.default_duration refl parts16.1;
          u_cpu = weight_small usage.0 (codes "cpu") (usage_small values);
          u_mem = weight_small usage.0 (codes "mem") (usage_small values);
          u_io = weight_small usage.0 (codes "io") (usage_small values);
          max_pending = within Kind.Int infinity values (codes "max_pending_tasks_per_job") d.max_pending refl parts18.1;
        }

-- settings that were read without a refusal read back
pub settings_read_back : (c : Cluster) (adding : Bool) (text : List ℕ) (body : Body) (thing : Item) → list_all is_name (keys_of c.complexes) ≡ true
    → formula_faults (complex_at c default_sched.load_formula) ≡ [] → body_of ObjectKind.Sched text ≡ Some body → item_of c ObjectKind.Sched adding body ≡ (thing, []) → (ended : Bool)
    → ReadsBack c ObjectKind.Sched thing ended
settings_read_back c adding text body thing complexes known parsed is ended = by thing (settings_read c adding text body thing complexes known parsed is)
  where
    by : (thing : Item) → IsSettings c thing → ReadsBack c ObjectKind.Sched thing ended
    by (Item.Sched s) fits = settings_back c s fits ended
    by _ fits = absurd fits

-- settings are as they are in every cluster with the same complexes
pub settings_still : (c other : Cluster) (s : Sched) → other.complexes ≡ c.complexes → AreSettings c s → AreSettings other s
settings_still c other s same is = record {
  interval = is.interval;
  maxujobs = is.maxujobs;
  formula = ap (λ table. formula_faults (at_text table s.load_formula)) same ∙ is.formula;
  formula_shown = is.formula_shown;
  w_priority = is.w_priority;
  w_urgency = is.w_urgency;
  w_ticket = is.w_ticket;
  w_waiting = is.w_waiting;
  w_deadline = is.w_deadline;
  functional = is.functional;
  share = is.share;
  w_user = is.w_user;
  w_project = is.w_project;
  w_job = is.w_job;
  halftime = is.halftime;
  max_reservation = is.max_reservation;
  default_duration = is.default_duration;
  u_cpu = is.u_cpu;
  u_mem = is.u_mem;
  u_io = is.u_io;
  max_pending = is.max_pending;
}
