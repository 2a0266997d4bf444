-- qconf -s shows what qconf -A or -M has put, and its lines, given to -M again, are accepted and change nothing.
use Rattle.std.proofs.Common.{◌≡◌, ℕ, Bool, false, List, [], Some, refl, ap, ◌∙◌, append-nil, subst, if◌then◌else◌, eq-eqb}
use Rattle.std.specs.Option.{option_map}
use Rattle.ge_collections.specs.Keyed.{at_text, put_text}
use Rattle.ge_model_rows.specs.ClusterRows.{Cluster, opening_cluster}
use Rattle.ge_model_rows.specs.EntryRows.{Put, Item, ObjectKind}
use Rattle.ge_model_rows.specs.EventRows.{Event}
use Rattle.ge_model_rows.specs.HostRows.{HostRow}
use Rattle.ge_model_rows.specs.SettingRows.{Sched}
use Rattle.ge_model_rows.specs.ValueRows.{Value, ComplexDef}
use Rattle.ge_model_grammar.specs.Names.{is_name}
use Rattle.ge_model_grammar.specs.declared.Body.{Body}
use Rattle.ge_model_grammar.specs.Bodies.{body_of}
use Rattle.ge_model_config.specs.Reading.{item_of}
use Rattle.ge_model_config.specs.Printing.{printed as printed_lines, item_at}
use Rattle.ge_model_config.proofs.ReadBackComplexes.{IsTable, IsTableItem, table_back, complexes_read}
use Rattle.ge_model_config.proofs.ReadBackOpening.{table_still}
use Rattle.ge_model_config.proofs.Site.{with_item as site_with}
use Rattle.ge_model_config.proofs.ReadBack.{IsRead}
use Rattle.ge_model_config.proofs.ReadBackBodies.{text_of_lines}
use Rattle.ge_model_config.proofs.ReadBackNames.{HasNames}
use Rattle.ge_model_config.proofs.ReadBackHosts.{IsHost, KeepsLast, host_back, hosts_read}
use Rattle.ge_model_config.proofs.ReadBackTables.{put_read, put_again, put_passes}
use Rattle.ge_model_config.proofs.ReadBackObjects.{IsPrinted, object_read}
use Rattle.ge_model_config.proofs.ReadBackChanged.{change_of, printed_keeps}
use Rattle.ge_model_config.proofs.ReadBackNamed.{IsWellNamed}
use Rattle.ge_model_config.proofs.ReadBackSettings.{AreSettings, settings_back}
use Rattle.ge_model_config.proofs.ReadBackSettingsRead.{IsSettings, settings_read, settings_still}
use Rattle.ge_model_jobs.specs.Usage.{converted}
use Rattle.ge_model_jobs.specs.Configuring.{load_of, with_item}
use Rattle.ge_model_core.specs.Answers.{changed, shown, done_lines, unless_faulty}
use Rattle.ge_model_core.specs.Configuring.{manager_faults, put, print_plan_of, body_plan_of, body_plan, modify_plan, print_plan}
use Rattle.ge_model_core.specs.Plan.{plan_of}
use Rattle.ge_model_core.specs.Trace.{cluster_after}
use Rattle.ge_model_core.proofs.NamedPlans.{always_named}

-- the name of an object, of the kinds that are spoken of here
abbrev pub name_of : Item → List ℕ
name_of (Item.Host name values) = name
name_of (Item.Group name hosts) = name
name_of (Item.Set name entries) = name
name_of (Item.User name user) = name
name_of (Item.Project name project) = name
name_of (Item.Pe name pe) = name
name_of _ = []

-- an object is shown where it was put
shown_there : (moment : ℕ) (c : Cluster) (kind : ObjectKind) (thing : Item) → IsRead c kind thing → item_at (with_item moment c thing) kind (name_of thing) ≡ Some thing
unfolding item_at with_item
shown_there moment c ObjectKind.Group (Item.Group name hosts) is = ap (option_map (Item.Group name)) (put_read c.groups name hosts)
shown_there moment c ObjectKind.Set (Item.Set name entries) is = ap (option_map (Item.Set name)) (put_read c.sets name entries)
shown_there moment c ObjectKind.User (Item.User name user) is = ap (option_map (Item.User name)) (put_read c.users name user)
shown_there moment c ObjectKind.Project (Item.Project name project) is = ap (option_map (Item.Project name)) (put_read c.projects name project)
shown_there moment c ObjectKind.Pe (Item.Pe name pe) is = ap (option_map (Item.Pe name)) (put_read c.pes name pe)
shown_there moment c _ _ is = absurd is

-- what the laws of bodies put into a cluster is what an entry puts there
same_put : (moment : ℕ) (c : Cluster) (kind : ObjectKind) (thing : Item) → IsRead c kind thing → site_with c thing ≡ with_item moment c thing
unfolding with_item
same_put moment c ObjectKind.Group (Item.Group name hosts) is = refl
same_put moment c ObjectKind.Set (Item.Set name entries) is = refl
same_put moment c ObjectKind.User (Item.User name user) is = refl
same_put moment c ObjectKind.Project (Item.Project name project) is = refl
same_put moment c ObjectKind.Pe (Item.Pe name pe) is = refl
same_put moment c _ _ is = absurd is

put_twice : (moment later : ℕ) (c : Cluster) (kind : ObjectKind) (thing : Item) → IsRead c kind thing → with_item later (with_item moment c thing) thing ≡ with_item moment c thing
unfolding with_item
put_twice moment later c ObjectKind.Group (Item.Group name hosts) is = ap (λ rows. record c { groups = rows }) (put_again c.groups name hosts)
put_twice moment later c ObjectKind.Set (Item.Set name entries) is = ap (λ rows. record c { sets = rows }) (put_again c.sets name entries)
put_twice moment later c ObjectKind.User (Item.User name user) is = ap (λ rows. record c { users = rows }) (put_again c.users name user)
put_twice moment later c ObjectKind.Project (Item.Project name project) is = ap (λ rows. record c { projects = rows }) (put_again c.projects name project)
put_twice moment later c ObjectKind.Pe (Item.Pe name pe) is = ap (λ rows. record c { pes = rows }) (put_again c.pes name pe)
put_twice moment later c _ _ is = absurd is

-- ---- the law

-- in the cluster that an object was put into it is shown; a manager who gives its lines as a change, with or without a line feed behind the last as that may be, is
-- answered with done, and the cluster stays as it is
pub record IsShownWhere (ends : Bool → Type 0) (moment : ℕ) (c : Cluster) (kind : ObjectKind) (thing : Item) : Type 0 where
  pub printed : print_plan (with_item moment c thing) (record { kind = kind; name = name_of thing }) ≡ shown (printed_lines (with_item moment c thing) thing)
  pub accepted : (e : Event) (ended : Bool) → ends ended → modify_plan (with_item moment c thing) e kind (text_of_lines ended (printed_lines (with_item moment c thing) thing))
      ≡ unless_faulty (manager_faults (with_item moment c thing) e) (changed e (Put thing) done_lines)
  pub same : (later : ℕ) → with_item later (with_item moment c thing) thing ≡ with_item moment c thing

-- with and without
abbrev pub IsShownBack : ℕ → Cluster → ObjectKind → Item → Type 0
IsShownBack moment c kind thing = IsShownWhere (λ ended. Unit {0}) moment c kind thing

-- so it is with each object whose body was accepted where tables have names alone
pub shown_back : (moment : ℕ) (c : Cluster) (kind : ObjectKind) (adding : Bool) (text : List ℕ) (body : Body) (thing : Item) → IsPrinted kind → HasNames c → body_of kind text ≡ Some body
    → item_of c kind adding body ≡ (thing, []) → IsShownBack moment c kind thing
unfolding print_plan body_plan
shown_back moment c kind adding text body thing of names parsed is = record {
  printed = ap (print_plan_of (with_item moment c thing)) (shown_there moment c kind thing read);
  accepted = λ e ended any.
      let again = back ended in
      ap (body_plan_of (with_item moment c thing) e kind false) again.1
      ∙ ap (put (with_item moment c thing) e) again.2
      ∙ ap (λ faults. unless_faulty faults (changed e (Put thing) done_lines)) (append-nil (manager_faults (with_item moment c thing) e));
  same = λ later. put_twice moment later c kind thing read;
}
  where
    read : IsRead c kind thing
    read = (object_read c kind adding text body thing of names parsed is).0

    Again : Bool → Cluster → Type 0
    Again ended other = (again : Body) × (body_of kind (text_of_lines ended (printed_lines other thing)) ≡ Some again) × (item_of other kind false again ≡ (thing, []))

    back : (ended : Bool) → Again ended (with_item moment c thing)
    back ended = let kept = printed_keeps c kind adding text body thing of names parsed is ended in subst (Again ended) (same_put moment c kind thing read) (kept.body, kept.parsed, kept.accepted)

-- and with the settings of the scheduler
settings_shown : (moment : ℕ) (c : Cluster) (s : Sched) → AreSettings c s → IsShownBack moment c ObjectKind.Sched (Item.Sched s)
unfolding print_plan body_plan item_at with_item
settings_shown moment c s is = record {
  printed = refl;
  accepted = λ e ended any.
      let back = settings_back (with_item moment c (Item.Sched s)) s (settings_still c (with_item moment c (Item.Sched s)) s refl is) ended in
      ap (body_plan_of (with_item moment c (Item.Sched s)) e ObjectKind.Sched false) back.parsed
      ∙ ap (put (with_item moment c (Item.Sched s)) e) (back.again false)
      ∙ ap (λ faults. unless_faulty faults (changed e (Put (Item.Sched s)) done_lines)) (append-nil (manager_faults (with_item moment c (Item.Sched s)) e));
  same = λ later. ap (λ z. record (with_item moment c (Item.Sched s)) {
    usage = if z then (with_item moment c (Item.Sched s)).usage else converted later s.halftime s.halftime (with_item moment c (Item.Sched s)).usage;
  }) (eq-eqb s.halftime s.halftime refl);
}

pub settings_shown_back : (moment : ℕ) (c : Cluster) (adding : Bool) (text : List ℕ) (body : Body) (thing : Item) → IsWellNamed c → body_of ObjectKind.Sched text ≡ Some body
    → item_of c ObjectKind.Sched adding body ≡ (thing, []) → IsShownBack moment c ObjectKind.Sched thing
settings_shown_back moment c adding text body thing named parsed is = by thing (settings_read c adding text body thing named.names.complexes named.formula parsed is)
  where
    by : (thing : Item) → IsSettings c thing → IsShownBack moment c ObjectKind.Sched thing
    by (Item.Sched s) fits = settings_shown moment c s fits
    by _ fits = absurd fits

-- and with a host, but where a line feed ends its last line and that line a backslash
host_shown : (moment : ℕ) (c : Cluster) (name : List ℕ) (table : List (List ℕ × Value)) → HasNames c → IsHost c name table → IsShownWhere (KeepsLast c table) moment c ObjectKind.Host (Item.Host name table)
unfolding print_plan body_plan item_at with_item
host_shown moment c name table names is = record {
  printed = ap (λ host. print_plan_of after (option_map (λ host. Item.Host name host.values) host)) (put_read c.hosts name row);
  accepted = λ e ended last.
      let back = host_back after name table names_after (record { named = is.named; values = is.values }) ended last in
      ap (body_plan_of after e ObjectKind.Host false) back.parsed
      ∙ ap (put after e) (back.again false ∙ ap (λ faults. (Item.Host name table, faults)) (change_of ObjectKind.Host 4096 c.hosts name row is.named))
      ∙ ap (λ faults. unless_faulty faults (changed e (Put (Item.Host name table)) done_lines)) (append-nil (manager_faults after e));
  same = λ later.
      ap (λ host. record c { hosts = put_text (put_text c.hosts name row) name (record { values = table; load = load_of host }) }) (put_read c.hosts name row)
      ∙ ap (λ rows. record c { hosts = rows }) (put_again c.hosts name row);
}
  where
    row : HostRow
    row = record { values = table; load = load_of (at_text c.hosts name) }

    after : Cluster
    after = record c { hosts = put_text c.hosts name row }

    names_after : HasNames after
    names_after = record { hosts = put_passes is_name c.hosts name row is.named names.hosts; groups = names.groups; sets = names.sets; complexes = names.complexes }

pub host_shown_back : (moment : ℕ) (c : Cluster) (adding : Bool) (text : List ℕ) (body : Body) (name : List ℕ) (table : List (List ℕ × Value)) → HasNames c → body_of ObjectKind.Host text ≡ Some body
    → item_of c ObjectKind.Host adding body ≡ (Item.Host name table, []) → IsShownWhere (KeepsLast c table) moment c ObjectKind.Host (Item.Host name table)
host_shown_back moment c adding text body name table names parsed is = host_shown moment c name table names (hosts_read c adding text body (Item.Host name table) parsed is).0

-- and with the table of complexes, which is put in place of the whole
complexes_shown : (moment : ℕ) (c : Cluster) (table : List (List ℕ × ComplexDef)) → IsTable c table → IsShownBack moment c ObjectKind.Complexes (Item.Complexes table)
unfolding print_plan body_plan item_at with_item
complexes_shown moment c table is = record {
  printed = refl;
  accepted = λ e ended any.
      let back = table_back after table (table_still c after table refl is) ended in
      ap (body_plan_of after e ObjectKind.Complexes false) back.parsed
      ∙ ap (put after e) back.again
      ∙ ap (λ faults. unless_faulty faults (changed e (Put (Item.Complexes table)) done_lines)) (append-nil (manager_faults after e));
  same = λ later. refl;
}
  where
    after : Cluster
    after = record c { complexes = table }

pub complexes_shown_back : (moment : ℕ) (c : Cluster) (adding : Bool) (text : List ℕ) (body : Body) (thing : Item) → IsWellNamed c → body_of ObjectKind.Complexes text ≡ Some body
    → item_of c ObjectKind.Complexes adding body ≡ (thing, []) → IsShownBack moment c ObjectKind.Complexes thing
complexes_shown_back moment c adding text body thing named parsed is = by thing (complexes_read c adding text body thing (λ h. named.rows) parsed is)
  where
    by : (thing : Item) → IsTableItem c thing → IsShownBack moment c ObjectKind.Complexes thing
    by (Item.Complexes table) fits = complexes_shown moment c table fits
    by _ fits = absurd fits

-- and so it is wherever events lead from the opening cluster
pub always_shown_back : (events : List Event) (marks : List Bool) (moment : ℕ) (kind : ObjectKind) (adding : Bool) (text : List ℕ) (body : Body) (thing : Item) → IsPrinted kind
    → body_of kind text ≡ Some body → item_of (cluster_after plan_of opening_cluster events marks) kind adding body ≡ (thing, [])
    → IsShownBack moment (cluster_after plan_of opening_cluster events marks) kind thing
always_shown_back events marks moment kind adding text body thing of =
    shown_back moment (cluster_after plan_of opening_cluster events marks) kind adding text body thing of (always_named events marks).names

pub always_settings_shown_back : (events : List Event) (marks : List Bool) (moment : ℕ) (adding : Bool) (text : List ℕ) (body : Body) (thing : Item) → body_of ObjectKind.Sched text ≡ Some body
    → item_of (cluster_after plan_of opening_cluster events marks) ObjectKind.Sched adding body ≡ (thing, []) → IsShownBack moment (cluster_after plan_of opening_cluster events marks) ObjectKind.Sched thing
always_settings_shown_back events marks moment adding text body thing =
    settings_shown_back moment (cluster_after plan_of opening_cluster events marks) adding text body thing (always_named events marks)

pub always_host_shown_back : (events : List Event) (marks : List Bool) (moment : ℕ) (adding : Bool) (text : List ℕ) (body : Body) (name : List ℕ) (table : List (List ℕ × Value))
    → body_of ObjectKind.Host text ≡ Some body → item_of (cluster_after plan_of opening_cluster events marks) ObjectKind.Host adding body ≡ (Item.Host name table, [])
    → IsShownWhere (KeepsLast (cluster_after plan_of opening_cluster events marks) table) moment (cluster_after plan_of opening_cluster events marks) ObjectKind.Host (Item.Host name table)
always_host_shown_back events marks moment adding text body name table =
    host_shown_back moment (cluster_after plan_of opening_cluster events marks) adding text body name table (always_named events marks).names

pub always_complexes_shown_back : (events : List Event) (marks : List Bool) (moment : ℕ) (adding : Bool) (text : List ℕ) (body : Body) (thing : Item) → body_of ObjectKind.Complexes text ≡ Some body
    → item_of (cluster_after plan_of opening_cluster events marks) ObjectKind.Complexes adding body ≡ (thing, []) → IsShownBack moment (cluster_after plan_of opening_cluster events marks) ObjectKind.Complexes thing
always_complexes_shown_back events marks moment adding text body thing =
    complexes_shown_back moment (cluster_after plan_of opening_cluster events marks) adding text body thing (always_named events marks)
