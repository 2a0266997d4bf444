-- Printed objects are read again, and shown objects are taken again: from the laws of bodies.
use Rattle.std.proofs.Common.{◌≡◌, ℕ, Bool, true, false, List, Ok, refl, sym, ap, subst, ◌∙◌, true≢false}
use Rattle.ge_model_rows.specs.ClusterRows.{Cluster}
use Rattle.ge_model_rows.specs.EntryRows.{Item, ObjectKind}
use Rattle.ge_model_rows.specs.EventRows.{Event}
use Rattle.ge_model_rows.specs.SettingRows.{Sched}
use Rattle.ge_model_rows.specs.ValueRows.{Value, ComplexDef}
use Rattle.ge_model_config.specs.Printing.{printed as printed_lines}
use Rattle.ge_model_config.specs.Reading.{body_read}
use Rattle.ge_model_config.proofs.Answered.{printed_answered}
use Rattle.ge_model_config.proofs.ReadBackBodies.{text_of_lines}
use Rattle.ge_model_config.proofs.ReadBackComplexes.{complexes_read_back}
use Rattle.ge_model_config.proofs.ReadBackHosts.{hosts_read, hosts_read_back}
use Rattle.ge_model_config.proofs.ReadBackNames.{HasNames}
use Rattle.ge_model_config.proofs.ReadBackObjects.{IsPrinted, printed_reads_back}
use Rattle.ge_model_config.proofs.ReadBackSettingsRead.{settings_read_back}
use Rattle.ge_model_core.proofs.NamedPlans.{always_named}
use Rattle.ge_model_core.proofs.ShownBack.{IsShownWhere, always_shown_back, always_settings_shown_back, always_complexes_shown_back, always_host_shown_back}
use Rattle.ge_laws.specs.PrintedObjects.{reached, IsNamed, IsListed, printed_text, IsReadAs, EndsPlainly, IsShownAgain}

pub names_reached : (events : List Event) (marks : List Bool) → IsNamed (reached events marks)
names_reached events marks =
    let is = always_named events marks in
    record { hosts = is.names.hosts; groups = is.names.groups; sets = is.names.sets; complexes = is.names.complexes; formula = is.formula }

names_of : (c : Cluster) → IsNamed c → HasNames c
names_of c is = record { hosts = is.hosts; groups = is.groups; sets = is.sets; complexes = is.complexes }

printed_kind : (kind : ObjectKind) → IsListed kind → IsPrinted kind
printed_kind ObjectKind.Group is = tt
printed_kind ObjectKind.Set is = tt
printed_kind ObjectKind.User is = tt
printed_kind ObjectKind.Project is = tt
printed_kind ObjectKind.Pe is = tt
printed_kind _ is = absurd is

same_text : (ended : Bool) (c : Cluster) (thing : Item) → text_of_lines ended (printed_lines c thing) ≡ printed_text ended c thing
same_text true c thing = refl
same_text false c thing = refl

pub listed_again : (c : Cluster) (kind : ObjectKind) → IsListed kind → IsNamed c → (adding : Bool) (text : List ℕ) (thing : Item) → IsReadAs c kind adding text thing
    → (ended : Bool) → IsReadAs c kind adding (printed_text ended c thing) thing
listed_again c kind of named adding text thing read ended =
    let again = printed_reads_back c kind adding text read.0 thing (printed_kind kind of) (names_of c named) read.1 read.2 ended in
    subst (λ t. IsReadAs c kind adding t thing) (same_text ended c thing) (again.0, again.1, again.2)

pub answered_again : (c : Cluster) (kind : ObjectKind) → IsListed kind → IsNamed c → (adding : Bool) (text : List ℕ) (thing : Item) → body_read c kind adding text ≡ Ok thing
    → (ended : Bool) → body_read c kind adding (printed_text ended c thing) ≡ Ok thing
answered_again c kind of named adding text thing read ended =
    subst (λ t. body_read c kind adding t ≡ Ok thing) (same_text ended c thing) (printed_answered c kind adding text thing (printed_kind kind of) (names_of c named) read ended)

pub settings_again : (c : Cluster) (adding : Bool) (text : List ℕ) (sched : Sched) → IsNamed c → IsReadAs c ObjectKind.Sched adding text (Item.Sched sched)
    → (ended : Bool) → IsReadAs c ObjectKind.Sched adding (printed_text ended c (Item.Sched sched)) (Item.Sched sched)
settings_again c adding text sched named read ended =
    let again = settings_read_back c adding text read.0 (Item.Sched sched) named.complexes named.formula read.1 read.2 ended in
    subst (λ t. IsReadAs c ObjectKind.Sched adding t (Item.Sched sched)) (same_text ended c (Item.Sched sched)) (again.body, again.parsed, again.again adding)

pub complexes_again : (c : Cluster) (text : List ℕ) (table : List (List ℕ × ComplexDef)) → IsReadAs c ObjectKind.Complexes false text (Item.Complexes table)
    → (ended : Bool) → IsReadAs c ObjectKind.Complexes false (printed_text ended c (Item.Complexes table)) (Item.Complexes table)
complexes_again c text table read ended =
    let again = complexes_read_back c false text read.0 table (λ is. absurd (true≢false (sym is))) read.1 read.2 ended in
    subst (λ t. IsReadAs c ObjectKind.Complexes false t (Item.Complexes table)) (same_text ended c (Item.Complexes table)) (again.body, again.parsed, again.again)

pub host_again : (c : Cluster) (adding : Bool) (text name : List ℕ) (values : List (List ℕ × Value)) → IsNamed c → IsReadAs c ObjectKind.Host adding text (Item.Host name values)
    → (ended : Bool) → EndsPlainly c values ended → IsReadAs c ObjectKind.Host adding (printed_text ended c (Item.Host name values)) (Item.Host name values)
host_again c adding text name values named read ended last =
    let again = hosts_read_back c adding text read.0 name values (names_of c named) read.1 read.2 ended last in
    let free = (hosts_read c adding text read.0 (Item.Host name values) read.1 read.2).1 in
    subst (λ t. IsReadAs c ObjectKind.Host adding t (Item.Host name values)) (same_text ended c (Item.Host name values))
    (again.body, again.parsed, again.again adding ∙ ap (λ faults. (Item.Host name values, faults)) free)

-- ---- shown and taken again

shown_again : (ends : Bool → Type 0) (moment : ℕ) (c : Cluster) (kind : ObjectKind) (thing : Item) → IsShownWhere ends moment c kind thing → (ended : Bool) → ends ended → IsShownAgain moment c kind thing ended
shown_again ends moment c kind thing is true here = record { printed = is.printed; accepted = λ e. is.accepted e true here; same = is.same }
shown_again ends moment c kind thing is false here = record { printed = is.printed; accepted = λ e. is.accepted e false here; same = is.same }

pub listed_shown : (events : List Event) (marks : List Bool) (moment : ℕ) (kind : ObjectKind) → IsListed kind → (adding : Bool) (text : List ℕ) (thing : Item)
    → IsReadAs (reached events marks) kind adding text thing → (ended : Bool) → IsShownAgain moment (reached events marks) kind thing ended
listed_shown events marks moment kind of adding text thing read ended =
    shown_again (λ ended. Unit {0}) moment (reached events marks) kind thing (always_shown_back events marks moment kind adding text read.0 thing (printed_kind kind of) read.1 read.2) ended tt

pub settings_shown : (events : List Event) (marks : List Bool) (moment : ℕ) (adding : Bool) (text : List ℕ) (thing : Item)
    → IsReadAs (reached events marks) ObjectKind.Sched adding text thing → (ended : Bool) → IsShownAgain moment (reached events marks) ObjectKind.Sched thing ended
settings_shown events marks moment adding text thing read ended =
    shown_again (λ ended. Unit {0}) moment (reached events marks) ObjectKind.Sched thing (always_settings_shown_back events marks moment adding text read.0 thing read.1 read.2) ended tt

pub complexes_shown : (events : List Event) (marks : List Bool) (moment : ℕ) (adding : Bool) (text : List ℕ) (thing : Item)
    → IsReadAs (reached events marks) ObjectKind.Complexes adding text thing → (ended : Bool) → IsShownAgain moment (reached events marks) ObjectKind.Complexes thing ended
complexes_shown events marks moment adding text thing read ended =
    shown_again (λ ended. Unit {0}) moment (reached events marks) ObjectKind.Complexes thing (always_complexes_shown_back events marks moment adding text read.0 thing read.1 read.2) ended tt

pub host_shown : (events : List Event) (marks : List Bool) (moment : ℕ) (adding : Bool) (text name : List ℕ) (values : List (List ℕ × Value))
    → IsReadAs (reached events marks) ObjectKind.Host adding text (Item.Host name values) → (ended : Bool) → EndsPlainly (reached events marks) values ended
    → IsShownAgain moment (reached events marks) ObjectKind.Host (Item.Host name values) ended
host_shown events marks moment adding text name values read ended last =
    shown_again (EndsPlainly (reached events marks) values) moment (reached events marks) ObjectKind.Host (Item.Host name values)
    (always_host_shown_back events marks moment adding text read.0 name values read.1 read.2) ended last
