-- What an object looks like that was read without a refusal, and what it is that its printed lines read back.
use Rattle.std.proofs.Common.{◌≡◌, ℕ, ◌-◌, ◌^◌, Bool, true, false, List, [], Some, refl, subst}
use Rattle.std.specs.Int.{is_in_range}
use Rattle.std.specs.List.{list_all}
use Rattle.ge_base.specs.declared.refusal.Refusal.{Refusal}
use Rattle.ge_collections.specs.Keyed.{put_text}
use Rattle.ge_model_rows.specs.ClusterRows.{Cluster}
use Rattle.ge_model_rows.specs.EntryRows.{Item, ObjectKind}
use Rattle.ge_model_rows.specs.PeRows.{PeRow, Allocation, UrgencySlots}
use Rattle.ge_model_rows.specs.PeopleRows.{UserRow, ProjectRow}
use Rattle.ge_model_rows.specs.ValueRows.{infinity}
use Rattle.ge_model_grammar.specs.Names.{is_name}
use Rattle.ge_model_grammar.specs.declared.Body.{Body}
use Rattle.ge_model_grammar.specs.declared.Body.TheVariants.{Attributes}
use Rattle.ge_model_grammar.specs.Bodies.{body_of}
use Rattle.ge_model_grammar.specs.Configuring.{is_group_name}
use Rattle.ge_model_config.specs.Cited.{has_name, cited, is_host_or_group}
use Rattle.ge_model_config.specs.Named.{name_faults}
use Rattle.ge_model_config.specs.Groups.{loops_among}
use Rattle.ge_model_config.specs.UserSets.{is_member_name}
use Rattle.ge_model_config.specs.Reading.{item_of}
use Rattle.ge_model_config.specs.Printing.{printed}
use Rattle.ge_model_config.proofs.ReadBackBodies.{text_of_lines, HasAttributes, IsAttributes, are_attributes}
use Rattle.ge_model_config.proofs.ReadBackLists.{is_only_none, IsList}

-- ---- what is read

-- a group: the name of a group, a list of hosts and groups that the cluster has, and no loop
pub record IsGroup (c : Cluster) (name : List ℕ) (hosts : List (List ℕ)) : Type 0 where
  pub named : is_group_name name ≡ true
  pub listed : IsList hosts
  pub known : cited (is_host_or_group c) hosts ≡ []
  pub loops : loops_among (put_text c.groups name hosts) ≡ []

-- a user set: a name, and users and user groups
pub record IsSet (name : List ℕ) (entries : List (List ℕ)) : Type 0 where
  pub named : is_name name ≡ true
  pub members : list_all is_member_name entries ≡ true
  pub others : is_only_none entries ≡ false

-- tickets and shares are below 2^32
abbrev pub are_tickets : ℕ → Bool
are_tickets n = is_in_range 0 (2 ^ 32 - 1) n

-- a user
pub record IsUser (name : List ℕ) (user : UserRow) : Type 0 where
  pub named : is_name name ≡ true
  pub fshare : are_tickets user.fshare ≡ true
  pub oticket : are_tickets user.oticket ≡ true

-- user sets that the cluster has
pub record AreSets (c : Cluster) (sets : List (List ℕ)) : Type 0 where
  pub listed : IsList sets
  pub known : cited (has_name c.sets) sets ≡ []

-- a project
pub record IsProject (c : Cluster) (name : List ℕ) (project : ProjectRow) : Type 0 where
  pub named : is_name name ≡ true
  pub fshare : are_tickets project.fshare ≡ true
  pub oticket : are_tickets project.oticket ≡ true
  pub acl : AreSets c project.acl
  pub xacl : AreSets c project.xacl

-- slots that a parallel environment gives to each host, or that urgency assumes
abbrev pub are_slots : ℕ → Bool
are_slots n = is_in_range 1 1000000 n

abbrev pub IsAllocation : Allocation → Type 0
IsAllocation (Allocation.Fixed n) = are_slots n ≡ true
IsAllocation _ = Unit {0}

abbrev pub IsAssumed : UrgencySlots → Type 0
IsAssumed (UrgencySlots.Fixed n) = are_slots n ≡ true
IsAssumed _ = Unit {0}

-- a parallel environment
pub record IsEnvironment (c : Cluster) (name : List ℕ) (pe : PeRow) : Type 0 where
  pub named : is_name name ≡ true
  pub slots : is_in_range 0 infinity pe.slots ≡ true
  pub users : AreSets c pe.users
  pub xusers : AreSets c pe.xusers
  pub rule : IsAllocation pe.rule
  pub urgency : IsAssumed pe.urgency_slots

-- what a body of a kind is read to without a refusal; the other kinds aren't spoken of here
abbrev pub IsRead : Cluster → ObjectKind → Item → Type 0
IsRead c ObjectKind.Group (Item.Group name hosts) = IsGroup c name hosts
IsRead c ObjectKind.Set (Item.Set name entries) = IsSet name entries
IsRead c ObjectKind.User (Item.User name user) = IsUser name user
IsRead c ObjectKind.Project (Item.Project name project) = IsProject c name project
IsRead c ObjectKind.Pe (Item.Pe name pe) = IsEnvironment c name pe
IsRead c _ _ = ⊥

-- ---- what is read back

-- the refusals of an object's name, the only ones that depend on whether it is added or changed
abbrev pub faults_of_name : Cluster → Bool → Item → List Refusal
faults_of_name c adding (Item.Host name values) = name_faults ObjectKind.Host 4096 c.hosts adding name
faults_of_name c adding (Item.Group name hosts) = name_faults ObjectKind.Group 1024 c.groups adding name
faults_of_name c adding (Item.Set name entries) = name_faults ObjectKind.Set 1024 c.sets adding name
faults_of_name c adding (Item.User name user) = name_faults ObjectKind.User 100000 c.users adding name
faults_of_name c adding (Item.Project name project) = name_faults ObjectKind.Project 10000 c.projects adding name
faults_of_name c adding (Item.Pe name pe) = name_faults ObjectKind.Pe 256 c.pes adding name
faults_of_name c adding _ = []

-- the printed lines of an object, joined by line feeds, with or without one behind the last, are a body. It is read to the object again, and refused
-- for nothing but its name, which has to be free where it is added and there where it is changed
pub record ReadsBack (c : Cluster) (kind : ObjectKind) (thing : Item) (ended : Bool) : Type 0 where
  pub body : Body
  pub parsed : body_of kind (text_of_lines ended (printed c thing)) ≡ Some body
  pub again : (adding : Bool) → item_of c kind adding body ≡ (thing, faults_of_name c adding thing)

-- ---- from attributes to bodies

-- what is read without a refusal is what a body of the kind is read to
abbrev pub ReadFrom : Cluster → ObjectKind → Bool → Item × List Refusal → Type 0
ReadFrom c kind adding read = read.1 ≡ [] → IsRead c kind read.0 × (faults_of_name c adding read.0 ≡ [])

-- what holds of all attributes of a kind holds of each text that is one of its bodies
pub of_bodies : (c : Cluster) (kind : ObjectKind) (adding : Bool) (text : List ℕ) (body : Body) (P : Item × List Refusal → Type 0) → HasAttributes kind
    → ((values : List (List ℕ × List ℕ)) → P (item_of c kind adding (Attributes values))) → body_of kind text ≡ Some body → P (item_of c kind adding body)
of_bodies c kind adding text body P has each parsed = by body (subst IsAttributes parsed (are_attributes kind text has))
  where
    by : (body : Body) → IsAttributes (Some body) → P (item_of c kind adding body)
    by (Attributes values) fits = each values
    by _ fits = absurd fits

pub read_from : (c : Cluster) (kind : ObjectKind) (adding : Bool) (text : List ℕ) (body : Body) (thing : Item) → HasAttributes kind
    → ((values : List (List ℕ × List ℕ)) → ReadFrom c kind adding (item_of c kind adding (Attributes values)))
    → body_of kind text ≡ Some body → item_of c kind adding body ≡ (thing, []) → IsRead c kind thing × (faults_of_name c adding thing ≡ [])
read_from c kind adding text body thing has each parsed is =
    subst (ReadFrom c kind adding) is (of_bodies c kind adding text body (ReadFrom c kind adding) has each parsed) refl
