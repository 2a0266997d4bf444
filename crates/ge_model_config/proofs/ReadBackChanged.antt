-- An object that was put into the cluster is printed; given as a change, its lines are refused for nothing and change nothing.
use Rattle.std.proofs.Common.{◌≡◌, ℕ, Bool, true, false, not, List, [], ◌++◌, Some, refl, ap, ◌∙◌, ⊎_elim}
use Rattle.std.specs.List.{list_all}
use Rattle.std.proofs.lemmas.Bool.{or_left, or_right, or_cases}
use Rattle.ge_base.specs.declared.refusal.Refusal.TheVariants.{NoSuchObject, BadValue}
use Rattle.ge_collections.specs.Keyed.{put_text}
use Rattle.ge_model_rows.specs.ClusterRows.{Cluster}
use Rattle.ge_model_rows.specs.EntryRows.{Item, ObjectKind}
use Rattle.ge_model_rows.specs.Faults.{when}
use Rattle.ge_model_grammar.specs.declared.Body.{Body}
use Rattle.ge_model_grammar.specs.Bodies.{body_of}
use Rattle.ge_model_grammar.specs.Configuring.{is_name_of}
use Rattle.ge_model_config.specs.Cited.{is_host_or_group, cited, has_name}
use Rattle.ge_model_config.specs.Named.{name_faults}
use Rattle.ge_model_config.specs.Groups.{loops_among}
use Rattle.ge_model_config.specs.Reading.{item_of}
use Rattle.ge_model_config.specs.Printing.{printed}
use Rattle.ge_model_config.proofs.Site.{with_item}
use Rattle.ge_model_config.proofs.ReadBackTexts.{all_weaker}
use Rattle.ge_model_config.proofs.ReadBackBodies.{text_of_lines}
use Rattle.ge_model_config.proofs.ReadBackNames.{HasNames, holds_unless}
use Rattle.ge_model_config.proofs.ReadBackTables.{put_there, put_keeps, put_again}
use Rattle.ge_model_config.proofs.ReadBack.{IsGroup, AreSets, IsRead, faults_of_name}
use Rattle.ge_model_config.proofs.ReadBackObjects.{IsPrinted, object_read, object_back}

-- ---- in the cluster that has the object

-- a host or group that is there still is after a group is put in
known_still : (c : Cluster) (name : List ℕ) (hosts : List (List ℕ)) (other : List ℕ) → is_host_or_group c other ≡ true → is_host_or_group (with_item c (Item.Group name hosts)) other ≡ true
known_still c name hosts other known =
    ⊎_elim
    (λ h. or_left (has_name c.hosts other) _ h)
    (λ h. or_right (has_name c.hosts other) _ (put_keeps c.groups name other hosts h))
    (or_cases (has_name c.hosts other) (has_name c.groups other) known)

group_still : (c : Cluster) (name : List ℕ) (hosts : List (List ℕ)) → IsGroup c name hosts → IsGroup (with_item c (Item.Group name hosts)) name hosts
group_still c name hosts is = record {
  named = is.named;
  listed = is.listed;
  known = ap (λ z. when (not z) NoSuchObject)
      (all_weaker (is_host_or_group c) (is_host_or_group (with_item c (Item.Group name hosts))) (known_still c name hosts) hosts (holds_unless (list_all (is_host_or_group c) hosts) NoSuchObject is.known));
  loops = ap loops_among (put_again c.groups name hosts) ∙ is.loops;
}

sets_still : (c other : Cluster) (sets : List (List ℕ)) → other.sets ≡ c.sets → AreSets c sets → AreSets other sets
sets_still c other sets same is = record { listed = is.listed; known = ap (λ table. cited (has_name table) sets) same ∙ is.known }

-- what was read looks as it did once it is put in
read_still : (c : Cluster) (kind : ObjectKind) (thing : Item) → IsRead c kind thing → IsRead (with_item c thing) kind thing
read_still c ObjectKind.Group (Item.Group name hosts) is = group_still c name hosts is
read_still c ObjectKind.Set (Item.Set name entries) is = is
read_still c ObjectKind.User (Item.User name user) is = is
read_still c ObjectKind.Project (Item.Project name project) is = record {
  named = is.named;
  fshare = is.fshare;
  oticket = is.oticket;
  acl = sets_still c (with_item c (Item.Project name project)) project.acl refl is.acl;
  xacl = sets_still c (with_item c (Item.Project name project)) project.xacl refl is.xacl;
}
read_still c ObjectKind.Pe (Item.Pe name pe) is = record {
  named = is.named;
  slots = is.slots;
  users = sets_still c (with_item c (Item.Pe name pe)) pe.users refl is.users;
  xusers = sets_still c (with_item c (Item.Pe name pe)) pe.xusers refl is.xusers;
  rule = is.rule;
  urgency = is.urgency;
}
read_still c _ _ is = absurd is

-- a name that is there, of the form of its kind, isn't refused as a change
pub change_of : {X : Type 0} (kind : ObjectKind) (most : ℕ) (table : List (List ℕ × X)) (name : List ℕ) (row : X) → is_name_of kind name ≡ true → name_faults kind most (put_text table name row) false name ≡ []
change_of kind most table name row named = λ i. when (not (named i)) BadValue ++ when (not (put_there table name row i)) NoSuchObject

name_there : (c : Cluster) (kind : ObjectKind) (thing : Item) → IsRead c kind thing → faults_of_name (with_item c thing) false thing ≡ []
name_there c ObjectKind.Group (Item.Group name hosts) is = change_of ObjectKind.Group 1024 c.groups name hosts is.named
name_there c ObjectKind.Set (Item.Set name entries) is = change_of ObjectKind.Set 1024 c.sets name entries is.named
name_there c ObjectKind.User (Item.User name user) is = change_of ObjectKind.User 100000 c.users name user is.named
name_there c ObjectKind.Project (Item.Project name project) is = change_of ObjectKind.Project 10000 c.projects name project is.named
name_there c ObjectKind.Pe (Item.Pe name pe) is = change_of ObjectKind.Pe 256 c.pes name pe is.named
name_there c _ _ is = absurd is

put_once : (c : Cluster) (kind : ObjectKind) (thing : Item) → IsRead c kind thing → with_item (with_item c thing) thing ≡ with_item c thing
put_once c ObjectKind.Group (Item.Group name hosts) is = ap (λ rows. record c { groups = rows }) (put_again c.groups name hosts)
put_once c ObjectKind.Set (Item.Set name entries) is = ap (λ rows. record c { sets = rows }) (put_again c.sets name entries)
put_once c ObjectKind.User (Item.User name user) is = ap (λ rows. record c { users = rows }) (put_again c.users name user)
put_once c ObjectKind.Project (Item.Project name project) is = ap (λ rows. record c { projects = rows }) (put_again c.projects name project)
put_once c ObjectKind.Pe (Item.Pe name pe) is = ap (λ rows. record c { pes = rows }) (put_again c.pes name pe)
put_once c _ _ is = absurd is

-- ---- the law

-- the printed lines of an object that was put in are a body, which is accepted as a change, and changes nothing
pub record IsKept (c : Cluster) (kind : ObjectKind) (thing : Item) (ended : Bool) : Type 0 where
  pub body : Body
  pub parsed : body_of kind (text_of_lines ended (printed (with_item c thing) thing)) ≡ Some body
  pub accepted : item_of (with_item c thing) kind false body ≡ (thing, [])
  pub same : with_item (with_item c thing) thing ≡ with_item c thing

-- so it is with what was read without a refusal
pub printed_keeps : (c : Cluster) (kind : ObjectKind) (adding : Bool) (text : List ℕ) (body : Body) (thing : Item) → IsPrinted kind → HasNames c → body_of kind text ≡ Some body
    → item_of c kind adding body ≡ (thing, []) → (ended : Bool) → IsKept c kind thing ended
printed_keeps c kind adding text body thing of names parsed is ended =
    let read = (object_read c kind adding text body thing of names parsed is).0 in
    let back = object_back (with_item c thing) kind thing (read_still c kind thing read) ended in
    record {
      body = back.body;
      parsed = back.parsed;
      accepted = back.again false ∙ ap (λ faults. (thing, faults)) (name_there c kind thing read);
      same = put_once c kind thing read;
    }
