-- Printed user sets, users and projects read back.
use Rattle.std.proofs.Common.{◌≡◌, ℕ, ◌-◌, ◌^◌, ◌≤◌, Bool, true, not, List, [], ◌∷◌, ◌++◌, Some, decimal, refl, ap, ◌∙◌, arith, ⊎_elim, codes}
use Rattle.std.specs.List.{list_all}
use Rattle.std.proofs.lemmas.Bool.{or_cases}
use Rattle.ge_base.specs.declared.refusal.Refusal.TheVariants.{BadValue}
use Rattle.ge_model_rows.specs.ClusterRows.{Cluster}
use Rattle.ge_model_rows.specs.EntryRows.{Item, ObjectKind}
use Rattle.ge_model_rows.specs.PeopleRows.{UserRow, ProjectRow}
use Rattle.ge_model_rows.specs.ValueRows.{Kind}
use Rattle.ge_model_grammar.specs.Names.{is_name}
use Rattle.ge_model_rows.specs.Faults.{when}
use Rattle.ge_model_rows.specs.Pieces.{list_items, list_text}
use Rattle.ge_model_rows.specs.Values.{value_of}
use Rattle.ge_model_grammar.specs.declared.Body.{Body}
use Rattle.ge_model_grammar.specs.declared.Body.TheVariants.{Attributes}
use Rattle.ge_model_grammar.specs.Bodies.{body_of}
use Rattle.ge_model_grammar.specs.Configuring.{is_group_name}
use Rattle.ge_model_config.specs.Cited.{Read, number_read, has_name, cited, given, none_text}
use Rattle.ge_model_config.specs.Named.{name_faults}
use Rattle.ge_model_config.specs.UserSets.{is_member_name, set_item}
use Rattle.ge_model_config.specs.People.{tickets_read, user_item, project_item}
use Rattle.ge_model_config.specs.Reading.{item_of}
use Rattle.ge_model_config.specs.Printing.{printed}
use Rattle.ge_model_config.proofs.ReadBackTexts.{all_weaker}
use Rattle.ge_model_config.proofs.ReadBackBodies.{body_back}
use Rattle.ge_model_config.proofs.ReadBackLists.{is_item, IsList, list_shown, list_back}
use Rattle.ge_model_config.proofs.ReadBackItems.{not_only_none}
use Rattle.ge_model_config.proofs.ReadBackNames.{HasNames, name_item, group_name_item, item_shown, known_set_item, both_empty, none_behind, holds_unless, named_by, names_list}
use Rattle.ge_model_config.proofs.ReadBackNumbers.{number_back, in_range, decimal_shown}
use Rattle.ge_model_config.proofs.ReadBack.{IsSet, are_tickets, IsUser, AreSets, IsProject, IsRead, faults_of_name, ReadsBack, ReadFrom, read_from}

-- ---- user sets

member_item : (entry : List ℕ) → is_member_name entry ≡ true → is_item entry ≡ true
member_item entry is = ⊎_elim (name_item entry) (group_name_item entry) (or_cases (is_name entry) (is_group_name entry) is)

-- its entries are a list
entries_list : (name : List ℕ) (entries : List (List ℕ)) → IsSet name entries → IsList entries
entries_list name entries is = record { pass = all_weaker is_member_name is_item member_item entries is.members; others = is.others }

-- a user set is printed as it is read
pub set_back : (c : Cluster) (name : List ℕ) (entries : List (List ℕ)) → IsSet name entries → (ended : Bool) → ReadsBack c ObjectKind.Set (Item.Set name entries) ended
unfolding printed item_of set_item
set_back c name entries is ended = record {
  body = Attributes ((codes "name", name) ∷ (codes "entries", list_text entries) ∷ []);
  parsed = body_back ObjectKind.Set (codes "name", name) ((codes "entries", list_text entries) ∷ []) ended (λ lines. refl) refl refl
      (item_shown name (name_item name is.named), (list_shown entries list.pass, tt));
  again = λ adding.
      ap (λ z. (Item.Set name z, name_faults ObjectKind.Set 1024 c.sets adding name ++ when (not (list_all is_member_name z)) BadValue)) (list_back entries list)
      ∙ ap (λ z. (Item.Set name entries, z)) (none_behind (name_faults ObjectKind.Set 1024 c.sets adding name) _ (ap (λ z. when (not z) BadValue) is.members));
}
  where
    list : IsList entries
    list = entries_list name entries is

-- what is read without a refusal is a user set
pub sets_read : (c : Cluster) (adding : Bool) (text : List ℕ) (body : Body) (thing : Item) → body_of ObjectKind.Set text ≡ Some body
    → item_of c ObjectKind.Set adding body ≡ (thing, []) → IsRead c ObjectKind.Set thing × (faults_of_name c adding thing ≡ [])
unfolding item_of set_item
sets_read c adding text body thing = read_from c ObjectKind.Set adding text body thing (λ lines. refl) each
  where
    each : (values : List (List ℕ × List ℕ)) → ReadFrom c ObjectKind.Set adding (item_of c ObjectKind.Set adding (Attributes values))
    each values none =
        let name = given values (codes "name") [] in
        let entries = given values (codes "entries") none_text in
        let fit = list_all is_member_name (list_items entries) in
        let all = both_empty (name_faults ObjectKind.Set 1024 c.sets adding name) (when (not fit) BadValue) none in (
          record {
            named = named_by ObjectKind.Set 1024 c.sets adding name all.0;
            members = holds_unless fit BadValue all.1;
            others = not_only_none entries;
          },
          all.0,
        )

-- ---- users

tickets_back : (n : ℕ) → are_tickets n ≡ true → number_read Kind.Int 0 (2 ^ 32 - 1) (decimal n) ≡ (n, [])
tickets_back n is = number_back 0 (2 ^ 32 - 1) n (let small : n ≤ 2 ^ 32 - 1 = grind arith in omega arith) is

tickets_are : (values : List (List ℕ × List ℕ)) (attribute : List ℕ) → (tickets_read values attribute).1 ≡ [] → are_tickets (tickets_read values attribute).0 ≡ true
tickets_are values attribute none = in_range 0 (2 ^ 32 - 1) (value_of Kind.Int (given values attribute (codes "0"))) none

-- a user of what is read
abbrev user_with : Cluster → Bool → List ℕ → Read ℕ → Read ℕ → Read Item
user_with c adding name fshare oticket =
    (Item.User name (record { fshare = fshare.0; oticket = oticket.0 }), name_faults ObjectKind.User 100000 c.users adding name ++ fshare.1 ++ oticket.1)

-- a user is printed as it is read
pub user_back : (c : Cluster) (name : List ℕ) (user : UserRow) → IsUser name user → (ended : Bool) → ReadsBack c ObjectKind.User (Item.User name user) ended
unfolding printed item_of user_item
user_back c name user is ended = record {
  body = Attributes ((codes "name", name) ∷ (codes "oticket", decimal user.oticket) ∷ (codes "fshare", decimal user.fshare) ∷ []);
  parsed = body_back ObjectKind.User (codes "name", name) ((codes "oticket", decimal user.oticket) ∷ (codes "fshare", decimal user.fshare) ∷ []) ended (λ lines. refl) refl refl
      (item_shown name (name_item name is.named), (decimal_shown user.oticket, (decimal_shown user.fshare, tt)));
  again = λ adding.
      (λ i. user_with c adding name (tickets_back user.fshare is.fshare i) (tickets_back user.oticket is.oticket i))
      ∙ ap (λ z. (Item.User name user, z)) (none_behind _ [] refl ∙ none_behind (name_faults ObjectKind.User 100000 c.users adding name) [] refl);
}

-- what is read without a refusal is a user
pub users_read : (c : Cluster) (adding : Bool) (text : List ℕ) (body : Body) (thing : Item) → body_of ObjectKind.User text ≡ Some body
    → item_of c ObjectKind.User adding body ≡ (thing, []) → IsRead c ObjectKind.User thing × (faults_of_name c adding thing ≡ [])
unfolding item_of user_item
users_read c adding text body thing = read_from c ObjectKind.User adding text body thing (λ lines. refl) each
  where
    each : (values : List (List ℕ × List ℕ)) → ReadFrom c ObjectKind.User adding (item_of c ObjectKind.User adding (Attributes values))
    each values none =
        let name = given values (codes "name") [] in
        let fshare = tickets_read values (codes "fshare") in
        let oticket = tickets_read values (codes "oticket") in
        let faults = name_faults ObjectKind.User 100000 c.users adding name in
        let all = both_empty (faults ++ fshare.1) oticket.1 none in
        let front = both_empty faults fshare.1 all.0 in (
          record {
            named = named_by ObjectKind.User 100000 c.users adding name front.0;
            fshare = tickets_are values (codes "fshare") front.1;
            oticket = tickets_are values (codes "oticket") all.1;
          },
          front.0,
        )

-- ---- projects

-- user sets that are read without a refusal
pub sets_are : (c : Cluster) (text : List ℕ) → HasNames c → cited (has_name c.sets) (list_items text) ≡ [] → AreSets c (list_items text)
sets_are c text names known = record { listed = names_list (has_name c.sets) text (λ name. known_set_item c name names) known; known = known }

-- a project of what is read
abbrev project_with : Cluster → Bool → List ℕ → Read ℕ → Read ℕ → List (List ℕ) → List (List ℕ) → Read Item
project_with c adding name fshare oticket acl xacl = (
  Item.Project name (record { fshare = fshare.0; oticket = oticket.0; acl = acl; xacl = xacl }),
  name_faults ObjectKind.Project 10000 c.projects adding name ++ fshare.1 ++ oticket.1 ++ cited (has_name c.sets) acl ++ cited (has_name c.sets) xacl,
)

-- a project is printed as it is read
pub project_back : (c : Cluster) (name : List ℕ) (project : ProjectRow) → IsProject c name project → (ended : Bool) → ReadsBack c ObjectKind.Project (Item.Project name project) ended
unfolding printed item_of project_item
project_back c name project is ended = record {
  body = Attributes ((codes "name", name) ∷ values);
  parsed = body_back ObjectKind.Project (codes "name", name) values ended (λ lines. refl) refl refl
      (item_shown name (name_item name is.named), (decimal_shown project.oticket, (decimal_shown project.fshare, (list_shown project.acl is.acl.listed.pass, (list_shown project.xacl is.xacl.listed.pass, tt)))));
  again = λ adding.
      (λ i. project_with c adding name (tickets_back project.fshare is.fshare i) (tickets_back project.oticket is.oticket i) (list_back project.acl is.acl.listed i) (list_back project.xacl is.xacl.listed i))
      ∙ ap (λ z. (Item.Project name project, z))
      (none_behind _ _ is.xacl.known ∙ none_behind _ _ is.acl.known ∙ none_behind _ [] refl ∙ none_behind (name_faults ObjectKind.Project 10000 c.projects adding name) [] refl);
}
  where
    values : List (List ℕ × List ℕ)
    values =
        (codes "oticket", decimal project.oticket) ∷ (codes "fshare", decimal project.fshare) ∷ (codes "acl", list_text project.acl) ∷ (codes "xacl", list_text project.xacl) ∷ []

-- what is read without a refusal is a project
pub projects_read : (c : Cluster) (adding : Bool) (text : List ℕ) (body : Body) (thing : Item) → HasNames c → body_of ObjectKind.Project text ≡ Some body
    → item_of c ObjectKind.Project adding body ≡ (thing, []) → IsRead c ObjectKind.Project thing × (faults_of_name c adding thing ≡ [])
unfolding item_of project_item
projects_read c adding text body thing names = read_from c ObjectKind.Project adding text body thing (λ lines. refl) each
  where
    each : (values : List (List ℕ × List ℕ)) → ReadFrom c ObjectKind.Project adding (item_of c ObjectKind.Project adding (Attributes values))
    each values none =
        let name = given values (codes "name") [] in
        let fshare = tickets_read values (codes "fshare") in
        let oticket = tickets_read values (codes "oticket") in
        let acl = given values (codes "acl") none_text in
        let xacl = given values (codes "xacl") none_text in
        let faults = name_faults ObjectKind.Project 10000 c.projects adding name in
        let all = both_empty (faults ++ fshare.1 ++ oticket.1 ++ cited (has_name c.sets) (list_items acl)) (cited (has_name c.sets) (list_items xacl)) none in
        let most = both_empty (faults ++ fshare.1 ++ oticket.1) (cited (has_name c.sets) (list_items acl)) all.0 in
        let half = both_empty (faults ++ fshare.1) oticket.1 most.0 in
        let front = both_empty faults fshare.1 half.0 in (
          record {
            named = named_by ObjectKind.Project 10000 c.projects adding name front.0;
            fshare = tickets_are values (codes "fshare") front.1;
            oticket = tickets_are values (codes "oticket") half.1;
            acl = sets_are c acl names most.1;
            xacl = sets_are c xacl names all.1;
          },
          front.0,
        )
