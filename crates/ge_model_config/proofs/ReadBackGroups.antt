-- A printed host group reads back.
use Rattle.std.proofs.Common.{◌≡◌, ℕ, Bool, List, [], ◌∷◌, ◌++◌, Some, refl, ap, ◌∙◌, codes}
use Rattle.ge_collections.specs.Keyed.{put_text}
use Rattle.ge_model_rows.specs.ClusterRows.{Cluster}
use Rattle.ge_model_rows.specs.EntryRows.{Item, ObjectKind}
use Rattle.ge_model_rows.specs.Pieces.{list_items, list_text}
use Rattle.ge_model_grammar.specs.declared.Body.{Body}
use Rattle.ge_model_grammar.specs.declared.Body.TheVariants.{Attributes}
use Rattle.ge_model_grammar.specs.Bodies.{body_of}
use Rattle.ge_model_config.specs.Cited.{cited, given, none_text, is_host_or_group}
use Rattle.ge_model_config.specs.Named.{name_faults}
use Rattle.ge_model_config.specs.Groups.{group_item, loops_among}
use Rattle.ge_model_config.specs.Reading.{item_of}
use Rattle.ge_model_config.specs.Printing.{printed}
use Rattle.ge_model_config.proofs.ReadBackBodies.{body_back}
use Rattle.ge_model_config.proofs.ReadBackLists.{list_shown, list_back}
use Rattle.ge_model_config.proofs.ReadBackNames.{HasNames, group_name_item, item_shown, host_or_group_item, both_empty, none_behind, named_by, names_list}
use Rattle.ge_model_config.proofs.ReadBack.{IsGroup, IsRead, faults_of_name, ReadsBack, ReadFrom, read_from}

-- a group is printed as it is read
pub group_back : (c : Cluster) (name : List ℕ) (hosts : List (List ℕ)) → IsGroup c name hosts → (ended : Bool) → ReadsBack c ObjectKind.Group (Item.Group name hosts) ended
unfolding printed item_of group_item
group_back c name hosts is ended = record {
  body = Attributes ((codes "group_name", name) ∷ (codes "hostlist", list_text hosts) ∷ []);
  parsed = body_back ObjectKind.Group (codes "group_name", name) ((codes "hostlist", list_text hosts) ∷ []) ended (λ lines. refl) refl refl
      (item_shown name (group_name_item name is.named), (list_shown hosts is.listed.pass, tt));
  again = λ adding.
      ap (λ list. (Item.Group name list, name_faults ObjectKind.Group 1024 c.groups adding name ++ cited (is_host_or_group c) list ++ loops_among (put_text c.groups name list))) (list_back hosts is.listed)
      ∙ ap (λ faults. (Item.Group name hosts, faults)) (none_behind _ _ is.loops ∙ none_behind (name_faults ObjectKind.Group 1024 c.groups adding name) _ is.known);
}

-- what is read without a refusal is a group
pub groups_read : (c : Cluster) (adding : Bool) (text : List ℕ) (body : Body) (thing : Item) → HasNames c → body_of ObjectKind.Group text ≡ Some body
    → item_of c ObjectKind.Group adding body ≡ (thing, []) → IsRead c ObjectKind.Group thing × (faults_of_name c adding thing ≡ [])
unfolding item_of group_item
groups_read c adding text body thing names = read_from c ObjectKind.Group adding text body thing (λ lines. refl) each
  where
    each : (values : List (List ℕ × List ℕ)) → ReadFrom c ObjectKind.Group adding (item_of c ObjectKind.Group adding (Attributes values))
    each values none =
        let name = given values (codes "group_name") [] in
        let hosts = given values (codes "hostlist") none_text in
        let faults = name_faults ObjectKind.Group 1024 c.groups adding name in
        let known = cited (is_host_or_group c) (list_items hosts) in
        let all = both_empty (faults ++ known) (loops_among (put_text c.groups name (list_items hosts))) none in
        let front = both_empty faults known all.0 in (
          record {
            named = named_by ObjectKind.Group 1024 c.groups adding name front.0;
            listed = names_list (is_host_or_group c) hosts (λ host. host_or_group_item c host names) front.1;
            known = front.1;
            loops = all.1;
          },
          front.0,
        )
