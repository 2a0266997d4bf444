-- A printed host reads back, but where a line feed ends its last line and that line a backslash: there the backslash joins it with nothing.
use Rattle.std.proofs.Common.{◌≡◌, ℕ, Bool, true, false, List, [], ◌∷◌, ◌++◌, Some, refl, ap, ◌∙◌, subst, codes}
use Rattle.ge_base.specs.declared.refusal.Refusal.{Refusal}
use Rattle.ge_model_rows.specs.ClusterRows.{Cluster}
use Rattle.ge_model_rows.specs.EntryRows.{Item, ObjectKind}
use Rattle.ge_model_rows.specs.ValueRows.{Value}
use Rattle.ge_model_grammar.specs.Names.{is_name}
use Rattle.ge_model_grammar.specs.Lines.{ends_in}
use Rattle.ge_model_grammar.specs.declared.Body.{Body}
use Rattle.ge_model_grammar.specs.declared.Body.TheVariants.{Attributes}
use Rattle.ge_model_grammar.specs.Bodies.{body_of}
use Rattle.ge_model_config.specs.Cited.{given, none_text}
use Rattle.ge_model_config.specs.Named.{name_faults, absent_faults}
use Rattle.ge_model_config.specs.Hosts.{host_item}
use Rattle.ge_model_config.specs.Pairs.{any_fits, values_read, values_text}
use Rattle.ge_model_config.specs.Printing.{printed}
use Rattle.ge_model_config.specs.Reading.{item_of}
use Rattle.ge_model_config.proofs.ReadBackTexts.{is_shown, shown_printing, shown_whole}
use Rattle.ge_model_config.proofs.ReadBackBodies.{printing_back}
use Rattle.ge_model_config.proofs.ReadBackNames.{HasNames, name_item, item_shown, both_empty, none_behind, named_by}
use Rattle.ge_model_config.proofs.ReadBackPairs.{AreValues, values_are}
use Rattle.ge_model_config.proofs.ReadBackValueLists.{values_back, values_printing}
use Rattle.ge_model_config.proofs.ReadBack.{faults_of_name, ReadsBack, of_bodies}

-- a host that is read without a refusal
pub record IsHost (c : Cluster) (name : List ℕ) (table : List (List ℕ × Value)) : Type 0 where
  pub named : is_name name ≡ true
  pub values : AreValues c table

-- no line feed ends the last line, or no backslash does
abbrev pub KeepsLast : Cluster → List (List ℕ × Value) → Bool → Type 0
KeepsLast c table ended = ended ≡ true → ends_in (codes "\\") (values_text c table) ≡ false

-- a host is printed as it is read
pub host_back : (c : Cluster) (name : List ℕ) (table : List (List ℕ × Value)) → HasNames c → IsHost c name table → (ended : Bool) → KeepsLast c table ended
    → ReadsBack c ObjectKind.Host (Item.Host name table) ended
unfolding printed item_of host_item
host_back c name table names is ended last = record {
  body = Attributes values;
  parsed = printing_back ObjectKind.Host (codes "hostname", name) ((codes "complex_values", values_text c table) ∷ []) ended (λ lines. refl) refl refl
      (shown_printing name named, (values_printing c table names is.values, tt)) (shown_whole name named, last);
  again = λ adding.
      ap (λ read. (Item.Host name read.0, name_faults ObjectKind.Host 4096 c.hosts adding name ++ absent_faults ObjectKind.Host values ++ read.1)) (values_back c table names is.values)
      ∙ ap (λ faults. (Item.Host name table, faults)) (none_behind _ [] refl ∙ none_behind (name_faults ObjectKind.Host 4096 c.hosts adding name) [] refl);
}
  where
    values : List (List ℕ × List ℕ)
    values = (codes "hostname", name) ∷ (codes "complex_values", values_text c table) ∷ []

    named : is_shown name ≡ true
    named = item_shown name (name_item name is.named)

-- ---- what is read

abbrev pub IsHostItem : Cluster → Item → Type 0
IsHostItem c (Item.Host name table) = IsHost c name table
IsHostItem c _ = ⊥

abbrev HostFrom : Cluster → Bool → Item × List Refusal → Type 0
HostFrom c adding read = read.1 ≡ [] → IsHostItem c read.0 × (faults_of_name c adding read.0 ≡ [])

-- what is read without a refusal is a host
pub hosts_read : (c : Cluster) (adding : Bool) (text : List ℕ) (body : Body) (thing : Item) → body_of ObjectKind.Host text ≡ Some body
    → item_of c ObjectKind.Host adding body ≡ (thing, []) → IsHostItem c thing × (faults_of_name c adding thing ≡ [])
unfolding item_of host_item
hosts_read c adding text body thing parsed is =
    subst (HostFrom c adding) is (of_bodies c ObjectKind.Host adding text body (HostFrom c adding) (λ lines. refl) each parsed) refl
  where
    each : (values : List (List ℕ × List ℕ)) → HostFrom c adding (item_of c ObjectKind.Host adding (Attributes values))
    each values none =
        let name = given values (codes "hostname") [] in
        let text = given values (codes "complex_values") none_text in
        let faults = name_faults ObjectKind.Host 4096 c.hosts adding name in
        let all = both_empty (faults ++ absent_faults ObjectKind.Host values) (values_read c any_fits text).1 none in
        let front = both_empty faults (absent_faults ObjectKind.Host values) all.0 in
        (record { named = named_by ObjectKind.Host 4096 c.hosts adding name front.0; values = values_are c text }, front.0)

-- a host that was read without a refusal reads back
pub hosts_read_back : (c : Cluster) (adding : Bool) (text : List ℕ) (body : Body) (name : List ℕ) (table : List (List ℕ × Value)) → HasNames c → body_of ObjectKind.Host text ≡ Some body
    → item_of c ObjectKind.Host adding body ≡ (Item.Host name table, []) → (ended : Bool) → KeepsLast c table ended → ReadsBack c ObjectKind.Host (Item.Host name table) ended
hosts_read_back c adding text body name table names parsed is ended last = host_back c name table names (hosts_read c adding text body (Item.Host name table) parsed is).0 ended last
