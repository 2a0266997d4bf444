-- Names that a cluster knows are items of printed lists, where its tables have names alone.
use Rattle.std.proofs.Common.{◌≡◌, ℕ, ◌==◌, ◌&&◌, ◌||◌, Bool, true, false, not, cond, nat_le, nat_eq, List, [], ◌∷◌, ◌++◌, length, is_some, Some, refl, sym, ap, ◌∙◌, arith, ⊎_elim, append-nil}
use Rattle.std.specs.Char.{is_ascii_lowercase, is_ascii_uppercase, is_ascii_digit}
use Rattle.std.specs.List.{list_all}
use Rattle.std.specs.Map.{keys_of}
use Rattle.std.specs.BTreeMap.{is_at}
use Rattle.std.proofs.lemmas.Bool.{and_parts, and_from, or_cases, true≢false}
use Rattle.std.proofs.lemmas.Map.Text.{is_eq-slice_cmp}
use Rattle.std.proofs.lemmas.Slice.Eq.{bytes_eq-Decides}
use Rattle.ge_base.specs.declared.refusal.Refusal.{Refusal}
use Rattle.ge_base.specs.declared.refusal.Refusal.TheVariants.{BadValue}
use Rattle.ge_collections.specs.Keyed.{text_cmp, at_text}
use Rattle.ge_model_rows.specs.ClusterRows.{Cluster}
use Rattle.ge_model_rows.specs.EntryRows.{ObjectKind}
use Rattle.ge_model_grammar.specs.Names.{is_name_byte, is_name}
use Rattle.ge_model_rows.specs.Faults.{when}
use Rattle.ge_model_rows.specs.Pieces.{list_items}
use Rattle.ge_model_grammar.specs.Configuring.{is_group_name, is_name_of}
use Rattle.ge_model_config.specs.Named.{name_faults}
use Rattle.ge_model_config.specs.Cited.{has_name, cited, is_host_or_group}
use Rattle.ge_model_config.proofs.ReadBackTexts.{is_shown, all_weaker}
use Rattle.ge_model_config.proofs.ReadBackLists.{is_item_byte, is_item, IsList, shown_item}
use Rattle.ge_model_config.proofs.ReadBackItems.{not_only_none}

-- hosts, user sets and complexes have names, groups names behind an at sign
pub record HasNames (c : Cluster) : Type 0 where
  pub hosts : list_all is_name (keys_of c.hosts) ≡ true
  pub groups : list_all is_group_name (keys_of c.groups) ≡ true
  pub sets : list_all is_name (keys_of c.sets) ≡ true
  pub complexes : list_all is_name (keys_of c.complexes) ≡ true

-- ---- names as items

abbrev is_letter : ℕ → Bool
is_letter b = is_ascii_lowercase b || is_ascii_uppercase b || is_ascii_digit b

abbrev is_mark : ℕ → Bool
is_mark b = b == 95 || b == 45 || b == 46 || b == 43

letter : (b : ℕ) → is_letter b ≡ true → is_item_byte b ≡ true
letter b h = grind arith

mark : (b : ℕ) → is_mark b ≡ true → is_item_byte b ≡ true
mark b h = grind arith

same : (a u v w x : Bool) → (a || (u || v || w || x)) ≡ (a || u || v || w || x)
same true u v w x = refl
same false u v w x = refl

name_byte : (b : ℕ) → is_name_byte b ≡ true → is_item_byte b ≡ true
name_byte b h = ⊎_elim (letter b) (mark b) (or_cases (is_letter b) (is_mark b) (same (is_ascii_lowercase b || is_ascii_uppercase b || is_ascii_digit b) (b == 95) (b == 45) (b == 46) (b == 43) ∙ h))

at_sign : (b : ℕ) → nat_eq 64 b ≡ true → is_item_byte b ≡ true
at_sign b h = grind arith

name_bytes : (text : List ℕ) → is_name text ≡ true → list_all is_item_byte text ≡ true
name_bytes text is = all_weaker is_name_byte is_item_byte name_byte text (and_parts (nat_le 1 (length text) && nat_le (length text) 255) (list_all is_name_byte text) is).1

-- a name is an item, and so is that of a group
pub name_item : (text : List ℕ) → is_name text ≡ true → is_item text ≡ true
name_item [] none = absurd (true≢false (sym none))
name_item (b ∷ text) is = name_bytes (b ∷ text) is

pub group_name_item : (text : List ℕ) → is_group_name text ≡ true → is_item text ≡ true
group_name_item [] none = absurd (true≢false (sym none))
group_name_item (b ∷ text) is =
    let parts = and_parts (nat_eq 64 b && true) (is_name text) is in
    and_from _ _ (at_sign b (and_parts (nat_eq 64 b) true parts.0).0) (name_bytes text parts.1)

-- an item prints and has no blank
pub item_shown : (text : List ℕ) → is_item text ≡ true → is_shown text ≡ true
item_shown [] none = absurd (true≢false (sym none))
item_shown (b ∷ text) is = shown_item (b ∷ text) is

-- ---- names that are there

-- a name that a table has passes what all its names pass
pub known_passes : {X : Type 0} (test : List ℕ → Bool) (table : List (List ℕ × X)) (name : List ℕ) → list_all test (keys_of table) ≡ true → has_name table name ≡ true → test name ≡ true
known_passes test [] name all there = absurd (true≢false (sym there))
known_passes test (row ∷ rows) name all there = by (is_at (text_cmp name) row.0) refl there (known_passes test rows name parts.1)
  where
    parts : (test row.0 ≡ true) × (list_all test (keys_of rows) ≡ true)
    parts = and_parts (test row.0) (list_all test (keys_of rows)) all

    by : (here : Bool) → is_at (text_cmp name) row.0 ≡ here → is_some (cond here (Some row.1) (at_text rows name)) ≡ true → (has_name rows name ≡ true → test name ≡ true) → test name ≡ true
    by true is h again = ap test ((bytes_eq-Decides name row.0).0 (sym (is_eq-slice_cmp name row.0) ∙ is)) ∙ parts.0
    by false is h again = again h

pub host_or_group_item : (c : Cluster) (name : List ℕ) → HasNames c → is_host_or_group c name ≡ true → is_item name ≡ true
host_or_group_item c name names known =
    ⊎_elim
    (λ h. name_item name (known_passes is_name c.hosts name names.hosts h))
    (λ h. group_name_item name (known_passes is_group_name c.groups name names.groups h))
    (or_cases (has_name c.hosts name) (has_name c.groups name) known)

pub known_set_item : (c : Cluster) (name : List ℕ) → HasNames c → has_name c.sets name ≡ true → is_item name ≡ true
known_set_item c name names known = name_item name (known_passes is_name c.sets name names.sets known)

-- ---- no refusals

-- where a list joined of two is empty, both are
pub both_empty : {X : Type 0} (xs ys : List X) → xs ++ ys ≡ [] → (xs ≡ []) × (ys ≡ [])
both_empty [] ys none = (refl, none)
both_empty (x ∷ xs) ys none = absurd (let h : x ∷ (xs ++ ys) ≡ [] = none in cc)

pub none_behind : {X : Type 0} (xs ys : List X) → ys ≡ [] → xs ++ ys ≡ xs
none_behind xs ys none = ap (λ z. xs ++ z) none ∙ append-nil xs

-- what isn't refused holds
pub holds_unless : (condition : Bool) (refusal : Refusal) → when (not condition) refusal ≡ [] → condition ≡ true
holds_unless true refusal none = refl
holds_unless false refusal none = absurd (let h : refusal ∷ [] ≡ [] = none in cc)

-- an object's name that isn't refused is one of its kind
pub named_by : {X : Type 0} (kind : ObjectKind) (most : ℕ) (table : List (List ℕ × X)) (adding : Bool) (name : List ℕ) → name_faults kind most table adding name ≡ [] → is_name_of kind name ≡ true
named_by kind most table adding name none = holds_unless (is_name_of kind name) BadValue (both_empty (when (not (is_name_of kind name)) BadValue) _ none).0

-- names that were read without a refusal are a list
pub names_list : (is_known : List ℕ → Bool) (text : List ℕ) → ((name : List ℕ) → is_known name ≡ true → is_item name ≡ true) → cited is_known (list_items text) ≡ [] → IsList (list_items text)
names_list is_known text items none = record {
  pass = all_weaker is_known is_item items (list_items text) (holds_unless (list_all is_known (list_items text)) _ none);
  others = not_only_none text;
}
