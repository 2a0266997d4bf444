-- What is put into the tables of hosts, groups and user sets has a name of its kind, and the table of complexes keeps its rows' form and the default load formula.
use Rattle.std.proofs.Common.{◌≡◌, ℕ, ◌&&◌, Bool, true, false, not, cond, if◌then◌else◌, nat_lt, List, [], ◌∷◌, ◌++◌, length, flat_map, fold, Option, Some, None, codes, refl, sym, ap, ◌∙◌}
use Rattle.std.specs.BTreeMap.{is_at}
use Rattle.std.specs.List.{list_all}
use Rattle.std.specs.Map.{keys_of}
use Rattle.std.proofs.lemmas.Bool.{and_parts, or_parts, not-false, true≢false}
use Rattle.std.proofs.lemmas.Map.Text.{is_eq-slice_cmp}
use Rattle.std.proofs.lemmas.Slice.Eq.{bytes_eq-Decides}
use Rattle.ge_base.specs.declared.refusal.Refusal.TheVariants.{NoSuchObject, BadValue, InUse, Limit}
use Rattle.ge_collections.specs.Keyed.{text_cmp, at_text}
use Rattle.ge_model_rows.specs.ClusterRows.{Cluster, opening_cluster, default_sched}
use Rattle.ge_model_rows.specs.EntryRows.{Item, ObjectKind}
use Rattle.ge_model_rows.specs.ValueRows.{Kind, ComplexDef}
use Rattle.ge_model_grammar.specs.Names.{is_name}
use Rattle.ge_model_rows.specs.Faults.{when}
use Rattle.ge_model_rows.specs.Values.{is_number_kind}
use Rattle.ge_model_rows.specs.Complexes.{opening_complexes}
use Rattle.ge_model_rows.specs.Pieces.{list_items}
use Rattle.ge_model_grammar.specs.declared.Body.{Body}
use Rattle.ge_model_grammar.specs.declared.ComplexLine.{ComplexLine}
use Rattle.ge_model_grammar.specs.declared.Body.TheVariants.{Attributes, RuleSet, Nodes, ComplexRows}
use Rattle.ge_model_grammar.specs.Configuring.{is_group_name}
use Rattle.ge_model_config.specs.Columns.{is_same_kind}
use Rattle.ge_model_config.specs.Complexes.{row_faults, urgency_read, complex_row, put_complex, breaks_use, use_faults, complexes_item}
use Rattle.ge_model_config.specs.Hosts.{host_item}
use Rattle.ge_model_config.specs.Groups.{group_item}
use Rattle.ge_model_config.specs.Environments.{pe_item}
use Rattle.ge_model_config.specs.UserSets.{set_item}
use Rattle.ge_model_config.specs.People.{user_item, project_item}
use Rattle.ge_model_config.specs.Queues.{queue_item}
use Rattle.ge_model_config.specs.Quotas.{quota_item}
use Rattle.ge_model_config.specs.Settings.{formula_faults, sched_item}
use Rattle.ge_model_config.specs.Shares.{shares_item}
use Rattle.ge_model_config.specs.Used.{is_complex_used}
use Rattle.ge_model_config.specs.Cited.{given, none_text, cited, is_host_or_group}
use Rattle.ge_model_config.specs.Named.{name_faults, absent_faults}
use Rattle.ge_model_config.specs.Reading.{item_of}
use Rattle.ge_model_config.proofs.ReadBackComplexes.{AreComplexes, rows_are}
use Rattle.ge_model_config.proofs.ReadBackOpening.{opening_rows}
use Rattle.ge_model_config.proofs.ReadBackTables.{put_passes}
use Rattle.ge_model_config.proofs.ReadBackNames.{HasNames, both_empty, holds_unless, named_by}

-- the default load formula is a complex whose values are amounts
abbrev pub IsFormulaIn : List (List ℕ × ComplexDef) → Type 0
IsFormulaIn table = formula_faults (at_text table default_sched.load_formula) ≡ []

-- the tables of a cluster have names alone, and complexes are rows that are read, with the default load formula
pub record IsWellNamed (c : Cluster) : Type 0 where
  pub names : HasNames c
  pub formula : IsFormulaIn c.complexes
  pub rows : AreComplexes c.complexes

-- that an item has a name of its kind, of the kinds whose names are listed elsewhere, and that a table of complexes is one that is read and has the default load formula
abbrev pub PutsName : Item → Type 0
PutsName (Item.Host name values) = is_name name ≡ true
PutsName (Item.Group name hosts) = is_group_name name ≡ true
PutsName (Item.Set name entries) = is_name name ≡ true
PutsName (Item.Complexes rows) = (list_all is_name (keys_of rows) ≡ true) × IsFormulaIn rows × AreComplexes rows
PutsName _ = Unit {0}

-- ---- tables of complexes

-- rows that are read without a refusal have names
rows_named : (c : Cluster) (table : List (List ℕ × ComplexDef)) (lines : List ComplexLine) → list_all is_name (keys_of table) ≡ true → flat_map (row_faults c) lines ≡ []
    → list_all is_name (keys_of (fold (put_complex c) table lines)) ≡ true
rows_named c table [] names none = names
rows_named c table (line ∷ lines) names none =
    let parts = both_empty (row_faults c line) (flat_map (row_faults c) lines) none in
    let five = both_empty _ (urgency_read line).1 parts.0 in
    let four = both_empty _ _ five.0 in
    let three = both_empty _ _ four.0 in
    let two = both_empty _ _ three.0 in
    let one = both_empty (when (not (is_name line.name && is_name line.shortcut)) BadValue) _ two.0 in
    let name = and_parts (is_name line.name) (is_name line.shortcut) (holds_unless (is_name line.name && is_name line.shortcut) BadValue one.0) in
    rows_named c (put_complex c table line) lines (put_passes is_name table line.name (complex_row c line) name.0 names) parts.1

-- a kind of amounts is none but itself
same_number : (k other : Kind) → is_same_kind k other ≡ true → is_number_kind k ≡ true → is_number_kind other ≡ true
same_number Kind.Int Kind.Int same is = refl
same_number Kind.Time Kind.Time same is = refl
same_number Kind.Memory Kind.Memory same is = refl
same_number Kind.Double Kind.Double same is = refl
same_number Kind.Bool other same is = absurd (true≢false (sym is))
same_number Kind.Str other same is = absurd (true≢false (sym is))
same_number Kind.CStr other same is = absurd (true≢false (sym is))
same_number Kind.ReStr other same is = absurd (true≢false (sym is))
same_number Kind.Host other same is = absurd (true≢false (sym is))
same_number _ _ same is = absurd (true≢false (sym same))

-- a used complex whose values are amounts stays one
number_stays : (c : Cluster) (name : List ℕ) (old : ComplexDef) (new : Option ComplexDef) → is_number_kind old.kind ≡ true → breaks_use c name old new ≡ false → formula_faults new ≡ []
number_stays c name old None is kept = absurd (true≢false kept)
number_stays c name old (Some new) is kept =
    ap (λ z. when (not z) BadValue) (same_number old.kind new.kind (not-false _ (or_parts (not (is_same_kind old.kind new.kind)) _ kept).0) is)

formula_stays : (c : Cluster) (table rows : List (List ℕ × ComplexDef)) (name : List ℕ) → is_complex_used c name ≡ true → formula_faults (at_text rows name) ≡ []
    → flat_map (use_faults c table) rows ≡ [] → formula_faults (at_text table name) ≡ []
formula_stays c table [] name used there none = absurd (let h : NoSuchObject ∷ [] ≡ [] = there in cc)
formula_stays c table (row ∷ rows) name used there none = by (is_at (text_cmp name) row.0) refl there (λ h. formula_stays c table rows name used h parts.1)
  where
    parts : (use_faults c table row ≡ []) × (flat_map (use_faults c table) rows ≡ [])
    parts = both_empty (use_faults c table row) (flat_map (use_faults c table) rows) none

    not_both : (broken is_used : Bool) → when (broken && is_used) InUse ≡ [] → is_used ≡ true → broken ≡ false
    not_both true true h g = absurd (let f : InUse ∷ [] ≡ [] = h in cc)
    not_both true false h g = absurd (true≢false (sym g))
    not_both false is_used h g = refl

    here : name ≡ row.0 → formula_faults (Some row.1) ≡ [] → formula_faults (at_text table name) ≡ []
    here same there =
        ap (λ z. formula_faults (at_text table z)) same
        ∙ number_stays c row.0 row.1 (at_text table row.0) (holds_unless (is_number_kind row.1.kind) BadValue there)
        (not_both (breaks_use c row.0 row.1 (at_text table row.0)) (is_complex_used c row.0) parts.0 (ap (is_complex_used c) (sym same) ∙ used))

    by : (same : Bool) → is_at (text_cmp name) row.0 ≡ same → formula_faults (cond same (Some row.1) (at_text rows name)) ≡ []
        → (formula_faults (at_text rows name) ≡ [] → formula_faults (at_text table name) ≡ []) → formula_faults (at_text table name) ≡ []
    by true is h again = here ((bytes_eq-Decides name row.0).0 (sym (is_eq-slice_cmp name row.0) ∙ is)) h
    by false is h again = again h

formula_used : (c : Cluster) → is_complex_used c default_sched.load_formula ≡ true
unfolding default_sched opening_complexes
formula_used c = refl

complexes_named : (c : Cluster) (adding : Bool) (lines : List ComplexLine) → IsWellNamed c → (complexes_item c adding lines).1 ≡ [] → PutsName (complexes_item c adding lines).0
unfolding complexes_item
complexes_named c adding lines named none =
    let five = both_empty _ (when (nat_lt 1024 (length table)) Limit) none in
    let four = both_empty _ (flat_map (use_faults c table) c.complexes) five.0 in
    let three = both_empty _ _ four.0 in
    let two = both_empty (flat_map (row_faults c) lines) _ three.0 in (
      rows_named c (if adding then c.complexes else []) lines (before adding) two.0,
      formula_stays c table c.complexes default_sched.load_formula (formula_used c) named.formula four.1,
      rows_are c (if adding then c.complexes else []) lines (known adding) two.0,
    )
  where
    table : List (List ℕ × ComplexDef)
    table = fold (put_complex c) (if adding then c.complexes else []) lines

    before : (adding : Bool) → list_all is_name (keys_of (if adding then c.complexes else [])) ≡ true
    before true = named.names.complexes
    before false = refl

    known : (adding : Bool) → AreComplexes (if adding then c.complexes else [])
    known true = named.rows
    known false = tt

-- what is read without a refusal has one
pub item_named : (c : Cluster) (kind : ObjectKind) (adding : Bool) (body : Body) → IsWellNamed c → (item_of c kind adding body).1 ≡ [] → PutsName (item_of c kind adding body).0
unfolding item_of host_item group_item pe_item set_item user_item project_item queue_item sched_item quota_item shares_item
item_named c ObjectKind.Host adding (Attributes values) named none =
    let name = given values (codes "hostname") [] in
    let faults = name_faults ObjectKind.Host 4096 c.hosts adding name in
    let all = both_empty (faults ++ absent_faults ObjectKind.Host values) _ none in
    named_by ObjectKind.Host 4096 c.hosts adding name (both_empty faults (absent_faults ObjectKind.Host values) all.0).0
item_named c ObjectKind.Group adding (Attributes values) named none =
    let name = given values (codes "group_name") [] in
    let hosts = list_items (given values (codes "hostlist") none_text) in
    let faults = name_faults ObjectKind.Group 1024 c.groups adding name in
    let all = both_empty (faults ++ cited (is_host_or_group c) hosts) _ none in
    named_by ObjectKind.Group 1024 c.groups adding name (both_empty faults (cited (is_host_or_group c) hosts) all.0).0
item_named c ObjectKind.Set adding (Attributes values) named none =
    let name = given values (codes "name") [] in
    named_by ObjectKind.Set 1024 c.sets adding name (both_empty (name_faults ObjectKind.Set 1024 c.sets adding name) _ none).0
item_named c _ adding (Attributes values) named none = tt
item_named c ObjectKind.Quota adding (RuleSet values rules) named none = tt
item_named c _ adding (RuleSet values rules) named none = tt
item_named c ObjectKind.Shares adding (Nodes nodes) named none = tt
item_named c _ adding (Nodes nodes) named none = tt
item_named c ObjectKind.Complexes adding (ComplexRows rows) named none = complexes_named c adding rows named none
item_named c _ adding (ComplexRows rows) named none = tt

-- so it is with the opening cluster
pub opening_named : IsWellNamed opening_cluster
unfolding opening_cluster opening_complexes default_sched
opening_named = record { names = record { hosts = refl; groups = refl; sets = refl; complexes = refl }; formula = refl; rows = opening_rows }
