-- The table of leaves has the leaf that the rule finds.
use Rattle.std.proofs.Common.{◌≡◌, refl, ap, sym, ◌∙◌}
use Rattle.std.specs.Prelude.{ℕ, suc, Bool, true, false, ◌==◌, ◌&&◌, ◌||◌, not, cond, if◌then◌else◌, List, [], ◌∷◌, map, filter, find, fold, Option, Some, None, is_some, codes, refl as same}
use Rattle.std.specs.BTreeMap.{insert_entry, is_at}
use Rattle.std.specs.Map.{lookup}
use Rattle.std.specs.Option.{option_or, option_map}
use Rattle.std.specs.Ordering.{is_eq, nat_cmp, ordering_then}
use Rattle.std.specs.Cmp.{unsigned_ties, nat_eq_equiv}
use Rattle.std.specs.Cmp.Lexicographic.{nat_list_eq_equiv, texts_ties}
use Rattle.std.specs.declared.cmp.Ordering.{Ordering}
use Rattle.std.specs.declared.cmp.Ordering.TheVariants.{Less, Equal, Greater}
use native.Mathlib.Omega.{arith}
use Rattle.std.proofs.lemmas.Bool.{eqb-true, eq-eqb}
use Rattle.std.proofs.lemmas.Bool.Decides.{nat_tests}
use Rattle.std.proofs.lemmas.Map.Lookups.{CmpEqualImpliesEq, exact_bytes, exact_pairs, exact_unsigned}
use Rattle.ge_collections.specs.Keyed.{text_cmp, text_eq, at_text}
use Rattle.ge_model_rows.specs.Pieces.{is_empty}
use Rattle.ge_model_order.specs.ShareRule.{is_leaf, is_leaf_named, project_node, user_leaf, if_leaf, leaf_under, leaf_of}
use Rattle.ge_model_order.specs.ShareTables.{amount_at, child_counts, scopes_below, LeafKey, leaf_cmp, at_leaf, with_leaf, with_scopes, with_node, with_project, places_of, leaf_in, project_at, if_childless, leaf_below, leaf_at}
use Rattle.ge_model_order.specs.ShareTree.{Entered}
use Rattle.ge_model_rows.specs.Pieces.{lists_number}
use Rattle.ge_model_order.proofs.ShareTotals.{equal, put_in, is_leaf-counted}

or_none : {X : Type 0} (o : Option X) → option_or o None ≡ o
or_none None = refl
or_none (Some x) = refl

-- where the first that comes stays, a look-up finds what was there, else what came
first_stays : {K X : Type 0} (cmp : K → K → Ordering) → CmpEqualImpliesEq cmp → (rows : List (K × X)) (k q : K) (v : X)
    → lookup (is_at (cmp q)) (if is_some (lookup (is_at (cmp k)) rows) then rows else insert_entry cmp rows k v)
    ≡ option_or (lookup (is_at (cmp q)) rows) (cond (is_eq (cmp q k)) (Some v) None)
first_stays {K} {X} cmp exact rows k q v = by (lookup (is_at (cmp k)) rows) same
  where
    found : {w : Option X} (d : Bool) → is_eq (cmp q k) ≡ d → lookup (is_at (cmp k)) rows ≡ w → cond d (lookup (is_at (cmp q)) rows) w ≡ cond d w w
    found true there is = ap (λ (n : K). lookup (is_at (cmp n)) rows) (exact q k (equal (cmp q k) there)) ∙ is
    found false there is = refl

    kept : (w : X) (d : Bool) → (cond d (lookup (is_at (cmp q)) rows) (Some w) ≡ cond d (Some w) (Some w)) → lookup (is_at (cmp q)) rows ≡ option_or (lookup (is_at (cmp q)) rows) (cond d (Some v) None)
    kept w true is = is ∙ ap (λ (o : Option X). option_or o (Some v)) (sym is)
    kept w false is = sym (or_none (lookup (is_at (cmp q)) rows))

    put : (d : Bool) → (cond d (lookup (is_at (cmp q)) rows) None ≡ cond d None None) → cond d (Some v) (lookup (is_at (cmp q)) rows) ≡ option_or (lookup (is_at (cmp q)) rows) (cond d (Some v) None)
    put true is = ap (λ (o : Option X). option_or o (Some v)) (sym is)
    put false is = sym (or_none (lookup (is_at (cmp q)) rows))

    by : (o : Option X) → lookup (is_at (cmp k)) rows ≡ o → lookup (is_at (cmp q)) (if is_some o then rows else insert_entry cmp rows k v)
        ≡ option_or (lookup (is_at (cmp q)) rows) (cond (is_eq (cmp q k)) (Some v) None)
    by None is = put_in cmp exact rows k q v ∙ put (is_eq (cmp q k)) (found (is_eq (cmp q k)) same is)
    by (Some w) is = kept w (is_eq (cmp q k)) (found (is_eq (cmp q k)) same is)

-- a table that takes the first of each key, filled node by node, has the first node that passes the key's test
first_found : {R : Type 0} (look : R → Option ℕ) (step : R → Entered → R) (test : Entered → Bool)
    → ((rows : R) (node : Entered) → look (step rows node) ≡ option_or (look rows) (cond (test node) (Some node.id) None))
    → (tree : List Entered) (rows : R) → look (fold step rows tree) ≡ option_or (look rows) (option_map (λ node. node.id) (find test tree))
first_found look step test one [] rows = sym (or_none (look rows))
first_found look step test one (node ∷ tree) rows =
    first_found look step test one tree (step rows node)
    ∙ ap (λ (o : Option ℕ). option_or o (option_map (λ (node : Entered). node.id) (find test tree))) (one rows node)
    ∙ by (look rows) (test node)
  where
    by : (o : Option ℕ) (b : Bool) → option_or (option_or o (cond b (Some node.id) None)) (option_map (λ node. node.id) (find test tree))
        ≡ option_or o (option_map (λ node. node.id) (cond b (Some node) (find test tree)))
    by None true = refl
    by None false = refl
    by (Some id) b = refl

both_equal : (a b : Ordering) → is_eq (ordering_then a b) ≡ (is_eq a && is_eq b)
both_equal Less b = refl
both_equal Equal b = refl
both_equal Greater b = refl

same_name : (name n : List ℕ) → is_eq (text_cmp n name) ≡ text_eq name n
same_name name n = sym (texts_ties n name) ∙ nat_list_eq_equiv.symm n name

-- keys are one where scopes and names are
same_key : (s scope : ℕ) (n name : List ℕ) → is_eq (leaf_cmp (s, n) (scope, name)) ≡ (scope == s && text_eq name n)
same_key s scope n name =
    both_equal (nat_cmp s scope) (text_cmp n name)
    ∙ ap (λ (b : Bool). b && is_eq (text_cmp n name)) (sym (unsigned_ties s scope) ∙ nat_eq_equiv.symm s scope)
    ∙ ap (λ (b : Bool). (scope == s) && b) (same_name name n)

exact_leaf : CmpEqualImpliesEq leaf_cmp
exact_leaf = exact_pairs nat_cmp text_cmp exact_unsigned exact_bytes

-- a leaf is put in each of these scopes
scopes_at : (id : ℕ) (name : List ℕ) (scopes : List ℕ) (rows : List (LeafKey × ℕ)) (s : ℕ) (n : List ℕ)
    → at_leaf (fold (with_leaf id name) rows scopes) (s, n) ≡ option_or (at_leaf rows (s, n)) (cond (lists_number scopes s && text_eq name n) (Some id) None)
scopes_at id name [] rows s n = sym (or_none (at_leaf rows (s, n)))
scopes_at id name (scope ∷ scopes) rows s n =
    scopes_at id name scopes (with_leaf id name rows scope) s n
    ∙ ap (λ (o : Option ℕ). option_or o (cond (lists_number scopes s && text_eq name n) (Some id) None))
    (first_stays leaf_cmp exact_leaf rows (scope, name) (s, n) id ∙ ap (λ (b : Bool). option_or (at_leaf rows (s, n)) (cond b (Some id) None)) (same_key s scope n name))
    ∙ by (at_leaf rows (s, n)) (scope == s) (lists_number scopes s) (text_eq name n)
  where
    by : (o : Option ℕ) (a h t : Bool) → option_or (option_or o (cond (a && t) (Some id) None)) (cond (h && t) (Some id) None) ≡ option_or o (cond ((a || h) && t) (Some id) None)
    by (Some x) a h t = refl
    by None true true true = refl
    by None true true false = refl
    by None true false true = refl
    by None true false false = refl
    by None false h t = refl

-- whether a node stands at a scope and a name
abbrev stands : (Entered → Bool) → ℕ → List ℕ → Entered → Bool
stands leaf s n node = not node.row.project && (leaf node && (lists_number (scopes_below node.projects) s && text_eq node.row.name n))

node_at : (children : List (ℕ × ℕ)) (s : ℕ) (n : List ℕ) (rows : List (LeafKey × ℕ)) (node : Entered)
    → at_leaf (with_node children rows node) (s, n) ≡ option_or (at_leaf rows (s, n)) (cond (stands (λ node. amount_at children node.id == 0) s n node) (Some node.id) None)
node_at children s n rows node = by node.row.project (amount_at children node.id == 0)
  where
    by : (p l : Bool) → at_leaf (if p then rows else if l then with_scopes rows node else rows) (s, n)
        ≡ option_or (at_leaf rows (s, n)) (cond (not p && (l && (lists_number (scopes_below node.projects) s && text_eq node.row.name n))) (Some node.id) None)
    by true l = sym (or_none (at_leaf rows (s, n)))
    by false true = scopes_at node.id node.row.name (scopes_below node.projects) rows s n
    by false false = sym (or_none (at_leaf rows (s, n)))

find_same : (p q : Entered → Bool) → ((node : Entered) → p node ≡ q node) → (tree : List Entered) → find p tree ≡ find q tree
find_same p q each tree = ap (λ (test : Entered → Bool). find test tree) (λ i node. each node i)

find_filter : (p r : Entered → Bool) (tree : List Entered) → find (λ node. r node && p node) tree ≡ find p (filter r tree)
find_filter p r [] = refl
find_filter p r (node ∷ tree) = by (r node) (find_filter p r tree)
  where
    by : (b : Bool) → find (λ node. r node && p node) tree ≡ find p (filter r tree) → cond (b && p node) (Some node) (find (λ node. r node && p node) tree) ≡ find p (cond b (node ∷ filter r tree) (filter r tree))
    by true later = ap (λ (o : Option Entered). cond (p node) (Some node) o) later
    by false later = later

shuffled : (p l h t : Bool) → (p && (l && (h && t))) ≡ (h && ((p && t) && l))
shuffled true true true true = refl
shuffled true true true false = refl
shuffled true true false t = refl
shuffled true false true true = refl
shuffled true false true false = refl
shuffled true false false t = refl
shuffled false l true t = refl
shuffled false l false t = refl

-- a leaf in a scope is the first that the rule finds there
leaf_found : (tree : List Entered) (in_scope : Entered → Bool) (s : ℕ) (n : List ℕ) → ((node : Entered) → lists_number (scopes_below node.projects) s ≡ in_scope node)
    → at_leaf (places_of tree).leaves (s, n) ≡ option_map (λ node. node.id) (find (is_leaf_named tree n) (filter in_scope tree))
leaf_found tree in_scope s n scoped =
    first_found (λ rows. at_leaf rows (s, n)) (with_node (child_counts tree)) (stands (λ node. amount_at (child_counts tree) node.id == 0) s n) (node_at (child_counts tree) s n) tree []
    ∙ ap (λ (o : Option Entered). option_map (λ (node : Entered). node.id) o)
    (find_same (stands (λ node. amount_at (child_counts tree) node.id == 0) s n) (λ node. in_scope node && is_leaf_named tree n node)
    (λ node. ap (λ (l : Bool). not node.row.project && (l && (lists_number (scopes_below node.projects) s && text_eq node.row.name n))) (is_leaf-counted tree node)
    ∙ ap (λ (h : Bool). not node.row.project && (is_leaf tree node && (h && text_eq node.row.name n))) (scoped node)
    ∙ shuffled (not node.row.project) (is_leaf tree node) (in_scope node) (text_eq node.row.name n)) tree
    ∙ find_filter (is_leaf_named tree n) in_scope tree)

or_mapped : (a b : Option Entered) → option_or (option_map (λ node. node.id) a) (option_map (λ node. node.id) b) ≡ option_map (λ node. node.id) (option_or a b)
or_mapped None b = refl
or_mapped (Some node) b = refl

user_found : (tree : List Entered) (in_scope : Entered → Bool) (s : ℕ) (user : List ℕ) → ((node : Entered) → lists_number (scopes_below node.projects) s ≡ in_scope node)
    → leaf_in (places_of tree) s user ≡ option_map (λ node. node.id) (user_leaf tree (filter in_scope tree) user)
user_found tree in_scope s user scoped =
    ap (λ (o : Option ℕ). option_or o (at_leaf (places_of tree).leaves (s, codes "default"))) (leaf_found tree in_scope s user scoped)
    ∙ ap (λ (o : Option ℕ). option_or (option_map (λ (node : Entered). node.id) (find (is_leaf_named tree user) (filter in_scope tree))) o) (leaf_found tree in_scope s (codes "default") scoped)
    ∙ or_mapped (find (is_leaf_named tree user) (filter in_scope tree)) (find (is_leaf_named tree (codes "default")) (filter in_scope tree))

something : (first : ℕ) (rest : List ℕ) → is_empty (first ∷ rest) ≡ false
something first rest = grind (arith, nat_tests)

-- a node below no project stands outside of all, and nowhere else
outside_of_all : (projects : List ℕ) → lists_number (scopes_below projects) 0 ≡ is_empty projects
outside_of_all [] = refl
outside_of_all (project ∷ projects) = none (project ∷ projects) ∙ sym (something project projects)
  where
    none : (ids : List ℕ) → lists_number (map (λ id. suc id) ids) 0 ≡ false
    none [] = refl
    none (id ∷ ids) = let other : (suc id == 0) ≡ false = grind (arith, nat_tests) in ap (λ (b : Bool). b || lists_number (map (λ n. suc n) ids) 0) other ∙ none ids

next_same : (a b : ℕ) → (suc a == suc b) ≡ (a == b)
next_same a b = by (a == b) same
  where
    by : (d : Bool) → (a == b) ≡ d → (suc a == suc b) ≡ d
    by true is = eq-eqb (suc a) (suc b) (ap suc (eqb-true a b is))
    by false is = grind (arith, nat_tests)

below_project : (id : ℕ) (projects : List ℕ) → lists_number (scopes_below projects) (suc id) ≡ lists_number projects id
below_project id [] = let other : (0 == suc id) ≡ false = grind (arith, nat_tests) in ap (λ (b : Bool). b || false) other
below_project id (project ∷ projects) = each (project ∷ projects)
  where
    each : (ids : List ℕ) → lists_number (map (λ id. suc id) ids) (suc id) ≡ lists_number ids id
    each [] = refl
    each (other ∷ ids) =
        ap (λ (b : Bool). b || lists_number (map (λ n. suc n) ids) (suc id)) (next_same other id) ∙ ap (λ (b : Bool). (other == id) || b) (each ids)

-- the node of a project is the first one of its name
abbrev is_named : List ℕ → Entered → Bool
is_named name node = node.row.project && text_eq node.row.name name

with_project_at : (name : List ℕ) (rows : List (List ℕ × ℕ)) (node : Entered) → at_text (with_project rows node) name ≡ option_or (at_text rows name) (cond (is_named name node) (Some node.id) None)
with_project_at name rows node = by node.row.project
  where
    by : (p : Bool) → at_text (if p then if is_some (at_text rows node.row.name) then rows else insert_entry text_cmp rows node.row.name node.id else rows) name
        ≡ option_or (at_text rows name) (cond (p && text_eq node.row.name name) (Some node.id) None)
    by true =
        first_stays text_cmp exact_bytes rows node.row.name name node.id
        ∙ ap (λ (b : Bool). option_or (at_text rows name) (cond b (Some node.id) None)) (same_name node.row.name name)
    by false = sym (or_none (at_text rows name))

none_found : (tree : List Entered) → find (λ node. false) tree ≡ None
none_found [] = refl
none_found (node ∷ tree) = none_found tree

project_found : (tree : List Entered) (project : List ℕ) → project_at (places_of tree) project ≡ option_map (λ node. node.id) (project_node tree project)
project_found tree [] = ap (λ (o : Option Entered). option_map (λ (node : Entered). node.id) o) (sym (none_found tree))
project_found tree (b ∷ bytes) =
    ap (λ (none : Bool). if none then None else at_text (places_of tree).projects (b ∷ bytes)) (something b bytes)
    ∙ first_found (λ rows. at_text rows (b ∷ bytes)) with_project (is_named (b ∷ bytes)) (with_project_at (b ∷ bytes)) tree []
    ∙ ap (λ (none : Bool). option_map (λ (node : Entered). node.id) (find (λ node. not none && node.row.project && text_eq node.row.name (b ∷ bytes)) tree)) (sym (something b bytes))

childless : (tree : List Entered) (node : Entered) → if_childless (places_of tree) node.id ≡ option_map (λ node. node.id) (if_leaf tree node)
childless tree node = ap (λ (b : Bool). cond b (Some node.id) None) (is_leaf-counted tree node) ∙ by (is_leaf tree node)
  where
    by : (b : Bool) → cond b (Some node.id) None ≡ option_map (λ node. node.id) (if b then Some node else None)
    by true = refl
    by false = refl

-- the leaf of a user and project by tables is that of the rule
pub leaf_at-rule : (tree : List Entered) (user project : List ℕ) → leaf_at (places_of tree) user project ≡ option_map (λ node. node.id) (leaf_of tree user project)
leaf_at-rule tree user project = ap (λ (o : Option ℕ). leaf_below (places_of tree) o user) (project_found tree project) ∙ by (project_node tree project)
  where
    by : (o : Option Entered) → leaf_below (places_of tree) (option_map (λ node. node.id) o) user ≡ option_map (λ node. node.id) (leaf_under tree o user)
    by None = user_found tree (λ node. is_empty node.projects) 0 user (λ node. outside_of_all node.projects)
    by (Some node) =
        ap (λ (o : Option ℕ). option_or o (if_childless (places_of tree) node.id)) (user_found tree (λ other. lists_number other.projects node.id) (suc node.id) user (λ other. below_project node.id other.projects))
        ∙ ap (λ (o : Option ℕ). option_or (option_map (λ (node : Entered). node.id) (user_leaf tree (filter (λ (other : Entered). lists_number other.projects node.id) tree) user)) o) (childless tree node)
        ∙ or_mapped (user_leaf tree (filter (λ other. lists_number other.projects node.id) tree) user) (if_leaf tree node)
