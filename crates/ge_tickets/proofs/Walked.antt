-- The walk with lines enters what the definition's walk enters, and keeps the lines of its nodes.
use Rattle.std.proofs.Common.{◌≡◌, ◌-◌, ◌≤◌, refl, ap, sym, ◌∙◌, arith}
use Rattle.std.specs.Prelude.{ℕ, zero, suc, Bool, true, false, if◌then◌else◌, List, [], ◌∷◌, ◌++◌, fold, Option, Some, None, is_some}
use mathlib.Core.Bool.{true≢false, false≢true}
use Rattle.std.specs.Option.{option_map}
use Rattle.std.specs.BTreeMap.{is_at}
use Rattle.std.specs.Ordering.{nat_cmp, match_ordering}
use Rattle.std.specs.declared.cmp.Ordering.{Ordering}
use Rattle.std.specs.declared.cmp.Ordering.TheVariants.{Less, Equal, Greater}
use Rattle.std.proofs.lemmas.List.Sums.{fold-append}
use Rattle.std.proofs.lemmas.Map.Made.{lookup-map_values}
use Rattle.ge_collections.specs.Keyed.{at_number, put_number}
use Rattle.ge_model_rows.specs.ClusterRows.{Cluster}
use Rattle.ge_model_rows.specs.PeopleRows.{ShareNode}
use Rattle.ge_model_order.specs.ShareTree.{Entered, NodeWalk, with_entered, nothing_walked, most_levels, root_id, entered, row_to_enter, projects_below, walked, tree_of}
use Rattle.ge_tickets.specs.declared.walking.Walk.{Walk}
use Rattle.ge_tickets.specs.Nodes.{line_of, lines_of, with_line, row_to_line, lined, walk_of}

-- a node put in gives its line put in
line_put : (nodes : List (ℕ × Entered)) (id : ℕ) (node : Entered) → lines_of (put_number nodes id node) ≡ put_number (lines_of nodes) id (line_of node)
line_put [] id node = refl
line_put (e ∷ nodes) id node = by (nat_cmp id e.0) (line_put nodes id node)
  where
    by : (o : Ordering) → lines_of (put_number nodes id node) ≡ put_number (lines_of nodes) id (line_of node)
        → lines_of (match_ordering o ((id, node) ∷ e ∷ nodes) ((e.0, node) ∷ nodes) (e ∷ put_number nodes id node))
        ≡ match_ordering o ((id, line_of node) ∷ (e.0, line_of e.1) ∷ lines_of nodes) ((e.0, line_of node) ∷ lines_of nodes) ((e.0, line_of e.1) ∷ put_number (lines_of nodes) id (line_of node))
    by Less later = refl
    by Equal later = refl
    by Greater later = ap (λ (rows : List (ℕ × List ℕ)). (e.0, line_of e.1) ∷ rows) later

-- a node has a line where it was entered
line_there : (nodes : List (ℕ × Entered)) (id : ℕ) → is_some (at_number (lines_of nodes) id) ≡ is_some (at_number nodes id)
line_there nodes id = ap (λ (o : Option (List ℕ)). is_some o) (lookup-map_values line_of (is_at (nat_cmp id)) nodes) ∙ by (at_number nodes id)
  where
    by : (o : Option Entered) → is_some (option_map line_of o) ≡ is_some o
    by None = refl
    by (Some node) = refl

abbrev put_all : List Entered → List (ℕ × Entered)
put_all tree = fold (λ nodes node. put_number nodes node.id node) [] tree

-- a walk with lines that entered what another walk entered
record IsSame (kept : Walk) (walk : NodeWalk) : Type 0 where
  order : kept.order ≡ walk.order
  lines : kept.lines ≡ lines_of walk.by_id
  by_id : walk.by_id ≡ put_all walk.order

same_with : (lines : Walk) (walk : NodeWalk) (node : Entered) → IsSame lines walk → IsSame (with_line lines node) (with_entered walk node)
same_with lines walk node same = record {
  order = ap (λ (order : List Entered). order ++ node ∷ []) same.order;
  lines = ap (λ (rows : List (ℕ × List ℕ)). put_number rows node.id (line_of node)) same.lines ∙ sym (line_put walk.by_id node.id node);
  by_id = ap (λ (rows : List (ℕ × Entered)). put_number rows node.id node) same.by_id ∙ sym (fold-append (λ nodes other. put_number nodes other.id other) [] walk.order (node ∷ []));
}

same_folded : (step : Walk → ℕ → Walk) (other : NodeWalk → ℕ → NodeWalk) → ((lines : Walk) (walk : NodeWalk) (child : ℕ) → IsSame lines walk → IsSame (step lines child) (other walk child))
    → (children : List ℕ) (lines : Walk) (walk : NodeWalk) → IsSame lines walk → IsSame (fold step lines children) (fold other walk children)
same_folded step other each [] lines walk same = same
same_folded step other each (child ∷ children) lines walk same = same_folded step other each children (step lines child) (other walk child) (each lines walk child same)

same_on_row : (rows : List (ℕ × ShareNode)) (lines : Walk) (walk : NodeWalk) (id : ℕ) (more : ShareNode → Walk) (other : ShareNode → NodeWalk) → IsSame lines walk
    → ((row : ShareNode) → IsSame (more row) (other row))
    → IsSame (elim (row_to_line rows lines id) as (λ o. Walk) [ None ↦ lines | Some row ↦ more row ]) (elim (row_to_enter rows walk id) as (λ o. NodeWalk) [ None ↦ walk | Some row ↦ other row ])
same_on_row rows lines walk id more other same each =
    by (is_some (at_number lines.lines id)) (is_some (at_number walk.by_id id)) (ap (λ (known : List (ℕ × List ℕ)). is_some (at_number known id)) same.lines ∙ line_there walk.by_id id)
  where
    found : (o : Option ShareNode) → IsSame (elim o as (λ o. Walk) [ None ↦ lines | Some row ↦ more row ]) (elim o as (λ o. NodeWalk) [ None ↦ walk | Some row ↦ other row ])
    found None = same
    found (Some row) = each row

    by : (a b : Bool) → a ≡ b → IsSame (elim (if a then None else at_number rows id) as (λ o. Walk) [ None ↦ lines | Some row ↦ more row ])
        (elim (if b then None else at_number rows id) as (λ o. NodeWalk) [ None ↦ walk | Some row ↦ other row ])
    by true true is = same
    by true false is = absurd (true≢false is)
    by false true is = absurd (false≢true is)
    by false false is = found (at_number rows id)

lined_same : (levels : ℕ) (rows : List (ℕ × ShareNode)) (above projects : List ℕ) (lines : Walk) (walk : NodeWalk) (id : ℕ) → IsSame lines walk
    → IsSame (lined levels rows above projects lines id) (walked levels rows above projects walk id)
lined_same zero rows above projects lines walk id same =
    same_on_row rows lines walk id (λ row. with_line lines (entered id row above projects)) (λ row. with_entered walk (entered id row above projects)) same
    (λ row. same_with lines walk (entered id row above projects) same)
lined_same (suc levels) rows above projects lines walk id same =
    same_on_row rows lines walk id (λ row. fold (lined levels rows (id ∷ above) (projects_below row id projects)) (with_line lines (entered id row above projects)) row.children)
    (λ row. fold (walked levels rows (id ∷ above) (projects_below row id projects)) (with_entered walk (entered id row above projects)) row.children) same
    (λ row. same_folded (lined levels rows (id ∷ above) (projects_below row id projects)) (walked levels rows (id ∷ above) (projects_below row id projects))
    (λ more other child still. lined_same levels rows (id ∷ above) (projects_below row id projects) more other child still) row.children
    (with_line lines (entered id row above projects)) (with_entered walk (entered id row above projects)) (same_with lines walk (entered id row above projects) same))

-- so from the root it is the walk of the tree
pub lined_tree : (c : Cluster) → lined most_levels c.shares [] [] (record { order = []; lines = [] }) root_id ≡ walk_of (tree_of c)
unfolding tree_of
lined_tree c =
    let same = lined_same most_levels c.shares [] [] (record { order = []; lines = [] }) nothing_walked root_id (record { order = refl; lines = refl; by_id = refl }) in
    λ i. record { order = same.order i; lines = (same.lines ∙ ap (λ (nodes : List (ℕ × Entered)). lines_of nodes) same.by_id) i }

-- the turns of a walk: where the node may not be entered, where there may be no level below it, and where there may be some
pub nothing_lined : (levels : ℕ) (rows : List (ℕ × ShareNode)) (above projects : List ℕ) (walk : Walk) (id : ℕ) → row_to_line rows walk id ≡ None → walk ≡ lined levels rows above projects walk id
nothing_lined zero rows above projects walk id none =
    ap (λ (o : Option ShareNode). elim o as (λ o. Walk) [ None ↦ walk | Some row ↦ with_line walk (entered id row above projects) ]) (sym none)
nothing_lined (suc levels) rows above projects walk id none =
    ap (λ (o : Option ShareNode). elim o as (λ o. Walk) [
      | None ↦ walk
      | Some row ↦ fold (lined levels rows (id ∷ above) (projects_below row id projects)) (with_line walk (entered id row above projects)) row.children
    ]) (sym none)

pub last_lined : (levels : ℕ) (rows : List (ℕ × ShareNode)) (above projects : List ℕ) (walk : Walk) (id : ℕ) (row : ShareNode) → levels ≡ 0 → row_to_line rows walk id ≡ Some row
    → with_line walk (entered id row above projects) ≡ lined levels rows above projects walk id
last_lined levels rows above projects walk id row zero_is found =
    ap (λ (o : Option ShareNode). elim o as (λ o. Walk) [ None ↦ walk | Some row ↦ with_line walk (entered id row above projects) ]) (sym found)
    ∙ ap (λ (n : ℕ). lined n rows above projects walk id) (sym zero_is)

pub more_lined : (levels : ℕ) (rows : List (ℕ × ShareNode)) (above projects : List ℕ) (walk : Walk) (id : ℕ) (row : ShareNode) → levels ≡ suc (levels - 1) → row_to_line rows walk id ≡ Some row
    → fold (lined (levels - 1) rows (id ∷ above) (projects_below row id projects)) (with_line walk (entered id row above projects)) row.children ≡ lined levels rows above projects walk id
more_lined levels rows above projects walk id row more_is found =
    ap (λ (o : Option ShareNode). elim o as (λ o. Walk) [
      | None ↦ walk
      | Some row ↦ fold (lined (levels - 1) rows (id ∷ above) (projects_below row id projects)) (with_line walk (entered id row above projects)) row.children
    ]) (sym found)
    ∙ ap (λ (n : ℕ). lined n rows above projects walk id) (sym more_is)

-- the same as a call's clauses tell of it
pub walk_stays : (levels : ℕ) (rows : List (ℕ × ShareNode)) (above projects : List ℕ) (walk : Walk) (id : ℕ) → None ≡ row_to_line rows walk id → walk ≡ lined levels rows above projects walk id
walk_stays levels rows above projects walk id none = nothing_lined levels rows above projects walk id (sym none)

pub walk_ends : (levels : ℕ) (rows : List (ℕ × ShareNode)) (above projects : List ℕ) (walk more : Walk) (id : ℕ) (row : ShareNode) → Some row ≡ row_to_line rows walk id
    → more ≡ with_line walk (entered id row above projects) → levels ≡ 0 → more ≡ lined levels rows above projects walk id
walk_ends levels rows above projects walk more id row found put zero_is = put ∙ last_lined levels rows above projects walk id row zero_is (sym found)

pub walk_goes_on : (levels : ℕ) (rows : List (ℕ × ShareNode)) (above projects : List ℕ) (walk more all : Walk) (id : ℕ) (row : ShareNode) (line below children : List ℕ) → Some row ≡ row_to_line rows walk id
    → more ≡ with_line walk (entered id row above projects) → 1 ≤ levels → line ≡ id ∷ above → below ≡ projects_below row id projects → children ≡ row.children
    → all ≡ fold (lined (levels - 1) rows line below) more children → all ≡ lined levels rows above projects walk id
walk_goes_on levels rows above projects walk more all id row line below children found put some line_is below_is children_are walked_all =
    let more_is : levels ≡ suc (levels - 1) = omega (arith, some) in
    walked_all ∙ (λ i. fold (lined (levels - 1) rows (line_is i) (below_is i)) (put i) (children_are i)) ∙ more_lined levels rows above projects walk id row more_is (sym found)
