-- What is computed by parents is what the definition says by the nodes above.
use Rattle.std.proofs.Common.{◌≡◌, refl, ap, sym, ◌∙◌}
use Rattle.std.specs.Prelude.{ℕ, ◌==◌, if◌then◌else◌, List, [], ◌∷◌, fold, Option, Some, None, unwrap_or}
use Rattle.std.specs.Option.{option_map}
use Rattle.std.specs.BTreeMap.{is_at}
use Rattle.std.specs.Ordering.{nat_cmp}
use Rattle.std.proofs.lemmas.List.Folds.{fold-map}
use Rattle.std.proofs.lemmas.Map.Made.{lookup-map_values}
use Rattle.ge_collections.specs.Keyed.{at_number, put_number}
use Rattle.ge_model_rows.specs.ClusterRows.{Cluster}
use Rattle.ge_model_order.specs.Amounts.{portion}
use Rattle.ge_model_order.specs.Share.{weight, weight_below, weights_by_node, tickets_below, divided, tickets_by_node}
use Rattle.ge_model_order.specs.ShareTree.{Entered}
use Rattle.ge_model_order.specs.ShareTables.{LeafKey, amount_at, raised_amount, with_part, children_sums, child_counts, with_leaf, with_node, scopes_below, scope_of_project, places_of, leaf_at, line_up, line_from, line_at}
use Rattle.ge_tickets.specs.Nodes.{parent_of, line_of, walk_of}
use Rattle.ge_tickets.specs.Found.{with_child, with_projects, with_node_found, finder_of, places_by, line_by}
use Rattle.ge_tickets.specs.Leveled.{sums_of, node_weight, weights_of, node_tickets, tickets_down, tickets_in}

-- what a node adds at its parent
at_parent : (part : ℕ) (sums : List (ℕ × ℕ)) (node : Entered) (above : List ℕ) (p : Entered → ℕ) → p node ≡ part
    → (elim (parent_of above) as (λ o. List (ℕ × ℕ)) [ None ↦ sums | Some parent ↦ raised_amount part sums parent ]) ≡ with_part p sums node above
at_parent part sums node [] p is = refl
at_parent part sums node (parent ∷ above) p is = ap (λ (n : ℕ). raised_amount n sums parent) (sym is)

pub children_same : (tree : List Entered) → fold with_child [] tree ≡ child_counts tree
children_same tree = λ i. fold (λ sums node. at_parent 1 sums node node.above (λ other. 1) refl i) [] tree

sums_same : (parts : List (ℕ × ℕ)) (tree : List Entered) → sums_of parts tree ≡ children_sums (λ node. amount_at parts node.id) tree
sums_same parts tree = λ i. fold (λ sums node. at_parent (amount_at parts node.id) sums node node.above (λ other. amount_at parts other.id) refl i) [] tree

weight_same : (usage jobs sums : List (ℕ × ℕ)) (node : Entered) → node_weight usage jobs sums node ≡ weight_below usage jobs sums node node.above
weight_same usage jobs sums node = by node.above
  where
    by : (above : List ℕ) → (elim (parent_of above) as (λ o. ℕ) [ None ↦ 0 | Some parent ↦ if amount_at jobs node.id == 0 then 0 else weight node.row.shares (amount_at usage node.id) (amount_at sums parent) ])
        ≡ weight_below usage jobs sums node above
    by [] = refl
    by (parent ∷ above) = refl

weights_same : (usage jobs sums : List (ℕ × ℕ)) (tree : List Entered) → weights_of usage jobs sums tree ≡ weights_by_node usage jobs sums tree
weights_same usage jobs sums tree = λ i. fold (λ weights node. put_number weights node.id (weight_same usage jobs sums node i)) [] tree

tickets_same : (all : ℕ) (weights sums known : List (ℕ × ℕ)) (node : Entered) → node_tickets all weights sums known node ≡ tickets_below all weights sums known node node.above
tickets_same all weights sums known node = by node.above
  where
    by : (above : List ℕ) → (elim (parent_of above) as (λ o. ℕ) [ None ↦ all | Some parent ↦ portion (amount_at known parent) (amount_at weights node.id) (amount_at sums parent) ])
        ≡ tickets_below all weights sums known node above
    by [] = refl
    by (parent ∷ above) = refl

down_same : (all : ℕ) (weights sums : List (ℕ × ℕ)) (tree : List Entered) → tickets_down all weights sums tree ≡ divided all weights sums tree
down_same all weights sums tree = λ i. fold (λ known node. put_number known node.id (tickets_same all weights sums known node i)) [] tree

-- the tickets of all nodes
pub tickets_linked : (c : Cluster) (usage jobs : List (ℕ × ℕ)) (tree : List Entered) → tickets_in c.sched.share usage jobs tree ≡ tickets_by_node c usage jobs tree
tickets_linked c usage jobs tree =
    let used = sums_same usage tree in
    let heavy = ap (λ (sums : List (ℕ × ℕ)). weights_of usage jobs sums tree) used ∙ weights_same usage jobs (children_sums (λ node. amount_at usage node.id) tree) tree in
    ap (λ (rows : List (ℕ × ℕ)). tickets_down c.sched.share rows (sums_of rows tree) tree) heavy
    ∙ (let all = weights_by_node usage jobs (children_sums (λ node. amount_at usage node.id) tree) tree in
    ap (λ (sums : List (ℕ × ℕ)). tickets_down c.sched.share all sums tree) (sums_same all tree) ∙ down_same c.sched.share all (children_sums (λ node. amount_at all node.id) tree) tree)

-- the four steps of a division, each from the one before
pub levels_same : (all : ℕ) (usage jobs : List (ℕ × ℕ)) (tree : List Entered) (used weights heavy tickets : List (ℕ × ℕ)) → used ≡ sums_of usage tree → weights ≡ weights_of usage jobs used tree
    → heavy ≡ sums_of weights tree → tickets ≡ tickets_down all weights heavy tree → tickets ≡ tickets_in all usage jobs tree
levels_same all usage jobs tree used weights heavy tickets used_is weights_are heavy_is tickets_are =
    let weighed : weights ≡ weights_of usage jobs (sums_of usage tree) tree = weights_are ∙ ap (λ (sums : List (ℕ × ℕ)). weights_of usage jobs sums tree) used_is in
    tickets_are ∙ ap (λ (sums : List (ℕ × ℕ)). tickets_down all weights sums tree) heavy_is ∙ ap (λ (rows : List (ℕ × ℕ)). tickets_down all rows (sums_of rows tree) tree) weighed

-- a leaf in all its scopes
scopes_same : (id : ℕ) (name projects : List ℕ) (leaves : List (LeafKey × ℕ)) → with_projects id name projects leaves ≡ fold (with_leaf id name) leaves (scopes_below projects)
scopes_same id name [] leaves = refl
scopes_same id name (project ∷ projects) leaves = sym (fold-map (with_leaf id name) scope_of_project leaves (project ∷ projects))

node_same : (children : List (ℕ × ℕ)) (leaves : List (LeafKey × ℕ)) (node : Entered) → with_node_found children leaves node ≡ with_node children leaves node
node_same children leaves node = λ i. if node.row.project then leaves else if amount_at children node.id == 0 then scopes_same node.id node.row.name node.projects leaves i else leaves

abbrev leaves_found : List (ℕ × ℕ) → List Entered → List (LeafKey × ℕ)
leaves_found children tree = fold (with_node_found children) [] tree

leaves_same : (tree : List Entered) → leaves_found (fold with_child [] tree) tree ≡ (places_of tree).leaves
leaves_same tree =
    ap (λ (children : List (ℕ × ℕ)). leaves_found children tree) (children_same tree) ∙ (λ i. fold (λ leaves node. node_same (child_counts tree) leaves node i) [] tree)

-- the leaf of a user and project is found
pub leaf_same : (tree : List Entered) (lines : List (ℕ × List ℕ)) (user project : List ℕ) → leaf_at (places_by (finder_of tree lines)) user project ≡ leaf_at (places_of tree) user project
leaf_same tree lines user project = λ i.
    leaf_at (record { nodes = []; children = children_same tree i; projects = (places_of tree).projects; leaves = leaves_same tree i }) user project

-- and its line
pub line_same : (tree : List Entered) (user project : List ℕ) → line_by (finder_of tree (walk_of tree).lines) user project ≡ line_at (places_of tree) user project
line_same tree user project =
    ap (λ (leaf : Option ℕ). elim leaf as (λ o. List ℕ) [ None ↦ [] | Some id ↦ unwrap_or (at_number (walk_of tree).lines id) [] ]) (leaf_same tree (walk_of tree).lines user project)
    ∙ by (leaf_at (places_of tree) user project)
  where
    up : (node : Option Entered) → unwrap_or (option_map line_of node) [] ≡ line_up node
    up None = refl
    up (Some node) = refl

    by : (leaf : Option ℕ) → (elim leaf as (λ o. List ℕ) [ None ↦ [] | Some id ↦ unwrap_or (at_number (walk_of tree).lines id) [] ]) ≡ line_from (places_of tree) leaf
    by None = refl
    by (Some id) = ap (λ (line : Option (List ℕ)). unwrap_or line []) (lookup-map_values line_of (is_at (nat_cmp id)) (places_of tree).nodes) ∙ up (at_number (places_of tree).nodes id)
