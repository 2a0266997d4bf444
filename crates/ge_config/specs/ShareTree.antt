-- A share tree, as it is walked: which ids are read and named, which have a parent, and what is left of a walk.
use Rattle.std.specs.Prelude.{ℕ, zero, suc, ◌+◌, ◌^◌, ◌==◌, Bool, true, not, ◌&&◌, ◌||◌, nat_lt, if◌then◌else◌, List, [], ◌++◌, length, slice_get, fold, flat_map, Option, Some, None}
use Rattle.std.specs.List.{list_all}
use Rattle.ge_base.specs.declared.refusal.Refusal.{Refusal}
use Rattle.ge_base.specs.declared.refusal.Refusal.TheVariants.{Exists, Limit}
use Rattle.ge_limits.specs.Limits as limit
use Rattle.ge_model_rows.specs.ClusterRows.{Cluster}
use Rattle.ge_model_rows.specs.PeopleRows.{ShareNode}
use Rattle.ge_model_rows.specs.Faults.{when}
use Rattle.ge_model_rows.specs.Pieces.{is_empty, is_one_of, lists_number, with_one_number, each_number_once}
use Rattle.ge_model_grammar.specs.declared.NodeLines.{NodeLines}
use Rattle.ge_model_config.specs.Shares.{all_children, children_at, nodes_below, user_name, names_differ, line_faults, node_faults, tree_faults, below_projects}

-- whether all ids of a table are below 2^32
abbrev pub has_short_ids : List (ℕ × ShareNode) → Bool
has_short_ids table = list_all (λ node. nat_lt node.0 (2 ^ 32)) table

-- the children that were met, and those met twice, after one more
abbrev pub with_child : List ℕ × List ℕ → ℕ → List ℕ × List ℕ
with_child met child = (with_one_number met.0 child, if lists_number met.0 child then with_one_number met.1 child else met.1)

-- of all children, those that are one, and those that are one twice
abbrev pub met_children : List ℕ → List ℕ × List ℕ
met_children children = fold with_child ([], []) children

-- what refuses nodes, each by itself and all together, and their shape where nothing else does
abbrev pub nodes_refused : Cluster → List NodeLines → List (ℕ × ShareNode) → List ℕ → List Refusal
nodes_refused c lines nodes owned = tree_faults nodes owned (flat_map (line_faults c) lines ++ node_faults lines nodes owned)

-- what refuses a share tree
abbrev pub share_faults : Cluster → Bool → List NodeLines → List (ℕ × ShareNode) → List Refusal
share_faults c adding lines nodes =
    when (adding && not (is_empty c.shares)) Exists
    ++ nodes_refused c lines nodes (below_projects nodes)
    ++ when (nat_lt limit.share_nodes (length lines)) Limit

-- ---- scopes by their parts

-- the nodes met, and all that a way down reaches from them: place by place, what is below a node joins those met
abbrev pub walked : (ℕ → List ℕ) → ℕ → List ℕ → ℕ → List ℕ
walked below zero met place = met
walked below (suc places) met place =
    elim (slice_get met place) [ None ↦ met | Some id ↦ walked below places (fold with_one_number met (below id)) (place + 1) ]

-- a way down that doesn't pass the root
abbrev pub below_past : (ℕ → List ℕ) → ℕ → List ℕ
below_past below id = if id == 0 then [] else below id

-- the nodes below a node, the root not passed
abbrev pub part_below : List (ℕ × ShareNode) → ℕ → List ℕ
part_below table id = walked (below_past (children_at table)) (length (all_children table)) (each_number_once (children_at table id)) 0

-- the root and what is below it
abbrev pub root_scope : List (ℕ × ShareNode) → List ℕ
root_scope table = with_one_number (nodes_below table 0) 0

-- whether a node is one of these, or has none of these names
abbrev pub fits_beside : (ℕ → Option (List ℕ)) → List ℕ → List (List ℕ) → ℕ → Bool
fits_beside name ids names id = lists_number ids id || elim (name id) [ None ↦ true | Some text ↦ not (is_one_of text names) ]

-- whether names differ in a part, and where it has the root, beside the nodes of that scope and their names, which differ
abbrev pub part_differs : List (ℕ × ShareNode) → List ℕ → List (List ℕ) → Bool → List ℕ → Bool
part_differs table ids names differ part =
    names_differ table part && (not (lists_number part 0) || (differ && list_all (fits_beside (user_name table) ids names) part))
