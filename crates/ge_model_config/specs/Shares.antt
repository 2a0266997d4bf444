-- The share tree read from a body and printed (share_tree).
use Rattle.std.specs.Prelude.{ℕ, zero, suc, min, ◌+◌, ◌-◌, ◌^◌, ◌==◌, Bool, true, false, not, ◌&&◌, ◌||◌, nat_lt, if◌then◌else◌, List, [], ◌∷◌, ◌++◌, length, slice_get, fold, map, flat_map, filter, filter_map, count_by, Option, Some, None, is_none, codes, decimal}
use Rattle.std.specs.List.{list_any, list_all}
use Rattle.std.specs.Map.{keys_of}
use Rattle.ge_collections.specs.Keyed.{text_eq, at_number, put_number}
use Rattle.ge_base.specs.declared.refusal.Refusal.{Refusal}
use Rattle.ge_base.specs.declared.refusal.Refusal.TheVariants.{NoSuchObject, Exists, BadValue, Cycle, Limit}
use Rattle.ge_limits.specs.Limits as limit
use Rattle.ge_model_rows.specs.ClusterRows.{Cluster}
use Rattle.ge_model_rows.specs.EntryRows.{Item}
use Rattle.ge_model_rows.specs.PeopleRows.{ShareNode}
use Rattle.ge_model_rows.specs.ValueRows.{Value, Kind}
use Rattle.ge_model_grammar.specs.Names.{is_name}
use Rattle.ge_model_rows.specs.Faults.{when}
use Rattle.ge_model_rows.specs.Pieces.{is_empty, lists_number, each_number_once, with_one_number, list_items, is_digits, number_of, list_text}
use Rattle.ge_model_rows.specs.Values.{value_of, amount_in}
use Rattle.ge_model_grammar.specs.declared.NodeLines.{NodeLines}
use Rattle.ge_model_config.specs.Cited.{Read, number_read, cited, has_name}
use Rattle.ge_model_config.specs.Complexes.{are_distinct}

-- ---- the nodes as they are written

-- an id is below 2^32
abbrev pub id_within : Option Value → Option ℕ
id_within None = None
id_within (Some value) = if nat_lt (amount_in value) (2 ^ 32) then Some (amount_in value) else None

-- the id of a node, where it has one
abbrev pub id_of : NodeLines → Option ℕ
id_of lines = id_within (value_of Kind.Int lines.id)

-- the children that are numbers, however wide
abbrev pub child_numbers : NodeLines → List ℕ
child_numbers lines = map number_of (filter is_digits (list_items lines.children))

-- a number cut at the end of its type
abbrev pub id_cut : ℕ → ℕ
id_cut n = min n (2 ^ 32 - 1)

-- whether a node is that of a project
abbrev pub is_project_line : NodeLines → Bool
is_project_line lines = text_eq lines.sort (codes "1")

-- the shares of a node, below 2^32
abbrev pub shares_of : NodeLines → Read ℕ
shares_of lines = number_read Kind.Int 0 (2 ^ 32 - 1) lines.shares

-- the node, whatever its id
abbrev pub node_from_lines : NodeLines → ShareNode
node_from_lines lines = record { name = lines.name; project = is_project_line lines; shares = (shares_of lines).0; children = map id_cut (child_numbers lines) }

-- a table with a node under its id, where it has one
abbrev pub put_node : List (ℕ × ShareNode) → NodeLines → List (ℕ × ShareNode)
put_node table lines = elim (id_of lines) [ None ↦ table | Some id ↦ put_number table id (node_from_lines lines) ]

-- the nodes by id
abbrev pub nodes_of : List NodeLines → List (ℕ × ShareNode)
nodes_of nodes = fold put_node [] nodes

-- the values of one node: a project node names a project
abbrev pub line_faults : Cluster → NodeLines → List Refusal
line_faults c lines =
    when (is_none (id_of lines) || not (is_project_line lines || text_eq lines.sort (codes "0"))) BadValue
    ++ when (not (is_name lines.name) || not (list_all is_digits (list_items lines.children))) BadValue
    ++ (shares_of lines).1
    ++ (if is_project_line lines then cited (has_name c.projects) (lines.name ∷ []) else [])

-- ---- the tree

-- whether no number comes twice
abbrev pub are_different : List ℕ → Bool
are_different [] = true
are_different (id ∷ ids) = not (lists_number ids id) && are_different ids

-- the children of a node, none where it isn't there
abbrev pub children_at : List (ℕ × ShareNode) → ℕ → List ℕ
children_at table id = elim (at_number table id) [ None ↦ [] | Some node ↦ node.children ]

-- whether the node with an id is a project's
abbrev pub is_project_at : List (ℕ × ShareNode) → ℕ → Bool
is_project_at table id = elim (at_number table id) [ None ↦ false | Some node ↦ node.project ]

-- all children, each as often as it is one
abbrev pub all_children : List (ℕ × ShareNode) → List ℕ
all_children table = flat_map (λ node. node.1.children) table

-- the nodes met, and all below them: place by place, the children of a node join those met, each once. There are no more
-- places than children
abbrev pub reached_nodes : ℕ → List (ℕ × ShareNode) → List ℕ → ℕ → List ℕ
reached_nodes zero table met place = met
reached_nodes (suc places) table met place =
    elim (slice_get met place) [ None ↦ met | Some id ↦ reached_nodes places table (fold with_one_number met (children_at table id)) (place + 1) ]

-- the nodes below these, each once, by one walk down from all of them
abbrev pub below_all : List (ℕ × ShareNode) → List ℕ → List ℕ
below_all table ids = reached_nodes (length (all_children table)) table (each_number_once (flat_map (children_at table) ids)) 0

-- the nodes below a node
abbrev pub nodes_below : List (ℕ × ShareNode) → ℕ → List ℕ
nodes_below table id = below_all table (id ∷ [])

-- each node but the root, id 0, is the child of just one
abbrev pub has_one_parent : List ℕ → ℕ → Bool
has_one_parent children id = id == 0 || count_by (λ child. child == id) children == 1

-- the nodes of projects
abbrev pub projects_in : List (ℕ × ShareNode) → List ℕ
projects_in table = filter (is_project_at table) (keys_of table)

-- the nodes below those of projects
abbrev pub below_projects : List (ℕ × ShareNode) → List ℕ
below_projects table = below_all table (projects_in table)

-- no project node is among these
abbrev pub has_no_project : List (ℕ × ShareNode) → List ℕ → Bool
has_no_project table ids = not (list_any (is_project_at table) ids)

-- the name of the node with an id, unless it is a project's
abbrev pub user_name : List (ℕ × ShareNode) → ℕ → Option (List ℕ)
user_name table id = elim (at_number table id) [ None ↦ None | Some node ↦ if node.project then None else Some node.name ]

-- the names of the nodes among these that aren't of projects differ
abbrev pub names_differ : List (ℕ × ShareNode) → List ℕ → Bool
names_differ table ids = are_distinct (filter_map (user_name table) ids)

-- the ids of which none is one of these
abbrev pub ids_outside : List ℕ → List ℕ → List ℕ
ids_outside part ids = filter (λ id. not (lists_number part id)) ids

-- a scope is what is below one project, or what is below none: in each the names differ
abbrev pub scopes_differ : List (ℕ × ShareNode) → List ℕ → Bool
scopes_differ table owned = names_differ table (ids_outside owned (keys_of table)) && list_all (λ id. names_differ table (nodes_below table id)) (projects_in table)

-- where each node has one parent, nodes go round where the root is a child or doesn't reach all others
abbrev pub goes_round : List (ℕ × ShareNode) → List ℕ → Bool
goes_round table below_root = lists_number below_root 0 || not (list_all (λ id. id == 0 || lists_number below_root id) (keys_of table))

-- the nodes so many levels below these
abbrev pub level_below : ℕ → List (ℕ × ShareNode) → List ℕ → List ℕ
level_below zero table ids = ids
level_below (suc levels) table ids = level_below levels table (flat_map (children_at table) ids)

-- a tree is at most 16 levels deep
abbrev pub is_deep : List (ℕ × ShareNode) → Bool
is_deep table = not (is_empty (level_below 17 table (0 ∷ [])))

-- what is asked of nodes that nothing else refuses: no cycle, and then no more than 16 levels
abbrev pub depth_faults : List (ℕ × ShareNode) → List Refusal
depth_faults table = elim (goes_round table (nodes_below table 0)) [ true ↦ Cycle ∷ [] | false ↦ when (is_deep table) Limit ]

-- what the ids, the children and the projects make wrong: no project is below one, itself included
abbrev pub node_faults : List NodeLines → List (ℕ × ShareNode) → List ℕ → List Refusal
node_faults nodes table owned =
    when (not (are_different (filter_map id_of nodes))) BadValue
    ++ when (list_any (λ child. is_none (at_number table child)) (flat_map child_numbers nodes)) NoSuchObject
    ++ when (not (list_all (has_one_parent (all_children table)) (keys_of table))) BadValue
    ++ when (not (has_no_project table owned)) BadValue

-- names, and then cycles and levels, are asked of nodes that nothing else refuses
abbrev pub tree_faults : List (ℕ × ShareNode) → List ℕ → List Refusal → List Refusal
tree_faults table owned [] = elim (scopes_differ table owned) [ true ↦ depth_faults table | false ↦ BadValue ∷ [] ]
tree_faults table owned (fault ∷ faults) = fault ∷ faults

-- the share tree: added where there is none; there are at most 10,000 nodes
unfoldable pub shares_item : Cluster → Bool → List NodeLines → Read Item
shares_item c adding nodes =
    let table = nodes_of nodes in
    let owned = below_projects table in (
      Item.Shares table,
      when (adding && not (is_empty c.shares)) Exists
          ++ tree_faults table owned (flat_map (line_faults c) nodes ++ node_faults nodes table owned)
          ++ when (nat_lt limit.share_nodes (length nodes)) Limit,
    )

-- ---- printed

-- a node of the share tree: five lines (share_tree)
abbrev pub node_lines : ℕ × ShareNode → List (List ℕ)
node_lines node =
    (codes "id=" ++ decimal node.0)
    ∷ (codes "name=" ++ node.1.name)
    ∷ (codes "type=" ++ (if node.1.project then codes "1" else codes "0"))
    ∷ (codes "shares=" ++ decimal node.1.shares)
    ∷ (codes "childnodes=" ++ list_text (map decimal node.1.children))
    ∷ []
