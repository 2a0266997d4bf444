-- What is kept of a walked tree to find the leaf of a user and project (share_tree).
use Rattle.std.specs.Prelude.{ℕ, List, [], ◌∷◌, fold, Some, None, unwrap_or, ◌==◌, if◌then◌else◌}
use Rattle.ge_collections.specs.Keyed.{at_number}
use Rattle.ge_model_order.specs.ShareTree.{Entered}
use Rattle.ge_model_order.specs.ShareTables.{Places, outside, scope_of_project, with_leaf, with_project, LeafKey, amount_at, raised_amount, leaf_at}
use Rattle.ge_tickets.specs.declared.finding.LeafFinder.{LeafFinder}
use Rattle.ge_tickets.specs.Nodes.{parent_of}

-- one child more at the parent of a node
abbrev pub with_child : List (ℕ × ℕ) → Entered → List (ℕ × ℕ)
with_child counts node = elim (parent_of node.above) [ None ↦ counts | Some parent ↦ raised_amount 1 counts parent ]

-- a leaf in the scopes of these projects, or outside of all where there is none
abbrev pub with_projects : ℕ → List ℕ → List ℕ → List (LeafKey × ℕ) → List (LeafKey × ℕ)
with_projects id name [] leaves = with_leaf id name leaves outside
with_projects id name (project ∷ projects) leaves = fold (λ more other. with_leaf id name more (scope_of_project other)) leaves (project ∷ projects)

-- a node in all its scopes, if it is a leaf and no project
abbrev pub with_node_found : List (ℕ × ℕ) → List (LeafKey × ℕ) → Entered → List (LeafKey × ℕ)
with_node_found children leaves node =
    if node.row.project then leaves else if amount_at children node.id == 0 then with_projects node.id node.row.name node.projects leaves else leaves

-- what is kept of these nodes, whose lines are these
abbrev pub finder_of : List Entered → List (ℕ × List ℕ) → LeafFinder
finder_of tree lines =
    let children = fold with_child [] tree in
    record { children = children; projects = fold with_project [] tree; leaves = fold (with_node_found children) [] tree; lines = lines }

-- the same as the places of the definition, but for the nodes
abbrev pub places_by : LeafFinder → Places
places_by finder = record { nodes = []; children = finder.children; projects = finder.projects; leaves = finder.leaves }

-- the line from the leaf of a user and project up
abbrev pub line_by : LeafFinder → List ℕ → List ℕ → List ℕ
line_by finder user project = elim (leaf_at (places_by finder) user project) [ None ↦ [] | Some id ↦ unwrap_or (at_number finder.lines id) [] ]
