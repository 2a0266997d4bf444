-- The walk of the share tree, with the line of each node beside it (share_tree).
use Rattle.std.specs.Prelude.{ℕ, zero, suc, if◌then◌else◌, List, [], ◌∷◌, ◌++◌, map, fold, Option, Some, None, is_some}
use Rattle.ge_collections.specs.Keyed.{at_number, put_number}
use Rattle.ge_model_rows.specs.PeopleRows.{ShareNode}
use Rattle.ge_model_order.specs.ShareTree.{Entered, entered, projects_below}
use Rattle.ge_model_order.specs.ShareTables.{places_of}
use Rattle.ge_tickets.specs.declared.walking.Walk.{Walk}

-- the node from which a node was entered, where the nodes above it are these
abbrev pub parent_of : List ℕ → Option ℕ
parent_of [] = None
parent_of (parent ∷ above) = Some parent

-- a node and those above it
abbrev pub line_of : Entered → List ℕ
line_of node = node.id ∷ node.above

-- the lines of nodes by id
abbrev pub lines_of : List (ℕ × Entered) → List (ℕ × List ℕ)
lines_of nodes = map (λ e. (e.0, line_of e.1)) nodes

-- the walk with one more node
abbrev pub with_line : Walk → Entered → Walk
with_line walk node = record { order = walk.order ++ node ∷ []; lines = put_number walk.lines node.id (line_of node) }

-- the row of a node that may be entered
abbrev pub row_to_line : List (ℕ × ShareNode) → Walk → ℕ → Option ShareNode
row_to_line rows walk id = if is_some (at_number walk.lines id) then None else at_number rows id

-- the walk, with what one more node adds, as many levels below it as these
abbrev pub lined : ℕ → List (ℕ × ShareNode) → List ℕ → List ℕ → Walk → ℕ → Walk
lined zero rows above projects walk id = elim (row_to_line rows walk id) [
  | None ↦ walk
  | Some row ↦ with_line walk (entered id row above projects)
]
lined (suc levels) rows above projects walk id = elim (row_to_line rows walk id) [
  | None ↦ walk
  | Some row ↦ fold (lined levels rows (id ∷ above) (projects_below row id projects)) (with_line walk (entered id row above projects)) row.children
]

-- the walk of a tree with these nodes
abbrev pub walk_of : List Entered → Walk
walk_of tree = record { order = tree; lines = lines_of (places_of tree).nodes }
