-- The share tree: which nodes are walked, and in which order (share_tree).
use Rattle.std.specs.Prelude.{ℕ, zero, suc, Bool, ◌==◌, if◌then◌else◌, List, [], ◌∷◌, ◌++◌, fold, Option, Some, None, is_some}
use Rattle.ge_collections.specs.Keyed.{at_number, put_number}
use Rattle.ge_limits.specs.Limits as limit
use Rattle.ge_model_rows.specs.ClusterRows.{Cluster}
use Rattle.ge_model_rows.specs.PeopleRows.{ShareNode}
use Rattle.ge_model_rows.specs.Pieces.{lists_number}

-- a node that the walk enters, with the nodes above it, nearest first, and the project nodes among them
pub record Entered : Type 0 where
  pub id : ℕ
  pub row : ShareNode
  pub above : List ℕ
  pub projects : List ℕ

-- the root has the number 0, and no node is walked that lies more levels below it
abbrev pub root_id : ℕ
root_id = 0

abbrev pub most_levels : ℕ
most_levels = limit.share_levels

-- the project nodes above the children of a node
abbrev pub projects_below : ShareNode → ℕ → List ℕ → List ℕ
projects_below row id projects = if row.project then id ∷ projects else projects

-- a node that is entered below others
abbrev pub entered : ℕ → ShareNode → List ℕ → List ℕ → Entered
entered id row above projects = record { id = id; row = row; above = above; projects = projects }

-- what the walk has so far: the nodes in the order in which it entered them, and the same by id
pub record NodeWalk : Type 0 where
  pub order : List Entered
  pub by_id : List (ℕ × Entered)

abbrev pub nothing_walked : NodeWalk
nothing_walked = record { order = []; by_id = [] }

abbrev pub with_entered : NodeWalk → Entered → NodeWalk
with_entered walk node = record { order = walk.order ++ node ∷ []; by_id = put_number walk.by_id node.id node }

-- the row of a node that may be entered: it is there, and the walk didn't enter it before
abbrev pub row_to_enter : List (ℕ × ShareNode) → NodeWalk → ℕ → Option ShareNode
row_to_enter rows walk id = if is_some (at_number walk.by_id id) then None else at_number rows id

-- the walk, with what one more node adds: the node itself, and then what lies below each of its children, in their order, where
-- there may be levels below it
abbrev pub walked : ℕ → List (ℕ × ShareNode) → List ℕ → List ℕ → NodeWalk → ℕ → NodeWalk
walked zero rows above projects walk id = elim (row_to_enter rows walk id) [
  | None ↦ walk
  | Some row ↦ with_entered walk (entered id row above projects)
]
walked (suc levels) rows above projects walk id = elim (row_to_enter rows walk id) [
  | None ↦ walk
  | Some row ↦ fold (walked levels rows (id ∷ above) (projects_below row id projects)) (with_entered walk (entered id row above projects)) row.children
]

-- the nodes that are walked, each before what lies below it
unfoldable pub tree_of : Cluster → List Entered
tree_of c = (walked most_levels c.shares [] [] nothing_walked root_id).order
