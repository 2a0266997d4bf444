-- The rule of the share tree in its own words: each node asks the whole tree for its children, its leaves and its usage (share_tree,
-- sched_conf). `Share` says the same by tables; that the two give the same tickets is proved in `proofs/ShareRuled`.
use Rattle.std.specs.Prelude.{ℕ, zero, suc, false, Bool, not, ◌/◌, ◌^◌, ◌&&◌, max, ◌==◌, if◌then◌else◌, List, [], ◌∷◌, ◌++◌, map, fold, filter, find, count_by, Option, Some, None, unwrap_or, codes}
use Rattle.std.specs.List.{list_any}
use Rattle.std.specs.Option.{option_or}
use Rattle.ge_base.specs.Fixed.{cut_sum, cut_product}
use Rattle.ge_collections.specs.Keyed.{text_eq, at_number, put_number}
use Rattle.ge_model_rows.specs.ClusterRows.{Cluster}
use Rattle.ge_model_rows.specs.JobRows.{Job}
use Rattle.ge_model_rows.specs.PeopleRows.{ShareNode}
use Rattle.ge_model_rows.specs.ValueRows.{million}
use Rattle.ge_model_rows.specs.Pieces.{is_empty}
use Rattle.ge_model_jobs.specs.Usage.{epoch_of, decayed}
use Rattle.ge_model_order.specs.Amounts.{cut_total, cut_at_64, portion, equal_part}
use Rattle.ge_model_order.specs.ShareTree.{Entered, root_id, most_levels, projects_below, entered}
use Rattle.ge_model_rows.specs.Pieces.{lists_number}
use Rattle.ge_model_order.specs.Tickets.{jobs_of}

-- the row of a node that may be entered: it is there, and is none of those that the walk entered
abbrev pub row_unless_entered : List (ℕ × ShareNode) → List Entered → ℕ → Option ShareNode
row_unless_entered rows nodes id = if list_any (λ node. node.id == id) nodes then None else at_number rows id

-- the nodes that were entered, with those that the walk of one more adds: the node itself, and then what lies below each of its
-- children, in their order, where there may be levels below it
abbrev pub walked_by_rule : ℕ → List (ℕ × ShareNode) → List ℕ → List ℕ → List Entered → ℕ → List Entered
walked_by_rule zero rows above projects nodes id = elim (row_unless_entered rows nodes id) [
  | None ↦ nodes
  | Some row ↦ nodes ++ entered id row above projects ∷ []
]
walked_by_rule (suc levels) rows above projects nodes id = elim (row_unless_entered rows nodes id) [
  | None ↦ nodes
  | Some row ↦ fold (walked_by_rule levels rows (id ∷ above) (projects_below row id projects)) (nodes ++ entered id row above projects ∷ []) row.children
]

-- the nodes that are walked, each before what lies below it
unfoldable pub tree_by_rule : Cluster → List Entered
tree_by_rule c = walked_by_rule most_levels c.shares [] [] [] root_id

-- whether a node was entered from another one
abbrev pub is_first : ℕ → List ℕ → Bool
is_first id [] = false
is_first id (other ∷ above) = other == id

abbrev pub is_child_of : ℕ → Entered → Bool
is_child_of id node = is_first id node.above

-- a node from which none was entered is a leaf
abbrev pub is_leaf : List Entered → Entered → Bool
is_leaf tree node = not (list_any (is_child_of node.id) tree)

-- a leaf of this name that is no project
abbrev pub is_leaf_named : List Entered → List ℕ → Entered → Bool
is_leaf_named tree name node = not node.row.project && text_eq node.row.name name && is_leaf tree node

-- the node of a project; the empty name is no project
abbrev pub is_project_named : List ℕ → Entered → Bool
is_project_named name node = not (is_empty name) && node.row.project && text_eq node.row.name name

abbrev pub project_node : List Entered → List ℕ → Option Entered
project_node tree project = find (is_project_named project) tree

-- the leaf of a user among these nodes: the user's own, else the one named default
abbrev pub user_leaf : List Entered → List Entered → List ℕ → Option Entered
user_leaf tree nodes user = option_or (find (is_leaf_named tree user) nodes) (find (is_leaf_named tree (codes "default")) nodes)

abbrev pub if_leaf : List Entered → Entered → Option Entered
if_leaf tree node = if is_leaf tree node then Some node else None

-- the leaf of a user and project: below the project's node, or that node where it is a leaf; without such a node outside of all projects
abbrev pub leaf_under : List Entered → Option Entered → List ℕ → Option Entered
leaf_under tree None user = user_leaf tree (filter (λ node. is_empty node.projects) tree) user
leaf_under tree (Some project) user = option_or (user_leaf tree (filter (λ node. lists_number node.projects project.id) tree) user) (if_leaf tree project)

abbrev pub leaf_of : List Entered → List ℕ → List ℕ → Option Entered
leaf_of tree user project = leaf_under tree (project_node tree project) user

-- where something of a user and project counts: at their leaf and at each node above it
abbrev pub line_to : Option Entered → List ℕ
line_to None = []
line_to (Some leaf) = leaf.id ∷ leaf.above

abbrev pub node_line : List Entered → List ℕ → List ℕ → List ℕ
node_line tree user project = line_to (leaf_of tree user project)

-- an amount of usage now, and where it counts
pub record Charge : Type 0 where
  pub nodes : List ℕ
  pub amount : ℕ

abbrev pub charge_of : Cluster → ℕ → List Entered → (List ℕ × List ℕ × ℕ) × ℕ → Charge
charge_of c now tree row = record { nodes = node_line tree row.0.0 row.0.1; amount = decayed row.1 row.0.2 (epoch_of now c.sched.halftime) }

abbrev pub charges_of : Cluster → ℕ → List Entered → List Charge
charges_of c now tree = map (charge_of c now tree) c.usage

-- what one charge adds to a node
abbrev pub charged_at : ℕ → Charge → ℕ
charged_at id charge = if lists_number charge.nodes id then charge.amount else 0

-- a node with its usage and the number of jobs at it or below
pub record Weighed : Type 0 where
  pub node : Entered
  pub usage : ℕ
  pub jobs : ℕ

abbrev pub weighed : List Charge → List (List ℕ) → Entered → Weighed
weighed charges lines node = record { node = node; usage = cut_total (charged_at node.id) charges; jobs = count_by (λ line. lists_number line node.id) lines }

-- the nodes of a tree, with the usage at a moment and these jobs
abbrev pub weighed_tree : Cluster → List Job → ℕ → List Entered → List Weighed
weighed_tree c jobs now tree =
    let charges = charges_of c now tree in
    let lines = map (λ job. node_line tree job.owner job.project) jobs in
    map (weighed charges lines) tree

abbrev pub weighed_children : List Weighed → ℕ → List Weighed
weighed_children nodes id = filter (λ child. is_child_of id child.node) nodes

-- how a child is weighed: its shares, divided by its part of the usage of all children, with one hundredth added
abbrev pub weight_of_child : ℕ → Weighed → ℕ
weight_of_child usage child =
    cut_product child.node.row.shares (10 ^ 12) / cut_sum (10 ^ 4) (cut_product child.usage million / max 1 usage)

-- the weight of a child where a job lies below it, else 0
abbrev pub weight_with_jobs : ℕ → Weighed → ℕ
weight_with_jobs usage child = if child.jobs == 0 then 0 else weight_of_child usage child

-- what a child has of the tickets of its parent, whose children these are
abbrev pub part_of_child : ℕ → List Weighed → Weighed → ℕ
part_of_child tickets children child =
    let usage = cut_total (λ other. other.usage) children in
    portion tickets (weight_with_jobs usage child) (cut_total (weight_with_jobs usage) children)

-- the tickets of a node where those of the nodes before it are known
abbrev pub tickets_below : Cluster → List Weighed → List (ℕ × ℕ) → Weighed → List ℕ → ℕ
tickets_below c nodes known node [] = c.sched.share
tickets_below c nodes known node (parent ∷ above) = part_of_child (unwrap_or (at_number known parent) 0) (weighed_children nodes parent) node

abbrev pub with_tickets : Cluster → List Weighed → List (ℕ × ℕ) → Weighed → List (ℕ × ℕ)
with_tickets c nodes known node = put_number known node.node.id (tickets_below c nodes known node node.node.above)

-- the tickets of each node: the root has all, and a node divides its own among its children
abbrev pub node_tickets : Cluster → List Weighed → List (ℕ × ℕ)
node_tickets c nodes = fold (with_tickets c nodes) [] nodes

abbrev pub jobs_at : List Weighed → ℕ → ℕ
jobs_at nodes id = elim (find (λ other. other.node.id == id) nodes) [ None ↦ 0 | Some node ↦ node.jobs ]

-- a leaf gives each of its jobs an equal part; a job without a leaf has none
abbrev pub leaf_tickets : List Weighed → List (ℕ × ℕ) → Option Entered → ℕ
leaf_tickets nodes tickets None = 0
leaf_tickets nodes tickets (Some leaf) = cut_at_64 (equal_part (unwrap_or (at_number tickets leaf.id) 0) (jobs_at nodes leaf.id))

-- a job that isn't there has none
abbrev pub share_tickets_at : Cluster → List Entered → List Weighed → List (ℕ × ℕ) → ℕ → ℕ
share_tickets_at c tree nodes tickets number = elim (at_number c.jobs number) [
  | None ↦ 0
  | Some job ↦ leaf_tickets nodes tickets (leaf_of tree job.owner job.project)
]

-- share tickets of each of these jobs at a moment, by the rule
unfoldable pub share_tickets_by_rule : Cluster → List ℕ → ℕ → List ℕ
share_tickets_by_rule c numbers now =
    let tree = tree_by_rule c in
    let nodes = weighed_tree c (jobs_of c numbers) now tree in
    let tickets = node_tickets c nodes in
    map (share_tickets_at c tree nodes tickets) numbers
