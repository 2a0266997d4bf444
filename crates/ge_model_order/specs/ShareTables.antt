-- What a run keeps of the share tree: amounts by node, the nodes by id, and the leaves by scope and name (share_tree).
use Rattle.std.specs.Prelude.{ℕ, suc, ◌==◌, if◌then◌else◌, List, [], ◌∷◌, map, fold, Option, Some, None, unwrap_or, is_some, codes}
use Rattle.std.specs.Option.{option_or}
use Rattle.std.specs.BTreeMap.{is_at, insert_entry}
use Rattle.std.specs.Map.{lookup}
use Rattle.std.specs.Ordering.{nat_cmp, ordering_then}
use Rattle.std.specs.declared.cmp.Ordering.{Ordering}
use Rattle.ge_base.specs.Fixed.{cut_sum}
use Rattle.ge_collections.specs.Keyed.{text_cmp, at_number, put_number, at_text, put_text}
use Rattle.ge_model_rows.specs.Pieces.{is_empty}
use Rattle.ge_model_order.specs.ShareTree.{Entered}

-- the amount kept at a node, 0 where there is none
abbrev pub amount_at : List (ℕ × ℕ) → ℕ → ℕ
amount_at amounts id = unwrap_or (at_number amounts id) 0

-- an amount more at a node
abbrev pub raised_amount : ℕ → List (ℕ × ℕ) → ℕ → List (ℕ × ℕ)
raised_amount amount amounts id = put_number amounts id (cut_sum (amount_at amounts id) amount)

-- an amount more at each of these nodes
abbrev pub raised_along : List (ℕ × ℕ) → List ℕ → ℕ → List (ℕ × ℕ)
raised_along amounts ids amount = fold (raised_amount amount) amounts ids

-- what a node has of something, more at its parent
abbrev pub with_part : (Entered → ℕ) → List (ℕ × ℕ) → Entered → List ℕ → List (ℕ × ℕ)
with_part part sums node [] = sums
with_part part sums node (parent ∷ above) = raised_amount (part node) sums parent

-- at each node what its children have of something, added up
abbrev pub children_sums : (Entered → ℕ) → List Entered → List (ℕ × ℕ)
children_sums part tree = fold (λ sums node. with_part part sums node node.above) [] tree

-- how many children were entered below each node; a leaf has none
abbrev pub child_counts : List Entered → List (ℕ × ℕ)
child_counts tree = children_sums (λ node. 1) tree

-- a node stands in the scope of each project node above it, whose number is one more than that node's id; outside of all
-- projects the scope is 0
abbrev pub scope_of_project : ℕ → ℕ
scope_of_project id = suc id

abbrev pub outside : ℕ
outside = 0

abbrev pub scopes_below : List ℕ → List ℕ
scopes_below [] = outside ∷ []
scopes_below (project ∷ projects) = map scope_of_project (project ∷ projects)

-- a scope and a name
abbrev pub LeafKey : Type 0
LeafKey = ℕ × List ℕ

abbrev pub leaf_cmp : LeafKey → LeafKey → Ordering
leaf_cmp x y = ordering_then (nat_cmp x.0 y.0) (text_cmp x.1 y.1)

abbrev pub at_leaf : List (LeafKey × ℕ) → LeafKey → Option ℕ
at_leaf leaves key = lookup (is_at (leaf_cmp key)) leaves

-- a leaf in a scope; of those with one name the first entered stays
abbrev pub with_leaf : ℕ → List ℕ → List (LeafKey × ℕ) → ℕ → List (LeafKey × ℕ)
with_leaf id name leaves scope = if is_some (at_leaf leaves (scope, name)) then leaves else insert_entry leaf_cmp leaves (scope, name) id

abbrev pub with_scopes : List (LeafKey × ℕ) → Entered → List (LeafKey × ℕ)
with_scopes leaves node = fold (with_leaf node.id node.row.name) leaves (scopes_below node.projects)

-- a node in all its scopes, if it is a leaf and no project
abbrev pub with_node : List (ℕ × ℕ) → List (LeafKey × ℕ) → Entered → List (LeafKey × ℕ)
with_node children leaves node = if node.row.project then leaves else if amount_at children node.id == 0 then with_scopes leaves node else leaves

-- the node of a project; of those with one name the first entered stays
abbrev pub with_project : List (List ℕ × ℕ) → Entered → List (List ℕ × ℕ)
with_project projects node =
    if node.row.project then if is_some (at_text projects node.row.name) then projects else put_text projects node.row.name node.id else projects

-- the nodes by id, how many children each has, the project nodes by name, and the leaves by scope and name
pub record Places : Type 0 where
  pub nodes : List (ℕ × Entered)
  pub children : List (ℕ × ℕ)
  pub projects : List (List ℕ × ℕ)
  pub leaves : List (LeafKey × ℕ)

abbrev pub places_of : List Entered → Places
places_of tree =
    let children = child_counts tree in
    record {
      nodes = fold (λ nodes node. put_number nodes node.id node) [] tree;
      children = children;
      projects = fold with_project [] tree;
      leaves = fold (with_node children) [] tree;
    }

-- the leaf of a user in a scope: the user's own, else the one named default
abbrev pub leaf_in : Places → ℕ → List ℕ → Option ℕ
leaf_in places scope user = option_or (at_leaf places.leaves (scope, user)) (at_leaf places.leaves (scope, codes "default"))

-- the node of a project; the empty name is no project
abbrev pub project_at : Places → List ℕ → Option ℕ
project_at places project = if is_empty project then None else at_text places.projects project

-- a node without a child
abbrev pub if_childless : Places → ℕ → Option ℕ
if_childless places id = if amount_at places.children id == 0 then Some id else None

-- the leaf of a user below a project's node, or that node where it is a leaf; without such a node outside of all projects
abbrev pub leaf_below : Places → Option ℕ → List ℕ → Option ℕ
leaf_below places None user = leaf_in places outside user
leaf_below places (Some id) user = option_or (leaf_in places (scope_of_project id) user) (if_childless places id)

-- the leaf of a user and project
abbrev pub leaf_at : Places → List ℕ → List ℕ → Option ℕ
leaf_at places user project = leaf_below places (project_at places project) user

-- a node and all above it
abbrev pub line_up : Option Entered → List ℕ
line_up None = []
line_up (Some node) = node.id ∷ node.above

abbrev pub line_from : Places → Option ℕ → List ℕ
line_from places None = []
line_from places (Some id) = line_up (at_number places.nodes id)

-- where something of a user and project counts: at their leaf and at each node above it
abbrev pub line_at : Places → List ℕ → List ℕ → List ℕ
line_at places user project = line_from places (leaf_at places user project)
