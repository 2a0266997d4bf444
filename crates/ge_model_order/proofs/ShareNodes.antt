-- The nodes by id, and the lines of users and projects: what the tables have of a node is what was put there.
use Rattle.std.proofs.Common.{◌≡◌, refl, ap, sym, ◌∙◌}
use Rattle.std.specs.Prelude.{ℕ, Bool, true, false, nat_eq, cond, if◌then◌else◌, List, [], ◌∷◌, map, filter, find, fold, Option, Some, None, codes}
use Rattle.std.specs.List.{AllByRecursion, IsDistinct}
use Rattle.std.specs.Option.{option_or, option_map}
use Rattle.std.specs.Cmp.{unsigned_ties}
use Rattle.std.proofs.lemmas.Bool.{eq-eqb}
use Rattle.ge_collections.specs.Keyed.{at_number, put_number}
use Rattle.ge_model_rows.specs.Pieces.{is_empty}
use Rattle.ge_model_order.specs.ShareRule.{is_leaf, is_leaf_named, is_project_named, project_node, user_leaf, if_leaf, leaf_under, leaf_of, line_to, node_line}
use Rattle.ge_model_order.specs.ShareTables.{places_of, line_up, line_from, line_at}
use Rattle.ge_model_order.specs.ShareTree.{Entered}
use Rattle.ge_model_rows.specs.Pieces.{lists_number}
use Rattle.ge_model_order.proofs.ShareTotals.{put_at}
use Rattle.ge_model_order.proofs.ShareLeaves.{leaf_at-rule}

-- each node once
abbrev pub IsOnce : List Entered → Type 0
IsOnce nodes = IsDistinct nat_eq (map (λ node. node.id) nodes)

module _ {X : Type 0} (value : Entered → X) where
  -- a value of each node, put at its id
  abbrev pub put_each : List (ℕ × X) → List Entered → List (ℕ × X)
  put_each rows tree = fold (λ rows node. put_number rows node.id (value node)) rows tree

  kept_at : (tree : List Entered) (rows : List (ℕ × X)) (q : ℕ) (v : X) → AllByRecursion (λ y. nat_eq q y ≡ false) (map (λ node. node.id) tree) → at_number rows q ≡ Some v → at_number (put_each rows tree) q ≡ Some v
  kept_at [] rows q v apart here = here
  kept_at (node ∷ tree) rows q v apart here =
      kept_at tree (put_number rows node.id (value node)) q v apart.1
      (put_at rows node.id q (value node) ∙ ap (λ (b : Bool). cond b (Some (value node)) (at_number rows q)) (sym (unsigned_ties q node.id) ∙ apart.0) ∙ here)

  -- is there for each node, where each stands once
  pub each_put : (tree : List Entered) (rows : List (ℕ × X)) → IsOnce tree → AllByRecursion (λ node. at_number (put_each rows tree) node.id ≡ Some (value node)) tree
  unfolding IsDistinct
  each_put [] rows apart = tt
  each_put (node ∷ tree) rows apart = (
    kept_at tree (put_number rows node.id (value node)) node.id (value node) apart.0
        (put_at rows node.id node.id (value node)
        ∙ ap (λ (b : Bool). cond b (Some (value node)) (at_number rows node.id)) (sym (unsigned_ties node.id node.id) ∙ eq-eqb node.id node.id refl)),
    each_put tree (put_number rows node.id (value node)) apart.1,
  )

module _ (P : Entered → Type 0) where
  -- what holds of a node, if there is one
  abbrev pub IfFound : Option Entered → Type 0
  IfFound None = Unit {0}
  IfFound (Some node) = P node

  all_kept : (test : Entered → Bool) (nodes : List Entered) → AllByRecursion P nodes → AllByRecursion P (filter test nodes)
  all_kept test [] all = tt
  all_kept test (node ∷ nodes) all = by (test node) (all_kept test nodes all.1)
    where
      by : (b : Bool) → AllByRecursion P (filter test nodes) → AllByRecursion P (cond b (node ∷ filter test nodes) (filter test nodes))
      by true later = (all.0, later)
      by false later = later

  all_found : (test : Entered → Bool) (nodes : List Entered) → AllByRecursion P nodes → IfFound (find test nodes)
  all_found test [] all = tt
  all_found test (node ∷ nodes) all = by (test node) (all_found test nodes all.1)
    where
      by : (b : Bool) → IfFound (find test nodes) → IfFound (cond b (Some node) (find test nodes))
      by true later = all.0
      by false later = later

  either_found : (a b : Option Entered) → IfFound a → IfFound b → IfFound (option_or a b)
  either_found None b first other = other
  either_found (Some node) b first other = first

  -- what holds of all nodes holds of the leaf of a user and project
  pub leaf_has : (tree : List Entered) (user project : List ℕ) → AllByRecursion P tree → IfFound (leaf_of tree user project)
  leaf_has tree user project all = under (project_node tree project) (all_found (is_project_named project) tree all)
    where
      among : (test : Entered → Bool) → IfFound (user_leaf tree (filter test tree) user)
      among test =
          either_found (find (is_leaf_named tree user) (filter test tree)) (find (is_leaf_named tree (codes "default")) (filter test tree))
          (all_found (is_leaf_named tree user) (filter test tree) (all_kept test tree all)) (all_found (is_leaf_named tree (codes "default")) (filter test tree) (all_kept test tree all))

      itself : (node : Entered) (b : Bool) → P node → IfFound (if b then Some node else None)
      itself node true here = here
      itself node false here = tt

      under : (found : Option Entered) → IfFound found → IfFound (leaf_under tree found user)
      under None here = among (λ node. is_empty node.projects)
      under (Some node) here =
          either_found (user_leaf tree (filter (λ other. lists_number other.projects node.id) tree) user) (if_leaf tree node)
          (among (λ other. lists_number other.projects node.id)) (itself node (is_leaf tree node) here)

-- where something of a user and project counts by tables is where it counts by the rule
pub line_at-rule : (tree : List Entered) (user project : List ℕ) → IsOnce tree → line_at (places_of tree) user project ≡ node_line tree user project
line_at-rule tree user project once =
    ap (λ (leaf : Option ℕ). line_from (places_of tree) leaf) (leaf_at-rule tree user project)
    ∙ by (leaf_of tree user project) (leaf_has (λ node. at_number (places_of tree).nodes node.id ≡ Some node) tree user project (each_put (λ node. node) tree [] once))
  where
    by : (leaf : Option Entered) → IfFound (λ node. at_number (places_of tree).nodes node.id ≡ Some node) leaf → line_from (places_of tree) (option_map (λ node. node.id) leaf) ≡ line_to leaf
    by None here = refl
    by (Some node) here = ap (λ (found : Option Entered). line_up found) here

-- and its nodes are different
pub line_of-distinct : (tree : List Entered) (user project : List ℕ) → AllByRecursion (λ node. IsDistinct nat_eq (node.id ∷ node.above)) tree → IsDistinct nat_eq (node_line tree user project)
unfolding IsDistinct
line_of-distinct tree user project lined = by (leaf_of tree user project) (leaf_has (λ node. IsDistinct nat_eq (node.id ∷ node.above)) tree user project lined)
  where
    by : (leaf : Option Entered) → IfFound (λ node. IsDistinct nat_eq (node.id ∷ node.above)) leaf → IsDistinct nat_eq (line_to leaf)
    by None here = tt
    by (Some node) here = here
