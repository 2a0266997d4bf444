-- The walk of the share tree enters each node once, and a node below others that are all different.
use Rattle.std.proofs.Common.{◌≡◌, refl, ap, sym, ◌∙◌, subst}
use Rattle.std.specs.Prelude.{ℕ, zero, suc, Bool, true, false, ◌||◌, ◌==◌, nat_eq, if◌then◌else◌, List, [], ◌∷◌, ◌++◌, map, fold, Option, Some, None, is_some, cond}
use mathlib.Core.Bool.{true≢false, false≢true}
use Rattle.std.proofs.lemmas.Bool.{eqb-true, eq-eqb, or_right}
use Rattle.std.specs.List.{AllByRecursion, IsDistinct, list_any}
use Rattle.std.specs.Cmp.{unsigned_ties, nat_eq_equiv}
use Rattle.ge_collections.specs.Keyed.{at_number}
use Rattle.ge_model_rows.specs.ClusterRows.{Cluster}
use Rattle.ge_model_rows.specs.PeopleRows.{ShareNode}
use Rattle.ge_model_order.specs.ShareRule.{row_unless_entered, walked_by_rule, tree_by_rule}
use Rattle.ge_model_order.specs.ShareTree.{Entered, NodeWalk, with_entered, nothing_walked, most_levels, root_id, entered, row_to_enter, projects_below, walked, tree_of}
use Rattle.ge_model_order.proofs.ShareTotals.{put_at}

abbrev ids : List Entered → List ℕ
ids nodes = map (λ node. node.id) nodes

-- each node once
abbrev IsOnce : List Entered → Type 0
IsOnce nodes = IsDistinct nat_eq (ids nodes)

neither : (a b : Bool) → (a || b) ≡ false → (a ≡ false) × (b ≡ false)
neither true b or = absurd (true≢false or)
neither false b or = (refl, or)

other_at_end : (id : ℕ) (nodes : List Entered) (node : Entered) → nat_eq id node.id ≡ false → AllByRecursion (λ y. nat_eq id y ≡ false) (ids nodes) → AllByRecursion (λ y. nat_eq id y ≡ false) (ids (nodes ++ node ∷ []))
other_at_end id [] node other all = (other, tt)
other_at_end id (first ∷ nodes) node other all = (all.0, other_at_end id nodes node other all.1)

-- a node that wasn't entered is entered once
once_more : (nodes : List Entered) (node : Entered) → list_any (λ other. other.id == node.id) nodes ≡ false → IsOnce nodes → IsOnce (nodes ++ node ∷ [])
unfolding IsDistinct
once_more [] node new once = (tt, tt)
once_more (first ∷ nodes) node new once =
    let both = neither (first.id == node.id) (list_any (λ other. other.id == node.id) nodes) new in
    (other_at_end first.id nodes node both.0 once.0, once_more nodes node both.1 once.1)

fold_keeps : {A B : Type 0} (P : B → Type 0) (f : B → A → B) → ((b : B) (a : A) → P b → P (f b a)) → (items : List A) (b : B) → P b → P (fold f b items)
fold_keeps P f step [] b here = here
fold_keeps P f step (a ∷ items) b here = fold_keeps P f step items (f b a) (step b a here)

-- what holds of the nodes holds after what is done with a row that may be entered, if it does for a node that wasn't entered
on_row : (P : List Entered → Type 0) (rows : List (ℕ × ShareNode)) (nodes : List Entered) (id : ℕ) (more : ShareNode → List Entered) → P nodes
    → (list_any (λ node. node.id == id) nodes ≡ false → (row : ShareNode) → P (more row))
    → P (elim (row_unless_entered rows nodes id) as (λ o. List Entered) [ None ↦ nodes | Some row ↦ more row ])
on_row P rows nodes id more here step = by (list_any (λ node. node.id == id) nodes) refl
  where
    found : list_any (λ node. node.id == id) nodes ≡ false → (o : Option ShareNode) → P (elim o as (λ o. List Entered) [ None ↦ nodes | Some row ↦ more row ])
    found new None = here
    found new (Some row) = step new row

    by : (b : Bool) → list_any (λ node. node.id == id) nodes ≡ b → P (elim (if b then None else at_number rows id) as (λ o. List Entered) [ None ↦ nodes | Some row ↦ more row ])
    by true there = here
    by false new = found new (at_number rows id)

walked_once : (levels : ℕ) (rows : List (ℕ × ShareNode)) (above projects : List ℕ) (nodes : List Entered) (id : ℕ) → IsOnce nodes → IsOnce (walked_by_rule levels rows above projects nodes id)
walked_once zero rows above projects nodes id once =
    on_row IsOnce rows nodes id (λ row. nodes ++ entered id row above projects ∷ []) once
    (λ new row. once_more nodes (entered id row above projects) new once)
walked_once (suc levels) rows above projects nodes id once =
    on_row IsOnce rows nodes id (λ row. fold (walked_by_rule levels rows (id ∷ above) (projects_below row id projects)) (nodes ++ entered id row above projects ∷ []) row.children) once
    (λ new row. fold_keeps IsOnce (walked_by_rule levels rows (id ∷ above) (projects_below row id projects))
    (λ more child kept. walked_once levels rows (id ∷ above) (projects_below row id projects) more child kept) row.children _
    (once_more nodes (entered id row above projects) new once))

-- each node of the tree stands in it once
pub tree_by_rule-distinct : (c : Cluster) → IsDistinct nat_eq (map (λ node. node.id) (tree_by_rule c))
unfolding tree_by_rule IsDistinct
tree_by_rule-distinct c = walked_once most_levels c.shares [] [] [] root_id tt

-- whether a node was entered
abbrev IsIn : List Entered → ℕ → Type 0
IsIn nodes id = list_any (λ node. node.id == id) nodes ≡ true

still_in : (nodes : List Entered) (node : Entered) (id : ℕ) → IsIn nodes id → IsIn (nodes ++ node ∷ []) id
still_in [] node id here = absurd (false≢true here)
still_in (first ∷ nodes) node id here = by (first.id == id) here (still_in nodes node id)
  where
    by : (b : Bool) → (b || list_any (λ node. node.id == id) nodes) ≡ true → (IsIn nodes id → IsIn (nodes ++ node ∷ []) id) → (b || list_any (λ node. node.id == id) (nodes ++ node ∷ [])) ≡ true
    by true here later = refl
    by false here later = later here

in_at_end : (nodes : List Entered) (node : Entered) → IsIn (nodes ++ node ∷ []) node.id
in_at_end [] node = ap (λ (b : Bool). b || false) (eq-eqb node.id node.id refl)
in_at_end (first ∷ nodes) node = or_right (first.id == node.id) (list_any (λ other. other.id == node.id) (nodes ++ node ∷ [])) (in_at_end nodes node)

walked_grows : (levels : ℕ) (rows : List (ℕ × ShareNode)) (above projects : List ℕ) (nodes : List Entered) (id q : ℕ) → IsIn nodes q → IsIn (walked_by_rule levels rows above projects nodes id) q
walked_grows zero rows above projects nodes id q here =
    on_row (λ more. IsIn more q) rows nodes id (λ row. nodes ++ entered id row above projects ∷ []) here
    (λ new row. still_in nodes (entered id row above projects) q here)
walked_grows (suc levels) rows above projects nodes id q here =
    on_row (λ more. IsIn more q) rows nodes id (λ row. fold (walked_by_rule levels rows (id ∷ above) (projects_below row id projects)) (nodes ++ entered id row above projects ∷ []) row.children) here
    (λ new row. fold_keeps (λ more. IsIn more q) (walked_by_rule levels rows (id ∷ above) (projects_below row id projects))
    (λ more child kept. walked_grows levels rows (id ∷ above) (projects_below row id projects) more child q kept) row.children _
    (still_in nodes (entered id row above projects) q here))

-- these nodes were all entered
abbrev AreIn : List Entered → List ℕ → Type 0
AreIn nodes above = AllByRecursion (IsIn nodes) above

all_still_in : (nodes more : List Entered) → ((q : ℕ) → IsIn nodes q → IsIn more q) → (above : List ℕ) → AreIn nodes above → AreIn more above
all_still_in nodes more grows [] all = tt
all_still_in nodes more grows (id ∷ above) all = (grows id all.0, all_still_in nodes more grows above all.1)

-- a node that wasn't entered is none of those
new_apart : (nodes : List Entered) (id : ℕ) → list_any (λ node. node.id == id) nodes ≡ false → (above : List ℕ) → AreIn nodes above → AllByRecursion (λ y. nat_eq id y ≡ false) above
new_apart nodes id new [] all = tt
new_apart nodes id new (other ∷ above) all = (by (id == other) refl, new_apart nodes id new above all.1)
  where
    by : (b : Bool) → (id == other) ≡ b → b ≡ false
    by true is = absurd (true≢false (sym all.0 ∙ ap (λ (n : ℕ). list_any (λ node. node.id == n) nodes) (sym (eqb-true id other is)) ∙ new))
    by false is = refl

-- a node and those above it are different, for each of these nodes
abbrev pub AreLined : List Entered → Type 0
AreLined nodes = AllByRecursion (λ node. IsDistinct nat_eq (node.id ∷ node.above)) nodes

lined_at_end : (nodes : List Entered) (node : Entered) → IsDistinct nat_eq (node.id ∷ node.above) → AreLined nodes → AreLined (nodes ++ node ∷ [])
lined_at_end [] node line all = (line, tt)
lined_at_end (first ∷ nodes) node line all = (all.0, lined_at_end nodes node line all.1)

line_of_new : (nodes : List Entered) (id : ℕ) → list_any (λ node. node.id == id) nodes ≡ false → (above : List ℕ) → AreIn nodes above → IsDistinct nat_eq above → IsDistinct nat_eq (id ∷ above)
unfolding IsDistinct
line_of_new nodes id new above all apart = (new_apart nodes id new above all, apart)

walked_lined : (levels : ℕ) (rows : List (ℕ × ShareNode)) (above projects : List ℕ) (nodes : List Entered) (id : ℕ) → IsDistinct nat_eq above → AreIn nodes above → AreLined nodes
    → AreLined (walked_by_rule levels rows above projects nodes id)
walked_lined zero rows above projects nodes id apart all lined =
    on_row AreLined rows nodes id (λ row. nodes ++ entered id row above projects ∷ []) lined
    (λ new row. lined_at_end nodes (entered id row above projects) (line_of_new nodes id new above all apart) lined)
walked_lined (suc levels) rows above projects nodes id apart all lined =
    on_row AreLined rows nodes id (λ row. fold (walked_by_rule levels rows (id ∷ above) (projects_below row id projects)) (nodes ++ entered id row above projects ∷ []) row.children) lined
    (λ new row.
    let line = line_of_new nodes id new above all apart in
    let node = entered id row above projects in
    (fold_keeps (λ more. AreLined more × AreIn more (id ∷ above)) (walked_by_rule levels rows (id ∷ above) (projects_below row id projects))
    (λ more child kept. (
      walked_lined levels rows (id ∷ above) (projects_below row id projects) more child line kept.1 kept.0,
      all_still_in more (walked_by_rule levels rows (id ∷ above) (projects_below row id projects) more child)
          (λ q. walked_grows levels rows (id ∷ above) (projects_below row id projects) more child q) (id ∷ above) kept.1,
    )) row.children (nodes ++ node ∷ [])
    (lined_at_end nodes node line lined, (in_at_end nodes node, all_still_in nodes (nodes ++ node ∷ []) (λ q. still_in nodes node q) above all))).0)

-- each node of the tree lies below different ones, none of which is itself
pub tree_by_rule-lined : (c : Cluster) → AreLined (tree_by_rule c)
unfolding tree_by_rule IsDistinct
tree_by_rule-lined c = walked_lined most_levels c.shares [] [] [] root_id tt tt tt

-- what the walk has by id is what it entered
abbrev IsKept : NodeWalk → Type 0
IsKept walk = (q : ℕ) → is_some (at_number walk.by_id q) ≡ list_any (λ node. node.id == q) walk.order

any_at_end : (q : ℕ) (nodes : List Entered) (node : Entered) → list_any (λ other. other.id == q) (nodes ++ node ∷ []) ≡ (node.id == q || list_any (λ other. other.id == q) nodes)
any_at_end q [] node = refl
any_at_end q (first ∷ nodes) node = ap (λ (b : Bool). first.id == q || b) (any_at_end q nodes node) ∙ by (first.id == q) (node.id == q)
  where
    by : (a b : Bool) → (a || (b || list_any (λ other. other.id == q) nodes)) ≡ (b || (a || list_any (λ other. other.id == q) nodes))
    by true true = refl
    by true false = refl
    by false b = refl

kept_with : (walk : NodeWalk) (node : Entered) → IsKept walk → IsKept (with_entered walk node)
kept_with walk node kept q =
    ap (λ (found : Option Entered). is_some found) (put_at walk.by_id node.id q node)
    ∙ ap (λ (b : Bool). is_some (cond b (Some node) (at_number walk.by_id q))) (sym (unsigned_ties q node.id) ∙ nat_eq_equiv.symm q node.id)
    ∙ by (node.id == q)
    ∙ ap (λ (b : Bool). node.id == q || b) (kept q)
    ∙ sym (any_at_end q walk.order node)
  where
    by : (b : Bool) → is_some (cond b (Some node) (at_number walk.by_id q)) ≡ (b || is_some (at_number walk.by_id q))
    by true = refl
    by false = refl

-- a walk by id entered the nodes of the rule's walk
abbrev IsSame : NodeWalk → List Entered → Type 0
IsSame walk nodes = (walk.order ≡ nodes) × IsKept walk

same_folded : (step : NodeWalk → ℕ → NodeWalk) (by_rule : List Entered → ℕ → List Entered) → ((walk : NodeWalk) (child : ℕ) → IsKept walk → IsSame (step walk child) (by_rule walk.order child))
    → (children : List ℕ) (walk : NodeWalk) → IsKept walk → IsSame (fold step walk children) (fold by_rule walk.order children)
same_folded step by_rule each [] walk kept = (refl, kept)
same_folded step by_rule each (child ∷ children) walk kept =
    let here = each walk child kept in
    let later = same_folded step by_rule each children (step walk child) here.1 in
    (later.0 ∙ ap (λ (nodes : List Entered). fold by_rule nodes children) here.0, later.1)

same_on_row : (rows : List (ℕ × ShareNode)) (walk : NodeWalk) (id : ℕ) (more : ShareNode → NodeWalk) (by_rule : ShareNode → List Entered) → IsKept walk
    → ((row : ShareNode) → IsSame (more row) (by_rule row))
    → IsSame (elim (row_to_enter rows walk id) as (λ o. NodeWalk) [ None ↦ walk | Some row ↦ more row ])
    (elim (row_unless_entered rows walk.order id) as (λ o. List Entered) [ None ↦ walk.order | Some row ↦ by_rule row ])
same_on_row rows walk id more by_rule kept each = by (is_some (at_number walk.by_id id)) (list_any (λ node. node.id == id) walk.order) (kept id)
  where
    found : (o : Option ShareNode) → IsSame (elim o as (λ o. NodeWalk) [ None ↦ walk | Some row ↦ more row ]) (elim o as (λ o. List Entered) [ None ↦ walk.order | Some row ↦ by_rule row ])
    found None = (refl, kept)
    found (Some row) = each row

    by : (a b : Bool) → a ≡ b → IsSame (elim (if a then None else at_number rows id) as (λ o. NodeWalk) [ None ↦ walk | Some row ↦ more row ])
        (elim (if b then None else at_number rows id) as (λ o. List Entered) [ None ↦ walk.order | Some row ↦ by_rule row ])
    by true true is = (refl, kept)
    by true false is = absurd (true≢false is)
    by false true is = absurd (false≢true is)
    by false false is = found (at_number rows id)

walked_same : (levels : ℕ) (rows : List (ℕ × ShareNode)) (above projects : List ℕ) (walk : NodeWalk) (id : ℕ) → IsKept walk
    → IsSame (walked levels rows above projects walk id) (walked_by_rule levels rows above projects walk.order id)
walked_same zero rows above projects walk id kept =
    same_on_row rows walk id (λ row. with_entered walk (entered id row above projects)) (λ row. walk.order ++ entered id row above projects ∷ []) kept
    (λ row. (refl, kept_with walk (entered id row above projects) kept))
walked_same (suc levels) rows above projects walk id kept =
    same_on_row rows walk id (λ row. fold (walked levels rows (id ∷ above) (projects_below row id projects)) (with_entered walk (entered id row above projects)) row.children)
    (λ row. fold (walked_by_rule levels rows (id ∷ above) (projects_below row id projects)) (walk.order ++ entered id row above projects ∷ []) row.children) kept
    (λ row. same_folded (walked levels rows (id ∷ above) (projects_below row id projects)) (walked_by_rule levels rows (id ∷ above) (projects_below row id projects))
    (λ more child still. walked_same levels rows (id ∷ above) (projects_below row id projects) more child still) row.children
    (with_entered walk (entered id row above projects)) (kept_with walk (entered id row above projects) kept))

-- the walk by id enters the nodes of the rule's, in the same order
pub tree_of-rule : (c : Cluster) → tree_of c ≡ tree_by_rule c
unfolding tree_of tree_by_rule
tree_of-rule c = (walked_same most_levels c.shares [] [] nothing_walked root_id (λ q. refl)).0

-- so each node of the tree stands in it once
pub tree_of-distinct : (c : Cluster) → IsDistinct nat_eq (map (λ node. node.id) (tree_of c))
tree_of-distinct c = subst (λ tree. IsDistinct nat_eq (map (λ node. node.id) tree)) (sym (tree_of-rule c)) (tree_by_rule-distinct c)

-- and lies below different ones, none of which is itself
pub tree_of-lined : (c : Cluster) → AreLined (tree_of c)
tree_of-lined c = subst AreLined (sym (tree_of-rule c)) (tree_by_rule-lined c)
