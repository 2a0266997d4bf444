-- Tickets are divided by tables as the rule divides them, where the usage and the jobs of each node are the rule's.
use Rattle.std.proofs.Common.{◌≡◌, refl, ap, sym, ◌∙◌}
use Rattle.std.specs.Prelude.{ℕ, Bool, true, false, ◌==◌, ◌||◌, cond, if◌then◌else◌, List, [], ◌∷◌, map, filter, find, fold, count_by, Option, Some, None, unwrap_or, refl as same}
use mathlib.Core.Bool.{false≢true}
use Rattle.std.specs.List.{AllByRecursion, list_any}
use Rattle.std.proofs.lemmas.Bool.{eqb-true, eq-eqb, or_right}
use Rattle.ge_base.specs.Fixed.{cut_sum}
use Rattle.ge_collections.specs.Keyed.{at_number, put_number}
use Rattle.ge_model_rows.specs.ClusterRows.{Cluster}
use Rattle.ge_model_order.specs.Amounts.{cut_total, portion}
use Rattle.ge_model_order.specs.Share.{weight, weight_below, weights_by_node, tickets_below, with_tickets, tickets_by_node}
use Rattle.ge_model_order.specs.ShareRule.{Charge, Weighed, charged_at, is_first, is_child_of, weighed, weighed_children, weight_with_jobs, tickets_below as tickets_by_rule, with_tickets as with_tickets_by_rule, node_tickets, jobs_at}
use Rattle.ge_model_order.specs.ShareTables.{amount_at, children_sums}
use Rattle.ge_model_order.specs.ShareTree.{Entered}
use Rattle.ge_model_rows.specs.Pieces.{lists_number}
use Rattle.ge_model_order.proofs.ShareTotals.{children_sums-at}
use Rattle.ge_model_order.proofs.ShareNodes.{IsOnce, each_put}

-- totals of what is equal for each item are equal
total_same : {X Y : Type 0} (f : X → ℕ) (g : Y → ℕ) (h : X → Y) (xs : List X) (n : ℕ) → AllByRecursion (λ x. f x ≡ g (h x)) xs
    → fold (λ total x. cut_sum total (f x)) n xs ≡ fold (λ total y. cut_sum total (g y)) n (map h xs)
total_same f g h [] n all = refl
total_same f g h (x ∷ xs) n all =
    ap (λ (m : ℕ). fold (λ total item. cut_sum total (f item)) (cut_sum n m) xs) all.0 ∙ total_same f g h xs (cut_sum n (g (h x))) all.1

each_of : {X : Type 0} (P : X → Type 0) → ((x : X) → P x) → (xs : List X) → AllByRecursion P xs
each_of P all [] = tt
each_of P all (x ∷ xs) = (all x, each_of P all xs)

module _ (usage jobs : List (ℕ × ℕ)) (charges : List Charge) (lines : List (List ℕ)) where
  abbrev weigh : Entered → Weighed
  weigh node = weighed charges lines node

  children_kept : (id : ℕ) (tree : List Entered) → map weigh (filter (is_child_of id) tree) ≡ weighed_children (map weigh tree) id
  children_kept id [] = refl
  children_kept id (node ∷ tree) = by (is_child_of id node) (children_kept id tree)
    where
      by : (b : Bool) → map weigh (filter (is_child_of id) tree) ≡ weighed_children (map weigh tree) id
          → map weigh (cond b (node ∷ filter (is_child_of id) tree) (filter (is_child_of id) tree)) ≡ cond b (weigh node ∷ weighed_children (map weigh tree) id) (weighed_children (map weigh tree) id)
      by true later = ap (λ (rest : List Weighed). weigh node ∷ rest) later
      by false later = later

  module _ (usage_is : (q : ℕ) → amount_at usage q ≡ cut_total (charged_at q) charges) (jobs_is : (q : ℕ) → amount_at jobs q ≡ count_by (λ line. lists_number line q) lines) (tree : List Entered) where
    abbrev used : List (ℕ × ℕ)
    used = children_sums (λ node. amount_at usage node.id) tree

    abbrev weights : List (ℕ × ℕ)
    weights = weights_by_node usage jobs used tree

    -- the usage of all children of a node, as the rule adds it up
    abbrev all_usage : ℕ → ℕ
    all_usage id = cut_total (λ other. other.usage) (weighed_children (map weigh tree) id)

    used_is : (id : ℕ) → amount_at used id ≡ all_usage id
    used_is id =
        children_sums-at (λ node. amount_at usage node.id) tree id
        ∙ total_same (λ node. amount_at usage node.id) (λ other. other.usage) weigh (filter (is_child_of id) tree) 0
        (each_of (λ node. amount_at usage node.id ≡ (weigh node).usage) (λ node. usage_is node.id) (filter (is_child_of id) tree))
        ∙ ap (λ (children : List Weighed). cut_total (λ (other : Weighed). other.usage) children) (children_kept id tree)

    -- the weight of a child by tables is that of the rule
    child_weight : (node : Entered) (parent : ℕ) (above : List ℕ) → weight_below usage jobs used node (parent ∷ above) ≡ weight_with_jobs (all_usage parent) (weigh node)
    child_weight node parent above =
        ap (λ (n : ℕ). if n == 0 then 0 else weight node.row.shares (amount_at usage node.id) (amount_at used parent)) (jobs_is node.id)
        ∙ ap (λ (n : ℕ). if (weigh node).jobs == 0 then 0 else weight node.row.shares n (amount_at used parent)) (usage_is node.id)
        ∙ ap (λ (n : ℕ). if (weigh node).jobs == 0 then 0 else weight node.row.shares (weigh node).usage n) (used_is parent)

    -- what the tables have for a node
    abbrev IsWeighed : Entered → Type 0
    IsWeighed node = amount_at weights node.id ≡ weight_below usage jobs used node node.above

    first_is : (id : ℕ) (node : Entered) (above : List ℕ) → amount_at weights node.id ≡ weight_below usage jobs used node above → is_first id above ≡ true
        → amount_at weights node.id ≡ weight_with_jobs (all_usage id) (weigh node)
    first_is id node [] is first = absurd (false≢true first)
    first_is id node (parent ∷ above) is first =
        is ∙ child_weight node parent above ∙ ap (λ (n : ℕ). weight_with_jobs (all_usage n) (weigh node)) (eqb-true parent id first)

    children_weighed : (id : ℕ) (nodes : List Entered) → AllByRecursion IsWeighed nodes → AllByRecursion (λ node. amount_at weights node.id ≡ weight_with_jobs (all_usage id) (weigh node)) (filter (is_child_of id) nodes)
    children_weighed id [] all = tt
    children_weighed id (node ∷ nodes) all = by (is_child_of id node) same (children_weighed id nodes all.1)
      where
        by : (b : Bool) → is_child_of id node ≡ b → AllByRecursion (λ other. amount_at weights other.id ≡ weight_with_jobs (all_usage id) (weigh other)) (filter (is_child_of id) nodes)
            → AllByRecursion (λ other. amount_at weights other.id ≡ weight_with_jobs (all_usage id) (weigh other)) (cond b (node ∷ filter (is_child_of id) nodes) (filter (is_child_of id) nodes))
        by true is later = (first_is id node node.above all.0 is, later)
        by false is later = later

    abbrev sums : List (ℕ × ℕ)
    sums = children_sums (λ node. amount_at weights node.id) tree

    -- and so is the sum of the weights of all children
    sums_is : AllByRecursion IsWeighed tree → (id : ℕ) → amount_at sums id ≡ cut_total (weight_with_jobs (all_usage id)) (weighed_children (map weigh tree) id)
    sums_is all id =
        children_sums-at (λ node. amount_at weights node.id) tree id
        ∙ total_same (λ node. amount_at weights node.id) (weight_with_jobs (all_usage id)) weigh (filter (is_child_of id) tree) 0 (children_weighed id tree all)
        ∙ ap (λ (children : List Weighed). cut_total (weight_with_jobs (all_usage id)) children) (children_kept id tree)

    part_same : (c : Cluster) → AllByRecursion IsWeighed tree → (known : List (ℕ × ℕ)) (node : Entered) (above : List ℕ) → amount_at weights node.id ≡ weight_below usage jobs used node above
        → tickets_below c.sched.share weights sums known node above ≡ tickets_by_rule c (map weigh tree) known (weigh node) above
    part_same c all known node [] is = refl
    part_same c all known node (parent ∷ above) is =
        ap (λ (n : ℕ). portion (amount_at known parent) n (amount_at sums parent)) (is ∙ child_weight node parent above)
        ∙ ap (λ (n : ℕ). portion (amount_at known parent) (weight_with_jobs (all_usage parent) (weigh node)) n) (sums_is all parent)

    down : (c : Cluster) → AllByRecursion IsWeighed tree → (nodes : List Entered) (known : List (ℕ × ℕ)) → AllByRecursion IsWeighed nodes
        → fold (with_tickets c.sched.share weights sums) known nodes ≡ fold (with_tickets_by_rule c (map weigh tree)) known (map weigh nodes)
    down c all [] known here = refl
    down c all (node ∷ nodes) known here =
        ap (λ (n : ℕ). fold (with_tickets c.sched.share weights sums) (put_number known node.id n) nodes) (part_same c all known node node.above here.0)
        ∙ down c all nodes (put_number known node.id (tickets_by_rule c (map weigh tree) known (weigh node) node.above)) here.1

    all_weighed : IsOnce tree → AllByRecursion IsWeighed tree
    all_weighed once = amounts tree (each_put (λ node. weight_below usage jobs used node node.above) tree [] once)
      where
        amounts : (nodes : List Entered) → AllByRecursion (λ node. at_number weights node.id ≡ Some (weight_below usage jobs used node node.above)) nodes → AllByRecursion IsWeighed nodes
        amounts [] all = tt
        amounts (node ∷ nodes) all = (ap (λ (o : Option ℕ). unwrap_or o 0) all.0, amounts nodes all.1)

    -- the tickets of all nodes are those of the rule
    pub tickets_by_node-rule : (c : Cluster) → IsOnce tree → tickets_by_node c usage jobs tree ≡ node_tickets c (map weigh tree)
    tickets_by_node-rule c once = down c (all_weighed once) tree [] (all_weighed once)

    there_found : (id : ℕ) (nodes : List Entered) → list_any (λ node. node.id == id) nodes ≡ true → jobs_at (map weigh nodes) id ≡ amount_at jobs id
    there_found id [] there = absurd (false≢true there)
    there_found id (node ∷ nodes) there = by (node.id == id) same there (there_found id nodes)
      where
        by : (b : Bool) → (node.id == id) ≡ b → (b || list_any (λ other. other.id == id) nodes) ≡ true → (list_any (λ other. other.id == id) nodes ≡ true → jobs_at (map weigh nodes) id ≡ amount_at jobs id)
            → (elim (cond b (Some (weigh node)) (find (λ other. other.node.id == id) (map weigh nodes))) as (λ o. ℕ) [ None ↦ 0 | Some other ↦ other.jobs ]) ≡ amount_at jobs id
        by true is there later = sym (jobs_is node.id) ∙ ap (λ (n : ℕ). amount_at jobs n) (eqb-true node.id id is)
        by false is there later = later there

    -- each node is found with its jobs
    pub jobs_at-rule : AllByRecursion (λ node. amount_at jobs node.id ≡ jobs_at (map weigh tree) node.id) tree
    jobs_at-rule = each tree (λ node there. sym (there_found node.id tree there))
      where
        each : (nodes : List Entered) → ((node : Entered) → list_any (λ other. other.id == node.id) nodes ≡ true → amount_at jobs node.id ≡ jobs_at (map weigh tree) node.id)
            → AllByRecursion (λ node. amount_at jobs node.id ≡ jobs_at (map weigh tree) node.id) nodes
        each [] from = tt
        each (node ∷ nodes) from = (
          from node (ap (λ (b : Bool). b || list_any (λ other. other.id == node.id) nodes) (eq-eqb node.id node.id refl)),
          each nodes (λ other there. from other (or_right (node.id == other.id) (list_any (λ more. more.id == other.id) nodes) there)),
        )
