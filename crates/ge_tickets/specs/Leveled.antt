-- A walked tree, each node before those below it: sums once a parent, and tickets from above (share_tree).
use Rattle.std.specs.Prelude.{ℕ, ◌==◌, if◌then◌else◌, List, [], fold, Some, None}
use Rattle.ge_collections.specs.Keyed.{put_number}
use Rattle.ge_model_order.specs.Amounts.{portion}
use Rattle.ge_model_order.specs.Share.{weight}
use Rattle.ge_model_order.specs.ShareTables.{amount_at, raised_amount}
use Rattle.ge_model_order.specs.ShareTree.{Entered}
use Rattle.ge_tickets.specs.Nodes.{parent_of}

abbrev pub sum_with : List (ℕ × ℕ) → List (ℕ × ℕ) → Entered → List (ℕ × ℕ)
sum_with parts sums node = elim (parent_of node.above) [ None ↦ sums | Some parent ↦ raised_amount (amount_at parts node.id) sums parent ]

abbrev pub sums_of : List (ℕ × ℕ) → List Entered → List (ℕ × ℕ)
sums_of parts tree = fold (sum_with parts) [] tree

abbrev pub node_weight : List (ℕ × ℕ) → List (ℕ × ℕ) → List (ℕ × ℕ) → Entered → ℕ
node_weight usage jobs sums node = elim (parent_of node.above) [
  | None ↦ 0
  | Some parent ↦ if amount_at jobs node.id == 0 then 0 else weight node.row.shares (amount_at usage node.id) (amount_at sums parent)
]

abbrev pub weight_with : List (ℕ × ℕ) → List (ℕ × ℕ) → List (ℕ × ℕ) → List (ℕ × ℕ) → Entered → List (ℕ × ℕ)
weight_with usage jobs sums weights node = put_number weights node.id (node_weight usage jobs sums node)

abbrev pub weights_of : List (ℕ × ℕ) → List (ℕ × ℕ) → List (ℕ × ℕ) → List Entered → List (ℕ × ℕ)
weights_of usage jobs sums tree = fold (weight_with usage jobs sums) [] tree

abbrev pub node_tickets : ℕ → List (ℕ × ℕ) → List (ℕ × ℕ) → List (ℕ × ℕ) → Entered → ℕ
node_tickets all weights sums known node = elim (parent_of node.above) [
  | None ↦ all
  | Some parent ↦ portion (amount_at known parent) (amount_at weights node.id) (amount_at sums parent)
]

abbrev pub ticket_with : ℕ → List (ℕ × ℕ) → List (ℕ × ℕ) → List (ℕ × ℕ) → Entered → List (ℕ × ℕ)
ticket_with all weights sums known node = put_number known node.id (node_tickets all weights sums known node)

abbrev pub tickets_down : ℕ → List (ℕ × ℕ) → List (ℕ × ℕ) → List Entered → List (ℕ × ℕ)
tickets_down all weights sums tree = fold (ticket_with all weights sums) [] tree

-- the tickets of all nodes, of which the root has these
abbrev pub tickets_in : ℕ → List (ℕ × ℕ) → List (ℕ × ℕ) → List Entered → List (ℕ × ℕ)
tickets_in all usage jobs tree =
    let weights = weights_of usage jobs (sums_of usage tree) tree in
    tickets_down all weights (sums_of weights tree) tree
