-- Share tickets: what the root has goes down the share tree, more of it to those that used less (sched_conf, weight_tickets_share).
-- Each node, job and row of usage is looked at a fixed number of times; `ShareRule` has the same in the words of the rule.
use Rattle.std.specs.Prelude.{ℕ, ◌/◌, ◌^◌, max, ◌==◌, if◌then◌else◌, List, [], ◌∷◌, map, fold, Option, Some, None}
use Rattle.ge_base.specs.Fixed.{cut_sum, cut_product}
use Rattle.ge_collections.specs.Keyed.{at_number, put_number}
use Rattle.ge_model_rows.specs.ClusterRows.{Cluster}
use Rattle.ge_model_rows.specs.JobRows.{Job}
use Rattle.ge_model_rows.specs.ValueRows.{million}
use Rattle.ge_model_jobs.specs.Usage.{UsageKey, epoch_of, decayed}
use Rattle.ge_model_order.specs.Amounts.{cut_at_64, portion, equal_part}
use Rattle.ge_model_order.specs.ShareTables.{amount_at, raised_along, children_sums, Places, places_of, leaf_at, line_at}
use Rattle.ge_model_order.specs.ShareTree.{Entered, tree_of}
use Rattle.ge_model_order.specs.Tickets.{jobs_of}

-- a row of usage, as it counts in an epoch, more along the line of its user and project
abbrev pub with_charge : ℕ → Places → List (ℕ × ℕ) → UsageKey × ℕ → List (ℕ × ℕ)
with_charge epoch places amounts row = raised_along amounts (line_at places row.0.0 row.0.1) (decayed row.1 row.0.2 epoch)

-- the usage of each node at a moment
abbrev pub usage_by_node : Cluster → ℕ → Places → List (ℕ × ℕ)
usage_by_node c now places = fold (with_charge (epoch_of now c.sched.halftime) places) [] c.usage

-- how many of these jobs are at each node or below it
abbrev pub with_job_counted : Places → List (ℕ × ℕ) → Job → List (ℕ × ℕ)
with_job_counted places amounts job = raised_along amounts (line_at places job.owner job.project) 1

abbrev pub jobs_by_node : Places → List Job → List (ℕ × ℕ)
jobs_by_node places jobs = fold (with_job_counted places) [] jobs

-- how a child is weighed: its shares, divided by its part of the usage of all children of its parent, with one hundredth added
abbrev pub weight : ℕ → ℕ → ℕ → ℕ
weight shares usage all = cut_product shares (10 ^ 12) / cut_sum (10 ^ 4) (cut_product usage million / max 1 all)

-- the weight of a node where a job lies at it or below, else 0; the root has none
abbrev pub weight_below : List (ℕ × ℕ) → List (ℕ × ℕ) → List (ℕ × ℕ) → Entered → List ℕ → ℕ
weight_below usage jobs sums node [] = 0
weight_below usage jobs sums node (parent ∷ above) =
    if amount_at jobs node.id == 0 then 0 else weight node.row.shares (amount_at usage node.id) (amount_at sums parent)

-- the weight of each node, where the usage of all children of each parent is known
abbrev pub with_weight : List (ℕ × ℕ) → List (ℕ × ℕ) → List (ℕ × ℕ) → List (ℕ × ℕ) → Entered → List (ℕ × ℕ)
with_weight usage jobs sums weights node = put_number weights node.id (weight_below usage jobs sums node node.above)

abbrev pub weights_by_node : List (ℕ × ℕ) → List (ℕ × ℕ) → List (ℕ × ℕ) → List Entered → List (ℕ × ℕ)
weights_by_node usage jobs sums tree = fold (with_weight usage jobs sums) [] tree

-- the tickets of a node where those of the nodes before it are known: the root has all, a child its part of its parent's
abbrev pub tickets_below : ℕ → List (ℕ × ℕ) → List (ℕ × ℕ) → List (ℕ × ℕ) → Entered → List ℕ → ℕ
tickets_below all weights sums known node [] = all
tickets_below all weights sums known node (parent ∷ above) = portion (amount_at known parent) (amount_at weights node.id) (amount_at sums parent)

abbrev pub with_tickets : ℕ → List (ℕ × ℕ) → List (ℕ × ℕ) → List (ℕ × ℕ) → Entered → List (ℕ × ℕ)
with_tickets all weights sums known node = put_number known node.id (tickets_below all weights sums known node node.above)

abbrev pub divided : ℕ → List (ℕ × ℕ) → List (ℕ × ℕ) → List Entered → List (ℕ × ℕ)
divided all weights sums tree = fold (with_tickets all weights sums) [] tree

-- the tickets of each node, where the usage and the jobs of each are known
abbrev pub tickets_by_node : Cluster → List (ℕ × ℕ) → List (ℕ × ℕ) → List Entered → List (ℕ × ℕ)
tickets_by_node c usage jobs tree =
    let weights = weights_by_node usage jobs (children_sums (λ node. amount_at usage node.id) tree) tree in
    divided c.sched.share weights (children_sums (λ node. amount_at weights node.id) tree) tree

-- a leaf gives each of its jobs an equal part; a job without a leaf has none
abbrev pub leaf_tickets : List (ℕ × ℕ) → List (ℕ × ℕ) → Option ℕ → ℕ
leaf_tickets tickets jobs None = 0
leaf_tickets tickets jobs (Some id) = cut_at_64 (equal_part (amount_at tickets id) (amount_at jobs id))

-- a job that isn't there has none
abbrev pub job_share_tickets : Places → List (ℕ × ℕ) → List (ℕ × ℕ) → Option Job → ℕ
job_share_tickets places tickets jobs None = 0
job_share_tickets places tickets jobs (Some job) = leaf_tickets tickets jobs (leaf_at places job.owner job.project)

-- share tickets of each of these jobs at a moment
unfoldable pub share_tickets_of : Cluster → List ℕ → ℕ → List ℕ
share_tickets_of c numbers now =
    let tree = tree_of c in
    let places = places_of tree in
    let jobs = jobs_by_node places (jobs_of c numbers) in
    let tickets = tickets_by_node c (usage_by_node c now places) jobs tree in
    map (λ number. job_share_tickets places tickets jobs (at_number c.jobs number)) numbers
