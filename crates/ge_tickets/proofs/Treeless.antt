-- Without a tree no job has share tickets.
use Rattle.std.proofs.Common.{◌≡◌, ℕ, Bool, true, false, List, [], Option, Some, None, refl, sym, ap, ◌∙◌, map}
use Rattle.std.specs.Prelude.{if◌then◌else◌}
use Rattle.ge_collections.specs.Keyed.{at_number, at_text}
use Rattle.ge_model_rows.specs.ClusterRows.{Cluster}
use Rattle.ge_model_rows.specs.JobRows.{Job}
use Rattle.ge_model_rows.specs.Pieces.{is_empty}
use Rattle.ge_model_order.specs.Share.{usage_by_node, jobs_by_node, tickets_by_node, leaf_tickets, job_share_tickets, share_tickets_of}
use Rattle.ge_model_order.specs.ShareTables.{places_of, leaf_below}
use Rattle.ge_model_order.specs.ShareTree.{Entered, walked, most_levels, nothing_walked, root_id, tree_of}
use Rattle.ge_model_order.specs.Tickets.{jobs_of}
use Rattle.ge_tickets.specs.Listed.{no_tickets}

no_nodes : (c : Cluster) → c.shares ≡ [] → tree_of c ≡ []
unfolding tree_of
no_nodes c none = ap (λ shares. (walked most_levels shares [] [] nothing_walked root_id).order) none

none_of : (tickets jobs : List (ℕ × ℕ)) (job : Option Job) → job_share_tickets (places_of []) tickets jobs job ≡ 0
none_of tickets jobs None = refl
none_of tickets jobs (Some job) = by (is_empty job.project)
  where
    by : (b : Bool) → leaf_tickets tickets jobs (leaf_below (places_of []) (if b then None else at_text [] job.project) job.owner) ≡ 0
    by true = refl
    by false = refl

-- the share tickets of jobs, by the nodes of a tree
by_tree : Cluster → List ℕ → ℕ → List Entered → List ℕ
by_tree c numbers now tree =
    map
    (λ number.
    job_share_tickets (places_of tree) (tickets_by_node c (usage_by_node c now (places_of tree)) (jobs_by_node (places_of tree) (jobs_of c numbers)) tree) (jobs_by_node (places_of tree) (jobs_of c numbers))
    (at_number c.jobs number))
    numbers

pub treeless : (c : Cluster) (numbers : List ℕ) (now : ℕ) → c.shares ≡ [] → map no_tickets numbers ≡ share_tickets_of c numbers now
unfolding share_tickets_of by_tree
treeless c numbers now none =
    sym
    (ap (by_tree c numbers now) (no_nodes c none)
    ∙ (λ i.
    map
    (λ number.
    none_of (tickets_by_node c (usage_by_node c now (places_of [])) (jobs_by_node (places_of []) (jobs_of c numbers)) []) (jobs_by_node (places_of []) (jobs_of c numbers)) (at_number c.jobs number) i)
    numbers))
