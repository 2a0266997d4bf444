-- What the call computes is what the definition says.
use Rattle.std.proofs.Common.{◌≡◌, refl, ap, ◌∙◌}
use Rattle.std.specs.Prelude.{ℕ, List, [], ◌∷◌, map, fold, Option, Some, None}
use Rattle.std.specs.List.{cons_option}
use Rattle.ge_collections.specs.Keyed.{at_number}
use Rattle.ge_model_rows.specs.ClusterRows.{Cluster}
use Rattle.ge_model_rows.specs.JobRows.{Job}
use Rattle.ge_model_jobs.specs.Usage.{epoch_of, decayed}
use Rattle.ge_model_order.specs.Share.{usage_by_node, with_job_counted, jobs_by_node, tickets_by_node, leaf_tickets, job_share_tickets, share_tickets_of}
use Rattle.ge_model_order.specs.ShareTree.{Entered, tree_of}
use Rattle.ge_model_order.specs.ShareTables.{raised_along, places_of, leaf_at}
use Rattle.ge_model_order.specs.Tickets.{jobs_of}
use Rattle.ge_tickets.specs.declared.finding.LeafFinder.{LeafFinder}
use Rattle.ge_tickets.specs.declared.walking.Walk.{Walk}
use Rattle.ge_tickets.specs.Nodes.{walk_of}
use Rattle.ge_tickets.specs.Found.{finder_of, places_by, line_by}
use Rattle.ge_tickets.specs.Leveled.{tickets_in}
use Rattle.ge_tickets.specs.Listed.{usage_by, with_number, jobs_by, number_tickets}
use Rattle.ge_tickets.proofs.Linked.{tickets_linked, leaf_same, line_same}

abbrev found : List Entered → LeafFinder
found tree = finder_of tree (walk_of tree).lines

usage_same : (c : Cluster) (now : ℕ) (tree : List Entered) → usage_by c (found tree) now ≡ usage_by_node c now (places_of tree)
usage_same c now tree = λ i. fold (λ amounts row. raised_along amounts (line_same tree row.0.0 row.0.1 i) (decayed row.1 row.0.2 (epoch_of now c.sched.halftime))) [] c.usage

counted_same : (c : Cluster) (tree : List Entered) (numbers : List ℕ) (amounts : List (ℕ × ℕ)) → fold (with_number c (found tree)) amounts numbers ≡ fold (with_job_counted (places_of tree)) amounts (jobs_of c numbers)
counted_same c tree [] amounts = refl
counted_same c tree (number ∷ numbers) amounts = by (at_number c.jobs number) (λ more. counted_same c tree numbers more)
  where
    by : (o : Option Job) → ((more : List (ℕ × ℕ)) → fold (with_number c (found tree)) more numbers ≡ fold (with_job_counted (places_of tree)) more (jobs_of c numbers))
        → fold (with_number c (found tree)) (elim o as (λ o. List (ℕ × ℕ)) [ None ↦ amounts | Some job ↦ raised_along amounts (line_by (found tree) job.owner job.project) 1 ]) numbers
        ≡ fold (with_job_counted (places_of tree)) amounts (cons_option o (jobs_of c numbers))
    by None later = later amounts
    by (Some job) later =
        ap (λ (line : List ℕ). fold (with_number c (found tree)) (raised_along amounts line 1) numbers) (line_same tree job.owner job.project) ∙ later (with_job_counted (places_of tree) amounts job)

number_same : (c : Cluster) (tree : List Entered) (tickets jobs : List (ℕ × ℕ)) (number : ℕ) → number_tickets c (found tree) tickets jobs number ≡ job_share_tickets (places_of tree) tickets jobs (at_number c.jobs number)
number_same c tree tickets jobs number = by (at_number c.jobs number)
  where
    by : (o : Option Job) → (elim o as (λ o. ℕ) [ None ↦ 0 | Some job ↦ leaf_tickets tickets jobs (leaf_at (places_by (found tree)) job.owner job.project) ]) ≡ job_share_tickets (places_of tree) tickets jobs o
    by None = refl
    by (Some job) = ap (λ (leaf : Option ℕ). leaf_tickets tickets jobs leaf) (leaf_same tree (walk_of tree).lines job.owner job.project)

-- step by step: the walk, what is kept of it, jobs and usage along the lines, the tickets of nodes, and those of the jobs
pub shared_same : (c : Cluster) (numbers : List ℕ) (now : ℕ) (walk : Walk) (finder : LeafFinder) (jobs usage tickets : List (ℕ × ℕ)) (list : List ℕ)
    → walk ≡ walk_of (tree_of c) → finder ≡ finder_of walk.order walk.lines → jobs ≡ jobs_by c finder numbers → usage ≡ usage_by c finder now
    → tickets ≡ tickets_in c.sched.share usage jobs walk.order → list ≡ map (number_tickets c finder tickets jobs) numbers
    → list ≡ share_tickets_of c numbers now
unfolding share_tickets_of
shared_same c numbers now walk finder jobs usage tickets list walk_is finder_is jobs_are usage_is tickets_are list_is =
    let tree = tree_of c in
    let finder_same : finder ≡ found tree = finder_is ∙ ap (λ (w : Walk). finder_of w.order w.lines) walk_is in
    let jobs_same : jobs ≡ jobs_by_node (places_of tree) (jobs_of c numbers) = jobs_are ∙ ap (λ (f : LeafFinder). jobs_by c f numbers) finder_same ∙ counted_same c tree numbers [] in
    let usages : usage ≡ usage_by_node c now (places_of tree) = usage_is ∙ ap (λ (f : LeafFinder). usage_by c f now) finder_same ∙ usage_same c now tree in
    let nodes : tickets ≡ tickets_by_node c (usage_by_node c now (places_of tree)) (jobs_by_node (places_of tree) (jobs_of c numbers)) tree =
    tickets_are ∙ (λ i. tickets_in c.sched.share (usages i) (jobs_same i) (walk_is i).order)
    ∙ tickets_linked c (usage_by_node c now (places_of tree)) (jobs_by_node (places_of tree) (jobs_of c numbers)) tree in
    list_is ∙ (λ i. map (number_tickets c (finder_same i) (nodes i) (jobs_same i)) numbers)
    ∙ (λ i. map (λ number. number_same c tree (tickets_by_node c (usage_by_node c now (places_of tree)) (jobs_by_node (places_of tree) (jobs_of c numbers)) tree) (jobs_by_node (places_of tree) (jobs_of c numbers)) number i) numbers)
