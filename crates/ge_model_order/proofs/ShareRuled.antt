-- Share tickets by tables are those of the rule.
use Rattle.std.proofs.Common.{◌≡◌, refl, ap, sym, ◌∙◌}
use Rattle.std.specs.Prelude.{ℕ, suc, ◌+◌, ◌-◌, ◌^◌, ◌≤◌, Bool, true, false, nat_eq, cond, List, [], ◌∷◌, map, fold, count_by, length, Option, Some, None}
use native.Mathlib.Omega.{arith}
use Rattle.std.specs.List.{AllByRecursion, IsDistinct, cons_option}
use Rattle.std.specs.Option.{option_map}
use Rattle.std.proofs.lemmas.List.{length-map}
use Rattle.std.proofs.lemmas.List.Sums.{sum_by-cons}
use Rattle.ge_base.specs.Fixed.{cut_sum}
use Rattle.ge_collections.specs.Keyed.{at_number}
use Rattle.ge_model_rows.specs.ClusterRows.{Cluster}
use Rattle.ge_model_rows.specs.JobRows.{Job}
use Rattle.ge_model_jobs.specs.Usage.{UsageKey, epoch_of, decayed}
use Rattle.ge_model_order.specs.Amounts.{cut_total, cut_at_64, equal_part}
use Rattle.ge_model_order.specs.Share.{with_charge, usage_by_node, with_job_counted, jobs_by_node, leaf_tickets, job_share_tickets, share_tickets_of}
use Rattle.ge_model_order.specs.ShareRule.{Charge, Weighed, charge_of, charges_of, charged_at, node_line, leaf_of, weighed_tree, node_tickets, jobs_at, share_tickets_at, leaf_tickets as leaf_tickets_by_rule, share_tickets_by_rule}
use Rattle.ge_model_order.specs.ShareTables.{amount_at, raised_along, places_of}
use Rattle.ge_model_order.specs.ShareTree.{Entered, tree_of}
use Rattle.ge_model_rows.specs.Pieces.{lists_number}
use Rattle.ge_model_order.specs.Tickets.{jobs_of}
use Rattle.ge_model_order.proofs.ShareDivided.{tickets_by_node-rule, jobs_at-rule}
use Rattle.ge_model_order.proofs.ShareLeaves.{leaf_at-rule}
use Rattle.ge_model_order.proofs.ShareLines.{charged_along-total}
use Rattle.ge_model_order.proofs.ShareNodes.{IsOnce, IfFound, leaf_has, line_at-rule, line_of-distinct}
use Rattle.ge_model_order.proofs.Walked.{AreLined, tree_of-distinct, tree_of-lined, tree_of-rule}

-- charges that are put along their lines
abbrev put_along : List (ℕ × ℕ) → List Charge → List (ℕ × ℕ)
put_along amounts charges = fold (λ rows charge. raised_along rows charge.nodes charge.amount) amounts charges

charges_put : (c : Cluster) (now : ℕ) (tree : List Entered) → IsOnce tree → (rows : List (UsageKey × ℕ)) (amounts : List (ℕ × ℕ))
    → fold (with_charge (epoch_of now c.sched.halftime) (places_of tree)) amounts rows ≡ put_along amounts (map (charge_of c now tree) rows)
charges_put c now tree once [] amounts = refl
charges_put c now tree once (row ∷ rows) amounts =
    ap (λ (line : List ℕ). fold (with_charge (epoch_of now c.sched.halftime) (places_of tree)) (raised_along amounts line (decayed row.1 row.0.2 (epoch_of now c.sched.halftime))) rows) (line_at-rule tree row.0.0 row.0.1 once)
    ∙ charges_put c now tree once rows (raised_along amounts (node_line tree row.0.0 row.0.1) (decayed row.1 row.0.2 (epoch_of now c.sched.halftime)))

charges_apart : (c : Cluster) (now : ℕ) (tree : List Entered) → AreLined tree → (rows : List (UsageKey × ℕ)) → AllByRecursion (λ charge. IsDistinct nat_eq charge.nodes) (map (charge_of c now tree) rows)
charges_apart c now tree lined [] = tt
charges_apart c now tree lined (row ∷ rows) = (line_of-distinct tree row.0.0 row.0.1 lined, charges_apart c now tree lined rows)

-- the usage of each node by tables is that of the rule
pub usage_by_node-rule : (c : Cluster) (now : ℕ) (tree : List Entered) → IsOnce tree → AreLined tree → (q : ℕ) → amount_at (usage_by_node c now (places_of tree)) q ≡ cut_total (charged_at q) (charges_of c now tree)
usage_by_node-rule c now tree once lined q =
    ap (λ (amounts : List (ℕ × ℕ)). amount_at amounts q) (charges_put c now tree once c.usage []) ∙ charged_along-total (charges_of c now tree) q (charges_apart c now tree lined c.usage)

-- one job on a line
abbrev one_at : List ℕ → Charge
one_at line = record { nodes = line; amount = 1 }

abbrev line_of_job : List Entered → Job → List ℕ
line_of_job tree job = node_line tree job.owner job.project

jobs_put : (tree : List Entered) → IsOnce tree → (jobs : List Job) (amounts : List (ℕ × ℕ)) → fold (with_job_counted (places_of tree)) amounts jobs ≡ put_along amounts (map one_at (map (line_of_job tree) jobs))
jobs_put tree once [] amounts = refl
jobs_put tree once (job ∷ jobs) amounts =
    ap (λ (line : List ℕ). fold (with_job_counted (places_of tree)) (raised_along amounts line 1) jobs) (line_at-rule tree job.owner job.project once)
    ∙ jobs_put tree once jobs (raised_along amounts (node_line tree job.owner job.project) 1)

jobs_apart : (tree : List Entered) → AreLined tree → (jobs : List Job) → AllByRecursion (λ charge. IsDistinct nat_eq charge.nodes) (map one_at (map (line_of_job tree) jobs))
jobs_apart tree lined [] = tt
jobs_apart tree lined (job ∷ jobs) = (line_of-distinct tree job.owner job.project lined, jobs_apart tree lined jobs)

-- a count that isn't cut is how many there are
counted : (q : ℕ) (lines : List (List ℕ)) (n : ℕ) → n + length lines ≤ 2 ^ 128 - 1
    → fold (λ total charge. cut_sum total (charged_at q charge)) n (map one_at lines) ≡ n + count_by (λ line. lists_number line q) lines
counted q [] n fits = omega arith
counted q (line ∷ lines) n fits =
    by (lists_number line q) (counted q lines) ∙ sym (ap (λ (m : ℕ). n + m) (sum_by-cons (λ other. cond (lists_number other q) 1 0) line lines))
  where
    by : (b : Bool) → ((m : ℕ) → m + length lines ≤ 2 ^ 128 - 1 → fold (λ total charge. cut_sum total (charged_at q charge)) m (map one_at lines) ≡ m + count_by (λ other. lists_number other q) lines)
        → fold (λ total charge. cut_sum total (charged_at q charge)) (cut_sum n (cond b 1 0)) (map one_at lines) ≡ n + (cond b 1 0 + count_by (λ other. lists_number other q) lines)
    by true later =
        let whole : cut_sum n 1 ≡ n + 1 = omega arith in
        let rest = later (n + 1) (omega arith) in
        ap (λ (m : ℕ). fold (λ total charge. cut_sum total (charged_at q charge)) m (map one_at lines)) whole ∙ rest ∙ omega arith
    by false later =
        let whole : cut_sum n 0 ≡ n = omega arith in
        let rest = later n (omega arith) in
        ap (λ (m : ℕ). fold (λ total charge. cut_sum total (charged_at q charge)) m (map one_at lines)) whole ∙ rest ∙ omega arith

-- no more jobs are there than numbers
fewer_jobs : (c : Cluster) (numbers : List ℕ) → length (jobs_of c numbers) ≤ length numbers
fewer_jobs c [] = omega arith
fewer_jobs c (number ∷ numbers) = by (at_number c.jobs number) (fewer_jobs c numbers)
  where
    by : (found : Option Job) → length (jobs_of c numbers) ≤ length numbers → length (cons_option found (jobs_of c numbers)) ≤ suc (length numbers)
    by None later = omega arith
    by (Some job) later = omega arith

-- the count of jobs of each node by tables is that of the rule
pub jobs_by_node-rule : (tree : List Entered) → IsOnce tree → AreLined tree → (jobs : List Job) → length jobs ≤ 2 ^ 128 - 1
    → (q : ℕ) → amount_at (jobs_by_node (places_of tree) jobs) q ≡ count_by (λ line. lists_number line q) (map (line_of_job tree) jobs)
jobs_by_node-rule tree once lined jobs fits q =
    let same_length = length-map jobs (line_of_job tree) in
    ap (λ (amounts : List (ℕ × ℕ)). amount_at amounts q) (jobs_put tree once jobs [])
    ∙ charged_along-total (map one_at (map (line_of_job tree) jobs)) q (jobs_apart tree lined jobs)
    ∙ counted q (map (line_of_job tree) jobs) 0 (omega arith)
    ∙ omega arith

-- what a job is given by tables is what it is given by the rule
given_same : (c : Cluster) (tree : List Entered) (nodes : List Weighed) (tickets jobs : List (ℕ × ℕ)) → AllByRecursion (λ node. amount_at jobs node.id ≡ jobs_at nodes node.id) tree → (found : Option Job)
    → job_share_tickets (places_of tree) tickets jobs found
    ≡ (elim found as (λ o. ℕ) [ None ↦ 0 | Some job ↦ leaf_tickets_by_rule nodes tickets (leaf_of tree job.owner job.project) ])
given_same c tree nodes tickets jobs all None = refl
given_same c tree nodes tickets jobs all (Some job) =
    ap (λ (leaf : Option ℕ). leaf_tickets tickets jobs leaf) (leaf_at-rule tree job.owner job.project)
    ∙ by (leaf_of tree job.owner job.project) (leaf_has (λ node. amount_at jobs node.id ≡ jobs_at nodes node.id) tree job.owner job.project all)
  where
    by : (leaf : Option Entered) → IfFound (λ node. amount_at jobs node.id ≡ jobs_at nodes node.id) leaf → leaf_tickets tickets jobs (option_map (λ node. node.id) leaf) ≡ leaf_tickets_by_rule nodes tickets leaf
    by None here = refl
    by (Some leaf) here = ap (λ (n : ℕ). cut_at_64 (equal_part (amount_at tickets leaf.id) n)) here

-- share tickets by tables are those of the rule, for as many jobs as can be counted
pub share_tickets_of-rule : (c : Cluster) (numbers : List ℕ) (now : ℕ) → length numbers ≤ 2 ^ 128 - 1 → share_tickets_of c numbers now ≡ share_tickets_by_rule c numbers now
unfolding share_tickets_of share_tickets_by_rule
share_tickets_of-rule c numbers now fits =
    let tree = tree_of c in
    let once = tree_of-distinct c in
    let lined = tree_of-lined c in
    let fewer = fewer_jobs c numbers in
    let usage = usage_by_node c now (places_of tree) in
    let jobs = jobs_by_node (places_of tree) (jobs_of c numbers) in
    let nodes = weighed_tree c (jobs_of c numbers) now tree in
    let charges = charges_of c now tree in
    let lines = map (line_of_job tree) (jobs_of c numbers) in
    let usage_is = usage_by_node-rule c now tree once lined in
    let jobs_are = jobs_by_node-rule tree once lined (jobs_of c numbers) (omega arith) in
    ap (λ (tickets : List (ℕ × ℕ)). map (λ number. job_share_tickets (places_of tree) tickets jobs (at_number c.jobs number)) numbers)
    (tickets_by_node-rule usage jobs charges lines usage_is jobs_are tree c once)
    ∙ ap (λ (give : ℕ → ℕ). map give numbers)
    (λ i number. given_same c tree nodes (node_tickets c nodes) jobs (jobs_at-rule usage jobs charges lines usage_is jobs_are tree) (at_number c.jobs number) i)
    ∙ ap (λ (walked : List Entered). map (share_tickets_at c walked (weighed_tree c (jobs_of c numbers) now walked) (node_tickets c (weighed_tree c (jobs_of c numbers) now walked))) numbers) (tree_of-rule c)
