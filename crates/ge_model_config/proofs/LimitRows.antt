-- Tables that are full, rules and levels past their bounds, each by computation.
use Rattle.std.specs.Prelude.{◌≡◌, ℕ, ◌+◌, true, false, List, [], ◌∷◌, ◌++◌, Some, None, map, flat_map, replicate, decimal, codes, refl}
use Rattle.std.specs.Fmt.{digits}
use Rattle.std.specs.List.{range_with_len}
use Rattle.ge_base.specs.declared.refusal.Refusal.TheVariants.{Exists, Limit, Cycle}
use Rattle.ge_model_rows.specs.ClusterRows.{Cluster, default_queue}
use Rattle.ge_model_rows.specs.EntryRows.{ObjectKind}
use Rattle.ge_model_config.proofs.Site.{first, answer}

-- a cluster with so many host groups, environments, queues and rule sets
unfoldable crowded : ℕ → Cluster
unfolding first
crowded n = record first {
  groups = replicate n (codes "@g", []);
  queues = replicate n (codes "g", default_queue);
  quotas = replicate n (codes "g", record { description = []; enabled = true; rules = [] });
}

full_of_queues : answer (crowded 255) ObjectKind.Queue true (codes "qname x") ∷ answer (crowded 256) ObjectKind.Queue true (codes "qname x") ∷ answer (crowded 256) ObjectKind.Queue true (codes "qname g")
    ∷ answer (crowded 256) ObjectKind.Queue false (codes "qname g") ∷ [] ≡ None ∷ Some Limit ∷ Some Exists ∷ None ∷ []
unfolding answer crowded
full_of_queues = refl

full_of_rule_sets : map (λ n. answer (crowded n) ObjectKind.Quota true (codes "{\nname x\nlimit to slots=1\n}")) (127 ∷ 128 ∷ []) ≡ None ∷ Some Limit ∷ []
unfolding answer crowded
full_of_rule_sets = refl

-- a rule set of so many rules
unfoldable rules : ℕ → List ℕ
rules n = codes "{\nname x\n" ++ flat_map (λ i. codes "limit to slots=1\n") (range_with_len 0 n) ++ codes "}"

most_rules : map (λ n. answer first ObjectKind.Quota true (rules n)) (64 ∷ 65 ∷ []) ≡ None ∷ Some Limit ∷ []
unfolding answer first rules
most_rules = refl

-- nodes below one another: the root and so many levels, the last one with these children
unfoldable levels : ℕ → List ℕ → List ℕ
unfolding digits
levels n last =
    flat_map (λ i. codes "id=" ++ decimal i ++ codes "\nname=n" ++ decimal i ++ codes "\ntype=0\nshares=1\nchildnodes=" ++ decimal (i + 1) ++ codes "\n") (range_with_len 0 n)
    ++ codes "id=" ++ decimal n ++ codes "\nname=last\ntype=0\nshares=1\nchildnodes=" ++ last

most_levels : answer first ObjectKind.Shares true (levels 16 (codes "NONE")) ∷ answer first ObjectKind.Shares true (levels 17 (codes "NONE")) ∷ answer first ObjectKind.Shares true (levels 17 (codes "0")) ∷ []
    ≡ None ∷ Some Limit ∷ Some Cycle ∷ []
unfolding answer first levels
most_levels = refl
