-- The share tree and its tickets, by computation.
use Rattle.std.specs.Prelude.{◌≡◌, ℕ, ◌+◌, zero, suc, List, [], ◌∷◌, map, codes, refl}
use Rattle.ge_model_rows.specs.ClusterRows.{Cluster}
use Rattle.ge_model_rows.specs.JobRows.{Job}
use Rattle.ge_model_rows.specs.PeopleRows.{ShareNode}
use Rattle.ge_model_rows.specs.Complexes.{opening}
use Rattle.ge_model_jobs.specs.Usage.{usage_at}
use Rattle.ge_model_jobs.proofs.Samples.{with_jobs}
use Rattle.ge_model_order.specs.Share.{share_tickets_of}
use Rattle.ge_model_order.specs.ShareTree.{Entered, tree_of}
use Rattle.ge_model_order.proofs.Samples.{owned, user_node, group_node}

-- a cluster with a share tree, usage and so many tickets at the root
unfoldable pub sharing : List (ℕ × ShareNode) → List ((List ℕ × List ℕ × ℕ) × ℕ) → ℕ → ℕ → List (ℕ × Job) → Cluster
sharing shares usage tickets halftime jobs =
    let c = with_jobs jobs in
    record c { shares = shares; usage = usage; sched = record c.sched { share = tickets; halftime = halftime } }

abbrev ids : List Entered → List ℕ
ids nodes = map (λ node. node.id) nodes

abbrev root : List ℕ → ℕ × ShareNode
root children = (0, user_node (codes "Root") 1 children)

-- ann and bob have equal shares, and ann used three times as much
abbrev two_users : ℕ → List (ℕ × ShareNode)
two_users shares = root (1 ∷ 2 ∷ []) ∷ (1, user_node (codes "ann") shares []) ∷ (2, user_node (codes "bob") shares []) ∷ []

abbrev two_usages : List ((List ℕ × List ℕ × ℕ) × ℕ)
two_usages = ((codes "ann", [], 0), 300) ∷ ((codes "bob", [], 0), 100) ∷ []

abbrev two_jobs : List (ℕ × Job)
two_jobs = owned 1 (codes "ann") [] ∷ owned 2 (codes "bob") [] ∷ []

less_for_who_used_more : share_tickets_of (sharing (two_users 100) two_usages 10000 168 two_jobs) (1 ∷ 2 ∷ []) 10 ≡ 2549 ∷ 7450 ∷ []
unfolding sharing share_tickets_of tree_of with_jobs opening
less_for_who_used_more = refl

-- a child without a job counts for the usage of all alone, and leaves its part to the other one
all_for_one : share_tickets_of (sharing (two_users 100) two_usages 10000 168 two_jobs) (1 ∷ []) 10 ≡ 10000 ∷ []
unfolding sharing share_tickets_of tree_of with_jobs opening
all_for_one = refl

no_shares_no_tickets : share_tickets_of (sharing (two_users 0) two_usages 10000 168 two_jobs) (1 ∷ 2 ∷ []) 10 ≡ 0 ∷ 0 ∷ []
unfolding sharing share_tickets_of tree_of with_jobs opening
no_shares_no_tickets = refl

no_tree_no_tickets : share_tickets_of (sharing [] two_usages 10000 168 two_jobs) (1 ∷ 2 ∷ []) 10 ≡ 0 ∷ 0 ∷ []
unfolding sharing share_tickets_of tree_of with_jobs opening
no_tree_no_tickets = refl

-- a node for all others, projects with nodes below and without, a child that isn't there, and nodes that are children of several:
-- ann's node is entered from that of the others in eng, which therefore is no leaf
abbrev deeper : List (ℕ × ShareNode)
deeper =
    root (1 ∷ 2 ∷ 9 ∷ 3 ∷ 6 ∷ [])
    ∷ (1, group_node (codes "eng") 60 (4 ∷ 5 ∷ []))
    ∷ (2, user_node (codes "ann") 20 [])
    ∷ (3, user_node (codes "default") 20 [])
    ∷ (4, user_node (codes "bob") 3 [])
    ∷ (5, user_node (codes "default") 1 (0 ∷ 2 ∷ []))
    ∷ (6, group_node (codes "ops") 10 [])
    ∷ []

abbrev deeper_usage : List ((List ℕ × List ℕ × ℕ) × ℕ)
deeper_usage =
    ((codes "ann", [], 0), 1000)
    ∷ ((codes "bob", codes "eng", 0), 500)
    ∷ ((codes "cy", codes "eng", 1), 300)
    ∷ ((codes "dan", codes "ops", 1), 900)
    ∷ ((codes "zed", [], 0), 50)
    ∷ []

abbrev deeper_jobs : List (ℕ × Job)
deeper_jobs =
    owned 1 (codes "ann") []
    ∷ owned 2 (codes "bob") []
    ∷ owned 3 (codes "bob") (codes "eng")
    ∷ owned 4 (codes "cy") (codes "eng")
    ∷ owned 5 (codes "dan") (codes "ops")
    ∷ owned 6 (codes "eve") (codes "other")
    ∷ owned 7 (codes "ann") (codes "eng")
    ∷ []

walked_in_order : ids (tree_of (sharing deeper [] 0 1 [])) ≡ 0 ∷ 1 ∷ 4 ∷ 5 ∷ 2 ∷ 3 ∷ 6 ∷ []
unfolding sharing tree_of with_jobs opening
walked_in_order = refl

-- outside of eng ann has no leaf and goes with the others; cy has none in eng; ops is a leaf itself; other has no node
leaves_of_users_and_projects : share_tickets_of (sharing deeper deeper_usage 100000 1 deeper_jobs) (1 ∷ 2 ∷ 3 ∷ 4 ∷ 5 ∷ 6 ∷ 7 ∷ []) 7200
    ≡ 4518 ∷ 4518 ∷ 2378 ∷ 0 ∷ 3998 ∷ 4518 ∷ 80066 ∷ []
unfolding sharing share_tickets_of tree_of with_jobs opening
leaves_of_users_and_projects = refl

-- a row of a later epoch doesn't decay
before_any_decay : share_tickets_of (sharing deeper deeper_usage 100000 1 deeper_jobs) (1 ∷ 2 ∷ 3 ∷ 4 ∷ 5 ∷ 6 ∷ 7 ∷ []) 0
    ≡ 4313 ∷ 4313 ∷ 2294 ∷ 0 ∷ 7520 ∷ 4313 ∷ 77242 ∷ []
unfolding sharing share_tickets_of tree_of with_jobs opening
before_any_decay = refl

halved_with_an_epoch : map (usage_at (sharing [] (((codes "ann", [], 0), 1001) ∷ []) 0 1 []) (codes "ann") []) (3599 ∷ 3600 ∷ []) ≡ 1001 ∷ 500 ∷ []
unfolding sharing usage_at with_jobs opening
halved_with_an_epoch = refl

-- nodes each of which has the next one as its child
abbrev chain : ℕ → ℕ → List (ℕ × ShareNode)
chain zero id = []
chain (suc more) id = (id, user_node (codes "n") 1 ((id + 1) ∷ [])) ∷ chain more (id + 1)

-- sixteen levels below the root, and no more
no_deeper : ids (tree_of (sharing (chain 20 0) [] 0 1 []))
    ≡ 0 ∷ 1 ∷ 2 ∷ 3 ∷ 4 ∷ 5 ∷ 6 ∷ 7 ∷ 8 ∷ 9 ∷ 10 ∷ 11 ∷ 12 ∷ 13 ∷ 14 ∷ 15 ∷ 16 ∷ []
unfolding sharing tree_of with_jobs opening
no_deeper = refl

-- a node that was too deep on one way is entered on a shorter one
abbrev short_way : List (ℕ × ShareNode)
short_way = (0, user_node (codes "n") 1 (1 ∷ 18 ∷ [])) ∷ (1, user_node (codes "n") 1 (2 ∷ [])) ∷ chain 18 2

entered_on_a_shorter_way : ids (tree_of (sharing short_way [] 0 1 []))
    ≡ 0 ∷ 1 ∷ 2 ∷ 3 ∷ 4 ∷ 5 ∷ 6 ∷ 7 ∷ 8 ∷ 9 ∷ 10 ∷ 11 ∷ 12 ∷ 13 ∷ 14 ∷ 15 ∷ 16 ∷ 18 ∷ 19 ∷ []
unfolding sharing tree_of with_jobs opening
entered_on_a_shorter_way = refl

no_root_no_tree : ids (tree_of (sharing ((1, user_node (codes "ann") 1 []) ∷ []) [] 0 1 [])) ≡ []
unfolding sharing tree_of with_jobs opening
no_root_no_tree = refl

-- a project below a project, as a body allows none but a spool may hold: a leaf below both is in the scope of each
abbrev nested : List (ℕ × ShareNode)
nested =
    root (1 ∷ [])
    ∷ (1, group_node (codes "p") 10 (2 ∷ 4 ∷ []))
    ∷ (2, group_node (codes "q") 30 (3 ∷ []))
    ∷ (3, user_node (codes "ann") 1 [])
    ∷ (4, user_node (codes "default") 10 [])
    ∷ []

in_each_scope : share_tickets_of (sharing nested [] 1000 1 (owned 1 (codes "ann") (codes "p") ∷ owned 2 (codes "bob") (codes "p") ∷ [])) (1 ∷ 2 ∷ []) 10
    ≡ 750 ∷ 250 ∷ []
unfolding sharing share_tickets_of tree_of with_jobs opening
in_each_scope = refl
