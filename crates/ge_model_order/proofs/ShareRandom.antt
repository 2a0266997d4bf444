-- Share clusters that were made at random, with what an independent program of the same rules gives for them.
use Rattle.std.specs.Prelude.{◌≡◌, ℕ, List, [], ◌∷◌, codes, refl}
use Rattle.ge_model_rows.specs.Complexes.{opening}
use Rattle.ge_model_rows.specs.JobRows.{Job}
use Rattle.ge_model_rows.specs.PeopleRows.{ShareNode}
use Rattle.ge_model_jobs.specs.Usage.{UsageKey}
use Rattle.ge_model_jobs.proofs.Samples.{with_jobs}
use Rattle.ge_model_order.specs.Share.{share_tickets_of}
use Rattle.ge_model_order.specs.ShareTree.{tree_of}
use Rattle.ge_model_order.proofs.Samples.{owned, user_node, group_node}
use Rattle.ge_model_order.proofs.ShareRows.{sharing}

abbrev nodes_1 : List (ℕ × ShareNode)
nodes_1 =
    (0, user_node (codes "Root") 1 (1 ∷ 2 ∷ [])) ∷ (1, user_node (codes "cy") 194 [])
    ∷ (2, group_node (codes "p3") 136 (3 ∷ 4 ∷ [])) ∷ (3, user_node (codes "ann") 90 [])
    ∷ (4, user_node (codes "bob") 74 []) ∷ []

abbrev usage_1 : List (UsageKey × ℕ)
usage_1 =
    ((codes "ann", [], 0), 73339) ∷ ((codes "bob", [], 0), 2) ∷ ((codes "cy", [], 0), 3) ∷ ((codes "dan", [], 0), 6)
    ∷ ((codes "dan", codes "p2", 0), 0) ∷ ((codes "eve", [], 0), 55404) ∷ []

abbrev jobs_1 : List (ℕ × Job)
jobs_1 =
    owned 7 (codes "bob") [] ∷ owned 11 (codes "bob") [] ∷ owned 15 (codes "ann") [] ∷ owned 16 (codes "eve") []
    ∷ owned 17 (codes "ann") (codes "p3") ∷ []

tickets_1 : share_tickets_of (sharing nodes_1 usage_1 7507 168 jobs_1) (7 ∷ 11 ∷ 15 ∷ 16 ∷ 17 ∷ []) 183983
    ≡ 0 ∷ 0 ∷ 0 ∷ 0 ∷ 7507 ∷ []
unfolding sharing share_tickets_of tree_of with_jobs opening
tickets_1 = refl

abbrev nodes_2 : List (ℕ × ShareNode)
nodes_2 =
    (0, user_node (codes "Root") 1 (1 ∷ 8 ∷ 9 ∷ [])) ∷ (1, group_node (codes "p3") 41 (2 ∷ 5 ∷ 6 ∷ []))
    ∷ (2, user_node (codes "grp2") 95 (3 ∷ 4 ∷ [])) ∷ (3, user_node (codes "dan") 182 [])
    ∷ (4, user_node (codes "default") 164 []) ∷ (5, user_node (codes "cy") 28 [])
    ∷ (6, user_node (codes "grp1") 77 (7 ∷ [])) ∷ (7, user_node (codes "ann") 27 [])
    ∷ (8, user_node (codes "default") 28 []) ∷ (9, group_node (codes "p2") 131 []) ∷ []

abbrev usage_2 : List (UsageKey × ℕ)
usage_2 = ((codes "bob", [], 0), 1) ∷ ((codes "dan", [], 0), 53896) ∷ ((codes "root", [], 0), 43211) ∷ []

abbrev jobs_2 : List (ℕ × Job)
jobs_2 = owned 5 (codes "bob") [] ∷ owned 6 (codes "eve") [] ∷ []

tickets_2 : share_tickets_of (sharing nodes_2 usage_2 79113 168 jobs_2) (5 ∷ 6 ∷ []) 2116 ≡ 39556 ∷ 39556 ∷ []
unfolding sharing share_tickets_of tree_of with_jobs opening
tickets_2 = refl

abbrev nodes_3 : List (ℕ × ShareNode)
nodes_3 =
    (0, user_node (codes "Root") 1 (1 ∷ 2 ∷ [])) ∷ (1, group_node (codes "p1") 146 [])
    ∷ (2, user_node (codes "grp2") 147 (3 ∷ 4 ∷ [])) ∷ (3, user_node (codes "dan") 14 [])
    ∷ (4, group_node (codes "p2") 69 (5 ∷ 6 ∷ 7 ∷ [])) ∷ (5, user_node (codes "default") 195 [])
    ∷ (6, user_node (codes "cy") 42 []) ∷ (7, user_node (codes "grp1") 140 (8 ∷ 9 ∷ []))
    ∷ (8, user_node (codes "ann") 20 []) ∷ (9, user_node (codes "dan") 96 []) ∷ []

abbrev usage_3 : List (UsageKey × ℕ)
usage_3 =
    ((codes "ann", [], 0), 19077) ∷ ((codes "bob", [], 0), 37457) ∷ ((codes "cy", [], 0), 98277)
    ∷ ((codes "dan", [], 0), 289022) ∷ ((codes "dan", codes "p2", 0), 26747) ∷ ((codes "eve", [], 0), 82462) ∷ []

abbrev jobs_3 : List (ℕ × Job)
jobs_3 =
    owned 4 (codes "ann") [] ∷ owned 5 (codes "bob") [] ∷ owned 7 (codes "cy") [] ∷ owned 15 (codes "eve") []
    ∷ owned 20 (codes "bob") [] ∷ owned 21 (codes "dan") [] ∷ owned 22 (codes "bob") [] ∷ owned 23 (codes "dan") []
    ∷ owned 24 (codes "eve") [] ∷ owned 26 (codes "bob") [] ∷ owned 27 (codes "eve") [] ∷ owned 28 (codes "dan") []
    ∷ owned 29 (codes "dan") [] ∷ owned 30 (codes "bob") [] ∷ owned 31 (codes "ann") [] ∷ owned 33 (codes "bob") []
    ∷ owned 34 (codes "ann") (codes "p2") ∷ owned 40 (codes "cy") [] ∷ owned 41 (codes "bob") []
    ∷ owned 42 (codes "dan") [] ∷ owned 43 (codes "dan") [] ∷ owned 45 (codes "cy") [] ∷ owned 46 (codes "bob") []
    ∷ owned 47 (codes "dan") [] ∷ []

tickets_3 : share_tickets_of (sharing nodes_3 usage_3 49328 24 jobs_3) (4 ∷ 5 ∷ 7 ∷ 15 ∷ 20 ∷ 21 ∷ 22 ∷ 23 ∷ 24 ∷ 26 ∷ 27 ∷ 28 ∷ 29 ∷ 30 ∷ 31 ∷ 33 ∷ 34 ∷ 40 ∷ 41 ∷ 42 ∷ 43 ∷ 45 ∷ 46 ∷ 47 ∷ []) 24237
    ≡ 0 ∷ 0 ∷ 0 ∷ 0 ∷ 0 ∷ 143 ∷ 0 ∷ 143 ∷ 0 ∷ 0 ∷ 0 ∷ 143 ∷ 143 ∷ 0 ∷ 0 ∷ 0 ∷ 48324 ∷ 0 ∷ 0 ∷ 143 ∷ 143 ∷ 0 ∷ 0 ∷ 143
    ∷ []
unfolding sharing share_tickets_of tree_of with_jobs opening
tickets_3 = refl

abbrev nodes_4 : List (ℕ × ShareNode)
nodes_4 =
    (0, user_node (codes "Root") 1 (1 ∷ 6 ∷ 10 ∷ [])) ∷ (1, group_node (codes "p2") 51 (2 ∷ 3 ∷ 4 ∷ []))
    ∷ (2, user_node (codes "cy") 141 []) ∷ (3, user_node (codes "dan") 38 [])
    ∷ (4, user_node (codes "grp1") 125 (5 ∷ [])) ∷ (5, user_node (codes "bob") 163 [])
    ∷ (6, user_node (codes "grp2") 140 (7 ∷ [])) ∷ (7, user_node (codes "grp1") 97 (8 ∷ []))
    ∷ (8, group_node (codes "p2") 24 (9 ∷ [])) ∷ (9, user_node (codes "grp1") 21 [])
    ∷ (10, user_node (codes "ann") 140 []) ∷ []

abbrev usage_4 : List (UsageKey × ℕ)
usage_4 =
    ((codes "ann", [], 0), 19627) ∷ ((codes "bob", [], 0), 23) ∷ ((codes "cy", [], 0), 0)
    ∷ ((codes "dan", [], 0), 589) ∷ ((codes "eve", [], 0), 955) ∷ ((codes "eve", codes "p2", 0), 0)
    ∷ ((codes "root", [], 0), 2) ∷ []

abbrev jobs_4 : List (ℕ × Job)
jobs_4 =
    owned 6 (codes "eve") [] ∷ owned 9 (codes "ann") [] ∷ owned 10 (codes "ann") [] ∷ owned 14 (codes "eve") []
    ∷ owned 16 (codes "root") [] ∷ owned 24 (codes "cy") (codes "p1") ∷ owned 32 (codes "bob") []
    ∷ owned 34 (codes "dan") [] ∷ owned 35 (codes "dan") [] ∷ owned 36 (codes "cy") [] ∷ owned 37 (codes "cy") []
    ∷ owned 38 (codes "cy") [] ∷ owned 39 (codes "bob") (codes "p2") ∷ owned 40 (codes "cy") [] ∷ []

tickets_4 : share_tickets_of (sharing nodes_4 usage_4 72586 168 jobs_4) (6 ∷ 9 ∷ 10 ∷ 14 ∷ 16 ∷ 24 ∷ 32 ∷ 34 ∷ 35 ∷ 36 ∷ 37 ∷ 38 ∷ 39 ∷ 40 ∷ []) 98405
    ≡ 0 ∷ 960 ∷ 960 ∷ 0 ∷ 0 ∷ 0 ∷ 0 ∷ 0 ∷ 0 ∷ 0 ∷ 0 ∷ 0 ∷ 70665 ∷ 0 ∷ []
unfolding sharing share_tickets_of tree_of with_jobs opening
tickets_4 = refl

abbrev nodes_5 : List (ℕ × ShareNode)
nodes_5 =
    (0, user_node (codes "Root") 1 (1 ∷ 2 ∷ 3 ∷ [])) ∷ (1, user_node (codes "dan") 46 [])
    ∷ (2, user_node (codes "ann") 175 []) ∷ (3, user_node (codes "default") 53 []) ∷ []

abbrev usage_5 : List (UsageKey × ℕ)
usage_5 =
    ((codes "ann", [], 12), 3) ∷ ((codes "ann", codes "p2", 0), 2) ∷ ((codes "bob", [], 12), 3)
    ∷ ((codes "cy", [], 0), 112656) ∷ ((codes "dan", [], 0), 70761) ∷ ((codes "dan", [], 12), 82968)
    ∷ ((codes "eve", [], 12), 0) ∷ []

abbrev jobs_5 : List (ℕ × Job)
jobs_5 =
    owned 4 (codes "dan") [] ∷ owned 5 (codes "cy") [] ∷ owned 6 (codes "bob") [] ∷ owned 7 (codes "dan") []
    ∷ owned 8 (codes "ann") (codes "p2") ∷ owned 9 (codes "root") [] ∷ owned 11 (codes "eve") []
    ∷ owned 13 (codes "dan") [] ∷ owned 14 (codes "ann") [] ∷ owned 16 (codes "eve") [] ∷ owned 17 (codes "root") []
    ∷ owned 18 (codes "bob") [] ∷ owned 19 (codes "ann") (codes "p1") ∷ owned 20 (codes "ann") []
    ∷ owned 21 (codes "dan") [] ∷ owned 22 (codes "ann") (codes "p1") ∷ owned 23 (codes "ann") [] ∷ []

tickets_5 : share_tickets_of (sharing nodes_5 usage_5 81699 2 jobs_5) (4 ∷ 5 ∷ 6 ∷ 7 ∷ 8 ∷ 9 ∷ 11 ∷ 13 ∷ 14 ∷ 16 ∷ 17 ∷ 18 ∷ 19 ∷ 20 ∷ 21 ∷ 22 ∷ 23 ∷ []) 91005
    ≡ 41 ∷ 2641 ∷ 2641 ∷ 41 ∷ 10506 ∷ 2641 ∷ 2641 ∷ 41 ∷ 10506 ∷ 2641 ∷ 2641 ∷ 2641 ∷ 10506 ∷ 10506 ∷ 41 ∷ 10506 ∷ 10506
    ∷ []
unfolding sharing share_tickets_of tree_of with_jobs opening
tickets_5 = refl

abbrev nodes_6 : List (ℕ × ShareNode)
nodes_6 =
    (0, user_node (codes "Root") 1 (1 ∷ [])) ∷ (1, user_node (codes "grp2") 179 (2 ∷ 4 ∷ []))
    ∷ (2, group_node (codes "p1") 31 (3 ∷ [])) ∷ (3, user_node (codes "default") 115 [])
    ∷ (4, group_node (codes "p2") 155 (5 ∷ 6 ∷ 7 ∷ [])) ∷ (5, user_node (codes "default") 159 [])
    ∷ (6, user_node (codes "ann") 71 []) ∷ (7, user_node (codes "dan") 142 []) ∷ []

abbrev usage_6 : List (UsageKey × ℕ)
usage_6 =
    ((codes "ann", [], 0), 62358) ∷ ((codes "bob", [], 0), 0) ∷ ((codes "dan", [], 0), 0)
    ∷ ((codes "dan", codes "p2", 0), 51642) ∷ ((codes "eve", [], 0), 19943) ∷ []

abbrev jobs_6 : List (ℕ × Job)
jobs_6 =
    owned 4 (codes "bob") [] ∷ owned 6 (codes "ann") [] ∷ owned 8 (codes "ann") [] ∷ owned 9 (codes "root") []
    ∷ owned 10 (codes "eve") [] ∷ owned 12 (codes "dan") (codes "p2") ∷ owned 13 (codes "bob") (codes "p2")
    ∷ owned 14 (codes "cy") [] ∷ owned 16 (codes "ann") [] ∷ owned 18 (codes "dan") [] ∷ owned 19 (codes "dan") []
    ∷ owned 20 (codes "root") [] ∷ owned 22 (codes "dan") (codes "p2") ∷ owned 23 (codes "dan") (codes "p1")
    ∷ owned 24 (codes "eve") [] ∷ []

tickets_6 : share_tickets_of (sharing nodes_6 usage_6 65302 168 jobs_6) (4 ∷ 6 ∷ 8 ∷ 9 ∷ 10 ∷ 12 ∷ 13 ∷ 14 ∷ 16 ∷ 18 ∷ 19 ∷ 20 ∷ 22 ∷ 23 ∷ 24 ∷ []) 20376
    ≡ 0 ∷ 0 ∷ 0 ∷ 0 ∷ 0 ∷ 13 ∷ 3053 ∷ 0 ∷ 0 ∷ 0 ∷ 0 ∷ 0 ∷ 13 ∷ 62221 ∷ 0 ∷ []
unfolding sharing share_tickets_of tree_of with_jobs opening
tickets_6 = refl

abbrev nodes_7 : List (ℕ × ShareNode)
nodes_7 =
    (0, user_node (codes "Root") 1 (1 ∷ 2 ∷ [])) ∷ (1, user_node (codes "ann") 199 [])
    ∷ (2, user_node (codes "dan") 198 []) ∷ []

abbrev usage_7 : List (UsageKey × ℕ)
usage_7 = ((codes "cy", [], 0), 3) ∷ ((codes "dan", [], 0), 92417) ∷ []

abbrev jobs_7 : List (ℕ × Job)
jobs_7 =
    owned 2 (codes "ann") [] ∷ owned 3 (codes "ann") [] ∷ owned 9 (codes "dan") [] ∷ owned 12 (codes "root") []
    ∷ owned 13 (codes "eve") [] ∷ owned 14 (codes "eve") [] ∷ owned 15 (codes "ann") []
    ∷ owned 16 (codes "eve") (codes "p1") ∷ owned 18 (codes "ann") (codes "p1") ∷ owned 20 (codes "ann") []
    ∷ owned 21 (codes "bob") [] ∷ owned 23 (codes "ann") [] ∷ owned 26 (codes "dan") [] ∷ owned 27 (codes "cy") []
    ∷ owned 28 (codes "ann") [] ∷ owned 29 (codes "dan") [] ∷ owned 30 (codes "cy") (codes "p2")
    ∷ owned 31 (codes "eve") [] ∷ owned 32 (codes "bob") [] ∷ owned 33 (codes "cy") [] ∷ owned 34 (codes "dan") []
    ∷ owned 35 (codes "bob") [] ∷ owned 36 (codes "ann") [] ∷ owned 37 (codes "bob") [] ∷ owned 39 (codes "root") []
    ∷ []

tickets_7 : share_tickets_of (sharing nodes_7 usage_7 17597 168 jobs_7) (2 ∷ 3 ∷ 9 ∷ 12 ∷ 13 ∷ 14 ∷ 15 ∷ 16 ∷ 18 ∷ 20 ∷ 21 ∷ 23 ∷ 26 ∷ 27 ∷ 28 ∷ 29 ∷ 30 ∷ 31 ∷ 32 ∷ 33 ∷ 34 ∷ 35 ∷ 36 ∷ 37 ∷ 39 ∷ []) 186933
    ≡ 2178 ∷ 2178 ∷ 42 ∷ 0 ∷ 0 ∷ 0 ∷ 2178 ∷ 0 ∷ 2178 ∷ 2178 ∷ 0 ∷ 2178 ∷ 42 ∷ 0 ∷ 2178 ∷ 42 ∷ 0 ∷ 0 ∷ 0 ∷ 0 ∷ 42 ∷ 0
    ∷ 2178 ∷ 0 ∷ 0 ∷ []
unfolding sharing share_tickets_of tree_of with_jobs opening
tickets_7 = refl

abbrev nodes_8 : List (ℕ × ShareNode)
nodes_8 =
    (0, user_node (codes "Root") 1 (1 ∷ [])) ∷ (1, group_node (codes "p1") 76 (2 ∷ []))
    ∷ (2, user_node (codes "default") 64 []) ∷ []

abbrev usage_8 : List (UsageKey × ℕ)
usage_8 = ((codes "ann", [], 14), 133434) ∷ ((codes "bob", [], 2), 2) ∷ ((codes "cy", [], 1), 40589) ∷ []

abbrev jobs_8 : List (ℕ × Job)
jobs_8 =
    owned 4 (codes "ann") [] ∷ owned 6 (codes "eve") [] ∷ owned 8 (codes "ann") [] ∷ owned 9 (codes "cy") []
    ∷ owned 10 (codes "dan") (codes "p2") ∷ owned 12 (codes "cy") [] ∷ owned 13 (codes "eve") []
    ∷ owned 14 (codes "eve") [] ∷ owned 15 (codes "eve") (codes "p1") ∷ owned 16 (codes "eve") []
    ∷ owned 17 (codes "root") (codes "p2") ∷ []

tickets_8 : share_tickets_of (sharing nodes_8 usage_8 16363 2 jobs_8) (4 ∷ 6 ∷ 8 ∷ 9 ∷ 10 ∷ 12 ∷ 13 ∷ 14 ∷ 15 ∷ 16 ∷ 17 ∷ []) 106164
    ≡ 0 ∷ 0 ∷ 0 ∷ 0 ∷ 0 ∷ 0 ∷ 0 ∷ 0 ∷ 16363 ∷ 0 ∷ 0 ∷ []
unfolding sharing share_tickets_of tree_of with_jobs opening
tickets_8 = refl

abbrev nodes_9 : List (ℕ × ShareNode)
nodes_9 =
    (0, user_node (codes "Root") 1 (1 ∷ [])) ∷ (1, group_node (codes "p3") 162 (2 ∷ 3 ∷ 4 ∷ []))
    ∷ (2, user_node (codes "bob") 41 []) ∷ (3, user_node (codes "default") 0 []) ∷ (4, user_node (codes "ann") 160 [])
    ∷ []

abbrev usage_9 : List (UsageKey × ℕ)
usage_9 =
    ((codes "ann", [], 0), 2) ∷ ((codes "ann", codes "p2", 0), 215877) ∷ ((codes "bob", [], 0), 6)
    ∷ ((codes "bob", codes "p1", 0), 27095) ∷ ((codes "cy", codes "p1", 0), 25500) ∷ ((codes "cy", codes "p2", 0), 1)
    ∷ ((codes "eve", [], 0), 3) ∷ ((codes "eve", codes "p1", 0), 2) ∷ []

abbrev jobs_9 : List (ℕ × Job)
jobs_9 =
    owned 8 (codes "eve") [] ∷ owned 10 (codes "root") [] ∷ owned 11 (codes "dan") (codes "p3")
    ∷ owned 12 (codes "cy") [] ∷ owned 16 (codes "cy") (codes "p2") ∷ owned 24 (codes "root") []
    ∷ owned 27 (codes "dan") [] ∷ owned 28 (codes "cy") [] ∷ owned 29 (codes "cy") [] ∷ owned 30 (codes "eve") []
    ∷ owned 31 (codes "bob") (codes "p3") ∷ owned 32 (codes "eve") [] ∷ []

tickets_9 : share_tickets_of (sharing nodes_9 usage_9 6946 168 jobs_9) (8 ∷ 10 ∷ 11 ∷ 12 ∷ 16 ∷ 24 ∷ 27 ∷ 28 ∷ 29 ∷ 30 ∷ 31 ∷ 32 ∷ []) 266165
    ≡ 0 ∷ 0 ∷ 0 ∷ 0 ∷ 0 ∷ 0 ∷ 0 ∷ 0 ∷ 0 ∷ 0 ∷ 6946 ∷ 0 ∷ []
unfolding sharing share_tickets_of tree_of with_jobs opening
tickets_9 = refl

abbrev nodes_10 : List (ℕ × ShareNode)
nodes_10 =
    (0, user_node (codes "Root") 1 (1 ∷ 2 ∷ [])) ∷ (1, user_node (codes "bob") 97 [])
    ∷ (2, group_node (codes "p3") 9 (3 ∷ 4 ∷ [])) ∷ (3, user_node (codes "ann") 181 [])
    ∷ (4, user_node (codes "grp2") 61 (5 ∷ 6 ∷ [])) ∷ (5, user_node (codes "dan") 47 [])
    ∷ (6, user_node (codes "grp1") 141 (7 ∷ 8 ∷ [])) ∷ (7, user_node (codes "bob") 34 [])
    ∷ (8, user_node (codes "default") 46 []) ∷ []

abbrev usage_10 : List (UsageKey × ℕ)
usage_10 =
    ((codes "bob", [], 0), 96107) ∷ ((codes "cy", [], 0), 2) ∷ ((codes "dan", [], 0), 3) ∷ ((codes "eve", [], 0), 1)
    ∷ ((codes "root", [], 0), 22013) ∷ []

abbrev jobs_10 : List (ℕ × Job)
jobs_10 =
    owned 4 (codes "ann") [] ∷ owned 10 (codes "cy") [] ∷ owned 12 (codes "eve") (codes "p3")
    ∷ owned 14 (codes "dan") [] ∷ owned 15 (codes "bob") (codes "p1") ∷ owned 16 (codes "ann") []
    ∷ owned 20 (codes "ann") [] ∷ owned 21 (codes "bob") (codes "p1") ∷ owned 22 (codes "eve") []
    ∷ owned 23 (codes "bob") [] ∷ owned 24 (codes "ann") [] ∷ []

tickets_10 : share_tickets_of (sharing nodes_10 usage_10 4455 168 jobs_10) (4 ∷ 10 ∷ 12 ∷ 14 ∷ 15 ∷ 16 ∷ 20 ∷ 21 ∷ 22 ∷ 23 ∷ 24 ∷ []) 186988
    ≡ 0 ∷ 0 ∷ 4025 ∷ 0 ∷ 143 ∷ 0 ∷ 0 ∷ 143 ∷ 0 ∷ 143 ∷ 0 ∷ []
unfolding sharing share_tickets_of tree_of with_jobs opening
tickets_10 = refl

abbrev nodes_11 : List (ℕ × ShareNode)
nodes_11 =
    (0, user_node (codes "Root") 1 (1 ∷ 4 ∷ [])) ∷ (1, group_node (codes "p3") 11 (2 ∷ 3 ∷ []))
    ∷ (2, user_node (codes "default") 148 []) ∷ (3, user_node (codes "cy") 198 [])
    ∷ (4, user_node (codes "default") 34 []) ∷ []

abbrev usage_11 : List (UsageKey × ℕ)
usage_11 =
    ((codes "bob", [], 1), 17200) ∷ ((codes "bob", [], 2), 117849) ∷ ((codes "cy", [], 2), 20198)
    ∷ ((codes "cy", codes "p1", 2), 2) ∷ ((codes "eve", [], 2), 3) ∷ []

abbrev jobs_11 : List (ℕ × Job)
jobs_11 =
    owned 2 (codes "eve") (codes "p3") ∷ owned 5 (codes "cy") [] ∷ owned 8 (codes "bob") [] ∷ owned 9 (codes "dan") []
    ∷ owned 16 (codes "eve") (codes "p2") ∷ owned 17 (codes "bob") [] ∷ owned 21 (codes "bob") []
    ∷ owned 23 (codes "eve") [] ∷ owned 24 (codes "ann") [] ∷ owned 25 (codes "bob") [] ∷ owned 26 (codes "ann") []
    ∷ owned 28 (codes "bob") [] ∷ owned 29 (codes "cy") [] ∷ owned 30 (codes "ann") [] ∷ owned 31 (codes "cy") []
    ∷ owned 32 (codes "cy") [] ∷ owned 33 (codes "eve") [] ∷ owned 34 (codes "cy") [] ∷ owned 35 (codes "dan") []
    ∷ owned 37 (codes "dan") [] ∷ owned 39 (codes "ann") [] ∷ []

tickets_11 : share_tickets_of (sharing nodes_11 usage_11 35450 168 jobs_11) (2 ∷ 5 ∷ 8 ∷ 9 ∷ 16 ∷ 17 ∷ 21 ∷ 23 ∷ 24 ∷ 25 ∷ 26 ∷ 28 ∷ 29 ∷ 30 ∷ 31 ∷ 32 ∷ 33 ∷ 34 ∷ 35 ∷ 37 ∷ 39 ∷ []) 1493654
    ≡ 34397 ∷ 52 ∷ 52 ∷ 52 ∷ 52 ∷ 52 ∷ 52 ∷ 52 ∷ 52 ∷ 52 ∷ 52 ∷ 52 ∷ 52 ∷ 52 ∷ 52 ∷ 52 ∷ 52 ∷ 52 ∷ 52 ∷ 52 ∷ 52 ∷ []
unfolding sharing share_tickets_of tree_of with_jobs opening
tickets_11 = refl

abbrev nodes_12 : List (ℕ × ShareNode)
nodes_12 =
    (0, user_node (codes "Root") 1 (1 ∷ 2 ∷ [])) ∷ (1, user_node (codes "cy") 72 [])
    ∷ (2, user_node (codes "bob") 17 []) ∷ []

abbrev usage_12 : List (UsageKey × ℕ)
usage_12 = ((codes "ann", [], 51), 51253) ∷ ((codes "bob", [], 51), 3) ∷ ((codes "dan", [], 51), 2) ∷ []

abbrev jobs_12 : List (ℕ × Job)
jobs_12 =
    owned 2 (codes "eve") [] ∷ owned 4 (codes "cy") [] ∷ owned 5 (codes "dan") [] ∷ owned 12 (codes "cy") []
    ∷ owned 15 (codes "bob") [] ∷ owned 18 (codes "dan") [] ∷ owned 19 (codes "ann") []
    ∷ owned 23 (codes "bob") (codes "p1") ∷ []

tickets_12 : share_tickets_of (sharing nodes_12 usage_12 50503 1 jobs_12) (2 ∷ 4 ∷ 5 ∷ 12 ∷ 15 ∷ 18 ∷ 19 ∷ 23 ∷ []) 185237
    ≡ 0 ∷ 25192 ∷ 0 ∷ 25192 ∷ 58 ∷ 0 ∷ 0 ∷ 58 ∷ []
unfolding sharing share_tickets_of tree_of with_jobs opening
tickets_12 = refl

abbrev nodes_13 : List (ℕ × ShareNode)
nodes_13 =
    (0, user_node (codes "Root") 1 (1 ∷ 2 ∷ 3 ∷ [])) ∷ (1, user_node (codes "cy") 151 [])
    ∷ (2, user_node (codes "bob") 152 []) ∷ (3, user_node (codes "ann") 141 []) ∷ []

abbrev usage_13 : List (UsageKey × ℕ)
usage_13 = ((codes "cy", [], 0), 2) ∷ ((codes "eve", [], 0), 69088) ∷ []

abbrev jobs_13 : List (ℕ × Job)
jobs_13 =
    owned 1 (codes "eve") [] ∷ owned 4 (codes "eve") [] ∷ owned 8 (codes "cy") [] ∷ owned 9 (codes "dan") []
    ∷ owned 11 (codes "eve") [] ∷ owned 12 (codes "dan") [] ∷ owned 13 (codes "ann") [] ∷ owned 14 (codes "ann") []
    ∷ owned 17 (codes "ann") [] ∷ owned 19 (codes "cy") [] ∷ owned 20 (codes "cy") [] ∷ owned 22 (codes "cy") []
    ∷ owned 23 (codes "bob") [] ∷ []

tickets_13 : share_tickets_of (sharing nodes_13 usage_13 12886 0 jobs_13) (1 ∷ 4 ∷ 8 ∷ 9 ∷ 11 ∷ 12 ∷ 13 ∷ 14 ∷ 17 ∷ 19 ∷ 20 ∷ 22 ∷ 23 ∷ []) 2104215
    ≡ 0 ∷ 0 ∷ 16 ∷ 0 ∷ 0 ∷ 0 ∷ 2056 ∷ 2056 ∷ 2056 ∷ 16 ∷ 16 ∷ 16 ∷ 6650 ∷ []
unfolding sharing share_tickets_of tree_of with_jobs opening
tickets_13 = refl

abbrev nodes_14 : List (ℕ × ShareNode)
nodes_14 =
    (0, user_node (codes "Root") 1 (1 ∷ [])) ∷ (1, group_node (codes "p2") 132 (2 ∷ 3 ∷ 8 ∷ []))
    ∷ (2, user_node (codes "bob") 8 []) ∷ (3, user_node (codes "grp1") 2 (4 ∷ 6 ∷ 7 ∷ []))
    ∷ (4, user_node (codes "grp2") 76 (5 ∷ [])) ∷ (5, user_node (codes "default") 141 [])
    ∷ (6, user_node (codes "ann") 163 []) ∷ (7, user_node (codes "cy") 72 []) ∷ (8, user_node (codes "dan") 89 [])
    ∷ []

abbrev usage_14 : List (UsageKey × ℕ)
usage_14 = ((codes "bob", [], 0), 129873) ∷ ((codes "cy", [], 0), 1) ∷ []

abbrev jobs_14 : List (ℕ × Job)
jobs_14 =
    owned 1 (codes "bob") [] ∷ owned 3 (codes "cy") [] ∷ owned 4 (codes "eve") (codes "p1") ∷ owned 6 (codes "dan") []
    ∷ owned 8 (codes "cy") (codes "p2") ∷ owned 9 (codes "eve") [] ∷ owned 10 (codes "dan") []
    ∷ owned 11 (codes "cy") [] ∷ owned 12 (codes "dan") [] ∷ owned 13 (codes "root") (codes "p2")
    ∷ owned 15 (codes "bob") (codes "p2") ∷ []

tickets_14 : share_tickets_of (sharing nodes_14 usage_14 11407 0 jobs_14) (1 ∷ 3 ∷ 4 ∷ 6 ∷ 8 ∷ 9 ∷ 10 ∷ 11 ∷ 12 ∷ 13 ∷ 15 ∷ []) 10694
    ≡ 0 ∷ 0 ∷ 0 ∷ 0 ∷ 1109 ∷ 0 ∷ 0 ∷ 0 ∷ 0 ∷ 1171 ∷ 9125 ∷ []
unfolding sharing share_tickets_of tree_of with_jobs opening
tickets_14 = refl

abbrev nodes_15 : List (ℕ × ShareNode)
nodes_15 =
    (0, user_node (codes "Root") 1 (1 ∷ 23 ∷ 24 ∷ [])) ∷ (1, user_node (codes "grp2") 95 (2 ∷ 9 ∷ 15 ∷ []))
    ∷ (2, user_node (codes "grp1") 4 (3 ∷ 4 ∷ 5 ∷ [])) ∷ (3, user_node (codes "default") 84 [])
    ∷ (4, user_node (codes "dan") 167 []) ∷ (5, group_node (codes "p2") 127 (6 ∷ 7 ∷ 8 ∷ []))
    ∷ (6, user_node (codes "cy") 183 []) ∷ (7, user_node (codes "default") 38 [])
    ∷ (8, user_node (codes "dan") 199 []) ∷ (9, group_node (codes "p3") 71 (10 ∷ 11 ∷ []))
    ∷ (10, user_node (codes "ann") 53 []) ∷ (11, user_node (codes "grp2") 20 (12 ∷ 13 ∷ 14 ∷ []))
    ∷ (12, user_node (codes "default") 158 []) ∷ (13, user_node (codes "bob") 193 [])
    ∷ (14, user_node (codes "cy") 123 []) ∷ (15, group_node (codes "p2") 67 (16 ∷ 20 ∷ []))
    ∷ (16, user_node (codes "grp1") 11 (17 ∷ 18 ∷ 19 ∷ [])) ∷ (17, user_node (codes "cy") 164 [])
    ∷ (18, user_node (codes "dan") 137 []) ∷ (19, user_node (codes "ann") 166 [])
    ∷ (20, user_node (codes "grp2") 24 (21 ∷ 22 ∷ [])) ∷ (21, user_node (codes "bob") 106 [])
    ∷ (22, user_node (codes "default") 35 []) ∷ (23, user_node (codes "ann") 84 [])
    ∷ (24, group_node (codes "p2") 124 (25 ∷ 28 ∷ 29 ∷ [])) ∷ (25, user_node (codes "grp1") 9 (26 ∷ 27 ∷ []))
    ∷ (26, user_node (codes "default") 112 []) ∷ (27, user_node (codes "cy") 10 [])
    ∷ (28, user_node (codes "dan") 99 []) ∷ (29, user_node (codes "bob") 63 []) ∷ []

abbrev usage_15 : List (UsageKey × ℕ)
usage_15 =
    ((codes "ann", [], 1), 549) ∷ ((codes "bob", [], 1), 146) ∷ ((codes "cy", [], 1), 0)
    ∷ ((codes "dan", [], 1), 136592) ∷ ((codes "dan", codes "p3", 1), 370891) ∷ ((codes "dan", codes "p3", 2), 217970)
    ∷ []

abbrev jobs_15 : List (ℕ × Job)
jobs_15 =
    owned 1 (codes "cy") [] ∷ owned 6 (codes "eve") [] ∷ owned 13 (codes "dan") (codes "p3")
    ∷ owned 15 (codes "dan") [] ∷ owned 16 (codes "cy") [] ∷ owned 17 (codes "bob") []
    ∷ owned 18 (codes "cy") (codes "p2") ∷ owned 19 (codes "bob") [] ∷ owned 23 (codes "ann") []
    ∷ owned 25 (codes "eve") [] ∷ owned 27 (codes "bob") [] ∷ owned 28 (codes "cy") [] ∷ owned 29 (codes "bob") []
    ∷ owned 30 (codes "bob") [] ∷ owned 31 (codes "root") [] ∷ owned 32 (codes "bob") [] ∷ owned 34 (codes "dan") []
    ∷ owned 35 (codes "bob") [] ∷ owned 36 (codes "cy") [] ∷ owned 37 (codes "ann") [] ∷ owned 38 (codes "bob") []
    ∷ owned 39 (codes "dan") (codes "p2") ∷ owned 40 (codes "root") [] ∷ owned 41 (codes "cy") []
    ∷ owned 42 (codes "cy") [] ∷ owned 43 (codes "cy") [] ∷ owned 44 (codes "ann") [] ∷ owned 45 (codes "eve") []
    ∷ owned 48 (codes "root") [] ∷ []

tickets_15 : share_tickets_of (sharing nodes_15 usage_15 36648 168 jobs_15) (1 ∷ 6 ∷ 13 ∷ 15 ∷ 16 ∷ 17 ∷ 18 ∷ 19 ∷ 23 ∷ 25 ∷ 27 ∷ 28 ∷ 29 ∷ 30 ∷ 31 ∷ 32 ∷ 34 ∷ 35 ∷ 36 ∷ 37 ∷ 38 ∷ 39 ∷ 40 ∷ 41 ∷ 42 ∷ 43 ∷ 44 ∷ 45 ∷ 48 ∷ []) 1494460
    ≡ 1 ∷ 1 ∷ 326 ∷ 0 ∷ 1 ∷ 1 ∷ 30 ∷ 1 ∷ 12072 ∷ 1 ∷ 1 ∷ 1 ∷ 1 ∷ 1 ∷ 1 ∷ 1 ∷ 0 ∷ 1 ∷ 1 ∷ 12072 ∷ 1 ∷ 32 ∷ 1 ∷ 1 ∷ 1 ∷ 1
    ∷ 12072 ∷ 1 ∷ 1 ∷ []
unfolding sharing share_tickets_of tree_of with_jobs opening
tickets_15 = refl

abbrev nodes_16 : List (ℕ × ShareNode)
nodes_16 =
    (0, user_node (codes "Root") 1 (1 ∷ 4 ∷ [])) ∷ (1, user_node (codes "grp1") 169 (2 ∷ []))
    ∷ (2, group_node (codes "p1") 155 (3 ∷ [])) ∷ (3, user_node (codes "bob") 130 [])
    ∷ (4, user_node (codes "dan") 11 []) ∷ []

abbrev usage_16 : List (UsageKey × ℕ)
usage_16 =
    ((codes "ann", [], 1), 171233) ∷ ((codes "cy", [], 1), 0) ∷ ((codes "cy", codes "p2", 1), 0)
    ∷ ((codes "eve", [], 1), 2) ∷ []

abbrev jobs_16 : List (ℕ × Job)
jobs_16 =
    owned 1 (codes "cy") (codes "p2") ∷ owned 2 (codes "ann") [] ∷ owned 6 (codes "cy") (codes "p2")
    ∷ owned 8 (codes "ann") [] ∷ owned 9 (codes "bob") [] ∷ owned 13 (codes "eve") [] ∷ owned 16 (codes "bob") []
    ∷ owned 18 (codes "cy") [] ∷ owned 19 (codes "dan") [] ∷ owned 20 (codes "root") [] ∷ []

tickets_16 : share_tickets_of (sharing nodes_16 usage_16 88566 168 jobs_16) (1 ∷ 2 ∷ 6 ∷ 8 ∷ 9 ∷ 13 ∷ 16 ∷ 18 ∷ 19 ∷ 20 ∷ []) 799923
    ≡ 0 ∷ 0 ∷ 0 ∷ 0 ∷ 0 ∷ 0 ∷ 0 ∷ 0 ∷ 88566 ∷ 0 ∷ []
unfolding sharing share_tickets_of tree_of with_jobs opening
tickets_16 = refl

abbrev nodes_17 : List (ℕ × ShareNode)
nodes_17 =
    (0, user_node (codes "Root") 1 (1 ∷ 7 ∷ [])) ∷ (1, group_node (codes "p2") 153 (2 ∷ 3 ∷ 4 ∷ []))
    ∷ (2, user_node (codes "ann") 101 []) ∷ (3, user_node (codes "bob") 189 [])
    ∷ (4, user_node (codes "grp2") 183 (5 ∷ [])) ∷ (5, user_node (codes "grp1") 69 (6 ∷ []))
    ∷ (6, user_node (codes "cy") 143 []) ∷ (7, group_node (codes "p3") 98 (8 ∷ []))
    ∷ (8, user_node (codes "dan") 131 []) ∷ []

abbrev usage_17 : List (UsageKey × ℕ)
usage_17 =
    ((codes "ann", [], 0), 56965) ∷ ((codes "ann", codes "p2", 0), 59873) ∷ ((codes "cy", codes "p2", 0), 65746)
    ∷ ((codes "dan", [], 0), 9) ∷ ((codes "eve", [], 0), 98499) ∷ []

abbrev jobs_17 : List (ℕ × Job)
jobs_17 =
    owned 4 (codes "ann") [] ∷ owned 6 (codes "eve") [] ∷ owned 12 (codes "root") (codes "p2")
    ∷ owned 13 (codes "ann") [] ∷ owned 18 (codes "ann") [] ∷ owned 20 (codes "ann") []
    ∷ owned 22 (codes "cy") (codes "p2") ∷ owned 23 (codes "ann") [] ∷ owned 25 (codes "dan") []
    ∷ owned 27 (codes "ann") [] ∷ owned 28 (codes "bob") [] ∷ []

tickets_17 : share_tickets_of (sharing nodes_17 usage_17 51920 168 jobs_17) (4 ∷ 6 ∷ 12 ∷ 13 ∷ 18 ∷ 20 ∷ 22 ∷ 23 ∷ 25 ∷ 27 ∷ 28 ∷ []) 5151
    ≡ 0 ∷ 0 ∷ 0 ∷ 0 ∷ 0 ∷ 0 ∷ 51920 ∷ 0 ∷ 0 ∷ 0 ∷ 0 ∷ []
unfolding sharing share_tickets_of tree_of with_jobs opening
tickets_17 = refl

abbrev nodes_18 : List (ℕ × ShareNode)
nodes_18 =
    (0, user_node (codes "Root") 1 (1 ∷ 5 ∷ [])) ∷ (1, user_node (codes "grp2") 144 (2 ∷ 3 ∷ 4 ∷ []))
    ∷ (2, user_node (codes "bob") 143 []) ∷ (3, user_node (codes "default") 152 [])
    ∷ (4, user_node (codes "cy") 48 []) ∷ (5, user_node (codes "ann") 194 []) ∷ []

abbrev usage_18 : List (UsageKey × ℕ)
usage_18 = ((codes "bob", [], 0), 13415) ∷ []

abbrev jobs_18 : List (ℕ × Job)
jobs_18 = owned 3 (codes "bob") (codes "p2") ∷ []

tickets_18 : share_tickets_of (sharing nodes_18 usage_18 78405 168 jobs_18) (3 ∷ []) 804 ≡ 78405 ∷ []
unfolding sharing share_tickets_of tree_of with_jobs opening
tickets_18 = refl

abbrev nodes_19 : List (ℕ × ShareNode)
nodes_19 =
    (0, user_node (codes "Root") 1 (1 ∷ 5 ∷ 6 ∷ [])) ∷ (1, user_node (codes "grp1") 90 (2 ∷ 3 ∷ 4 ∷ []))
    ∷ (2, user_node (codes "cy") 49 []) ∷ (3, group_node (codes "p3") 31 []) ∷ (4, group_node (codes "p3") 69 [])
    ∷ (5, user_node (codes "default") 34 []) ∷ (6, group_node (codes "p1") 186 []) ∷ []

abbrev usage_19 : List (UsageKey × ℕ)
usage_19 =
    ((codes "bob", [], 12), 12352) ∷ ((codes "dan", codes "p2", 12), 3) ∷ ((codes "eve", [], 12), 46)
    ∷ ((codes "root", [], 12), 26869) ∷ []

abbrev jobs_19 : List (ℕ × Job)
jobs_19 =
    owned 4 (codes "cy") [] ∷ owned 7 (codes "dan") [] ∷ owned 8 (codes "bob") [] ∷ owned 10 (codes "bob") []
    ∷ owned 22 (codes "dan") [] ∷ owned 24 (codes "dan") [] ∷ owned 25 (codes "bob") []
    ∷ owned 26 (codes "dan") (codes "p1") ∷ []

tickets_19 : share_tickets_of (sharing nodes_19 usage_19 22497 2 jobs_19) (4 ∷ 7 ∷ 8 ∷ 10 ∷ 22 ∷ 24 ∷ 25 ∷ 26 ∷ []) 92677
    ≡ 7327 ∷ 4 ∷ 4 ∷ 4 ∷ 4 ∷ 4 ∷ 4 ∷ 15142 ∷ []
unfolding sharing share_tickets_of tree_of with_jobs opening
tickets_19 = refl

abbrev nodes_20 : List (ℕ × ShareNode)
nodes_20 =
    (0, user_node (codes "Root") 1 (1 ∷ 7 ∷ 8 ∷ [])) ∷ (1, group_node (codes "p1") 55 (2 ∷ []))
    ∷ (2, user_node (codes "grp1") 124 (3 ∷ 4 ∷ 6 ∷ [])) ∷ (3, user_node (codes "bob") 187 [])
    ∷ (4, user_node (codes "grp2") 114 (5 ∷ [])) ∷ (5, user_node (codes "cy") 189 [])
    ∷ (6, user_node (codes "ann") 160 []) ∷ (7, user_node (codes "ann") 98 []) ∷ (8, user_node (codes "cy") 141 [])
    ∷ []

abbrev usage_20 : List (UsageKey × ℕ)
usage_20 =
    ((codes "bob", [], 0), 1) ∷ ((codes "cy", [], 0), 1) ∷ ((codes "cy", codes "p2", 0), 135628)
    ∷ ((codes "eve", [], 0), 5201) ∷ ((codes "eve", codes "p3", 0), 35976) ∷ ((codes "root", [], 0), 23001) ∷ []

abbrev jobs_20 : List (ℕ × Job)
jobs_20 =
    owned 3 (codes "cy") (codes "p2") ∷ owned 4 (codes "root") (codes "p1") ∷ owned 5 (codes "dan") []
    ∷ owned 11 (codes "eve") [] ∷ owned 18 (codes "bob") [] ∷ owned 20 (codes "bob") [] ∷ owned 22 (codes "bob") []
    ∷ owned 23 (codes "root") [] ∷ owned 24 (codes "ann") (codes "p3") ∷ owned 25 (codes "bob") []
    ∷ owned 26 (codes "bob") [] ∷ owned 28 (codes "eve") [] ∷ owned 29 (codes "dan") [] ∷ owned 31 (codes "eve") []
    ∷ owned 32 (codes "dan") (codes "p2") ∷ owned 33 (codes "cy") [] ∷ owned 35 (codes "bob") []
    ∷ owned 36 (codes "bob") [] ∷ owned 38 (codes "cy") [] ∷ []

tickets_20 : share_tickets_of (sharing nodes_20 usage_20 62904 168 jobs_20) (3 ∷ 4 ∷ 5 ∷ 11 ∷ 18 ∷ 20 ∷ 22 ∷ 23 ∷ 24 ∷ 25 ∷ 26 ∷ 28 ∷ 29 ∷ 31 ∷ 32 ∷ 33 ∷ 35 ∷ 36 ∷ 38 ∷ []) 220746
    ≡ 294 ∷ 0 ∷ 0 ∷ 0 ∷ 0 ∷ 0 ∷ 0 ∷ 0 ∷ 62020 ∷ 0 ∷ 0 ∷ 0 ∷ 0 ∷ 0 ∷ 0 ∷ 294 ∷ 0 ∷ 0 ∷ 294 ∷ []
unfolding sharing share_tickets_of tree_of with_jobs opening
tickets_20 = refl
