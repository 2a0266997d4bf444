-- Functional and override tickets, by computation.
use Rattle.std.specs.Prelude.{◌≡◌, ℕ, ◌-◌, ◌^◌, List, [], ◌∷◌, codes, refl}
use Rattle.ge_model_rows.specs.ClusterRows.{Cluster}
use Rattle.ge_model_rows.specs.JobRows.{Job}
use Rattle.ge_model_rows.specs.PeopleRows.{UserRow, ProjectRow}
use Rattle.ge_model_rows.specs.Complexes.{opening}
use Rattle.ge_model_jobs.proofs.Samples.{with_jobs}
use Rattle.ge_model_order.specs.Tickets.{tickets_of}
use Rattle.ge_model_order.proofs.Samples.{job_of, owned, user_row, project_row}

-- two jobs of ann, one of them in project p, one of bob in p and one of cy, who has no row, in q
abbrev four_jobs : List (ℕ × Job)
four_jobs =
    (1, record (job_of 1 (codes "ann") (codes "p")) { share = 10 })
    ∷ (2, record (job_of 2 (codes "ann") []) { share = 20 })
    ∷ (3, record (job_of 3 (codes "bob") (codes "p")) { share = 5 })
    ∷ owned 4 (codes "cy") (codes "q")
    ∷ []

abbrev user_rows : ℕ → List (List ℕ × UserRow)
user_rows oticket = (codes "ann", user_row 100 oticket) ∷ (codes "bob", user_row 300 oticket) ∷ (codes "eve", user_row 1000 oticket) ∷ []

abbrev project_rows : ℕ → List (List ℕ × ProjectRow)
project_rows oticket = (codes "p", project_row 50 oticket) ∷ (codes "q", project_row 70 oticket) ∷ []

-- 10000 functional tickets, divided with these weights
abbrev dividing : ℕ → ℕ → ℕ → ℕ → ℕ → Cluster
dividing w_user w_project w_job user_oticket project_oticket =
    let c = with_jobs four_jobs in
    record c {
      users = user_rows user_oticket;
      projects = project_rows project_oticket;
      sched = record c.sched { functional = 10000; w_user = w_user; w_project = w_project; w_job = w_job };
    }

abbrev all_four : List ℕ
all_four = 1 ∷ 2 ∷ 3 ∷ 4 ∷ []

-- 2500 by users: those of ann are divided by two, and eve, who has no job, takes none
by_users : tickets_of (dividing 250000 0 0 0 0) all_four ≡ 312 ∷ 312 ∷ 1875 ∷ 0 ∷ []
unfolding tickets_of with_jobs opening
by_users = refl

by_projects : tickets_of (dividing 0 250000 0 0 0) all_four ≡ 520 ∷ 0 ∷ 520 ∷ 1458 ∷ []
unfolding tickets_of with_jobs opening
by_projects = refl

by_jobs : tickets_of (dividing 0 0 250000 0 0) all_four ≡ 714 ∷ 1428 ∷ 357 ∷ 0 ∷ []
unfolding tickets_of with_jobs opening
by_jobs = refl

-- override tickets are divided by the jobs of a user and of a project
by_override : tickets_of (dividing 0 0 0 7 11) all_four ≡ 8 ∷ 3 ∷ 12 ∷ 11 ∷ []
unfolding tickets_of with_jobs opening
by_override = refl

-- the sums run over the listed jobs alone, and the list's order stays
listed_alone : tickets_of (dividing 250000 250000 250000 0 0) (3 ∷ 1 ∷ []) ≡ 3958 ∷ 3541 ∷ []
unfolding tickets_of with_jobs opening
listed_alone = refl

one_that_is_not_there : tickets_of (dividing 250000 0 0 0 0) (9 ∷ 4 ∷ 1 ∷ []) ≡ 0 ∷ 0 ∷ 2500 ∷ []
unfolding tickets_of with_jobs opening
one_that_is_not_there = refl

-- nothing is divided where no one has shares
no_shares : tickets_of (dividing 250000 250000 0 0 0) (4 ∷ []) ≡ 2500 ∷ []
unfolding tickets_of with_jobs opening
no_shares = refl

-- tickets end at 2^64 - 1
most_tickets : Cluster
most_tickets = let c = with_jobs ((1, record (job_of 1 (codes "ann") []) { oticket = 2 ^ 64 - 1 }) ∷ []) in record c { users = user_rows 1 }

cut_at_the_end : tickets_of most_tickets (1 ∷ []) ≡ (2 ^ 64 - 1) ∷ []
unfolding most_tickets tickets_of with_jobs opening
cut_at_the_end = refl
