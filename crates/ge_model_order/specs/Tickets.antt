-- Functional and override tickets: sched_conf, user, project.
use Rattle.std.specs.Prelude.{ℕ, ◌/◌, Bool, not, ◌&&◌, List, [], ◌∷◌, map, filter, filter_map, count_by, Some, None, unwrap_or}
use Rattle.std.specs.List.{list_any}
use Rattle.ge_base.specs.Fixed.{cut_sum, cut_product}
use Rattle.ge_collections.specs.Keyed.{text_eq, at_text, at_number}
use Rattle.ge_model_rows.specs.ClusterRows.{Cluster}
use Rattle.ge_model_rows.specs.JobRows.{Job}
use Rattle.ge_model_rows.specs.PeopleRows.{UserRow, ProjectRow}
use Rattle.ge_model_rows.specs.ValueRows.{million}
use Rattle.ge_model_order.specs.Amounts.{cut_total, cut_at_64, portion, equal_part}
use Rattle.ge_model_rows.specs.Pieces.{is_empty}

-- the jobs of these numbers that are there
abbrev pub jobs_of : Cluster → List ℕ → List Job
jobs_of c numbers = filter_map (at_number c.jobs) numbers

-- a user without a row, and a project without one, has no shares and no tickets
abbrev pub user_of : Cluster → List ℕ → UserRow
user_of c name = unwrap_or (at_text c.users name) (record { fshare = 0; oticket = 0 })

abbrev pub project_of : Cluster → List ℕ → ProjectRow
project_of c name = unwrap_or (at_text c.projects name) (record { fshare = 0; oticket = 0; acl = []; xacl = [] })

abbrev pub is_owned_by : List ℕ → Job → Bool
is_owned_by user job = text_eq job.owner user

-- the empty name is no project
abbrev pub is_in_project : List ℕ → Job → Bool
is_in_project project job = not (is_empty project) && text_eq job.project project

-- the shares of all users with one of these jobs, of all projects with one, and of the jobs themselves (-js)
abbrev pub user_shares : Cluster → List Job → ℕ
user_shares c jobs = cut_total (λ user. user.1.fshare) (filter (λ user. list_any (is_owned_by user.0) jobs) c.users)

abbrev pub project_shares : Cluster → List Job → ℕ
project_shares c jobs = cut_total (λ project. project.1.fshare) (filter (λ project. list_any (is_in_project project.0) jobs) c.projects)

abbrev pub job_shares : List Job → ℕ
job_shares jobs = cut_total (λ job. job.share) jobs

-- the three sums of shares
pub record AllShares : Type 0 where
  pub users : ℕ
  pub projects : ℕ
  pub jobs : ℕ

abbrev pub all_shares : Cluster → List Job → AllShares
all_shares c jobs = record { users = user_shares c jobs; projects = project_shares c jobs; jobs = job_shares jobs }

-- the functional tickets that are divided by users, by projects or by jobs, as its weight says (weight_tickets_functional)
abbrev pub weighted : Cluster → ℕ → ℕ
weighted c weight = cut_product c.sched.functional weight / million

-- from a user: a part of the tickets by the user's share, and of the user's own tickets, divided by the user's jobs
abbrev pub user_tickets : Cluster → AllShares → List Job → List ℕ → ℕ
user_tickets c shares jobs user =
    let count = count_by (is_owned_by user) jobs in
    cut_sum (portion (weighted c c.sched.w_user) (user_of c user).fshare (cut_product shares.users count)) (equal_part (user_of c user).oticket count)

-- from a project the same; a job without a project has none
abbrev pub project_tickets : Cluster → AllShares → List Job → List ℕ → ℕ
project_tickets c shares jobs [] = 0
project_tickets c shares jobs (b ∷ bytes) =
    let count = count_by (is_in_project (b ∷ bytes)) jobs in
    cut_sum (portion (weighted c c.sched.w_project) (project_of c (b ∷ bytes)).fshare (cut_product shares.projects count)) (equal_part (project_of c (b ∷ bytes)).oticket count)

-- from the job itself: a part of the tickets by its share, and its own tickets (-js, -ot)
abbrev pub own_tickets : Cluster → AllShares → Job → ℕ
own_tickets c shares job = cut_sum (portion (weighted c c.sched.w_job) job.share shares.jobs) job.oticket

-- functional and override tickets of a job among these jobs
abbrev pub job_tickets : Cluster → AllShares → List Job → Job → ℕ
job_tickets c shares jobs job =
    cut_at_64 (cut_sum (cut_sum (user_tickets c shares jobs job.owner) (project_tickets c shares jobs job.project)) (own_tickets c shares job))

-- a job that isn't there has none
abbrev pub tickets_at : Cluster → AllShares → List Job → ℕ → ℕ
tickets_at c shares jobs number = elim (at_number c.jobs number) [ None ↦ 0 | Some job ↦ job_tickets c shares jobs job ]

-- functional and override tickets of each of these jobs
unfoldable pub tickets_of : Cluster → List ℕ → List ℕ
tickets_of c numbers =
    let jobs = jobs_of c numbers in
    let shares = all_shares c jobs in
    map (tickets_at c shares jobs) numbers
