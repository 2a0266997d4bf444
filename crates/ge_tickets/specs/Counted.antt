-- Tickets where the jobs of each user and each project are counted once (sched_conf, user, project).
use Rattle.std.specs.Prelude.{◌≡◌, ℕ, nat_lt, List, [], ◌∷◌, filter, fold, count_by, Some, None, unwrap_or, Bool, not, ◌&&◌}
use Rattle.ge_base.specs.Fixed.{cut_sum, cut_product}
use Rattle.ge_collections.specs.Keyed.{at_text, at_number, text_eq}
use Rattle.ge_model_rows.specs.ClusterRows.{Cluster}
use Rattle.ge_model_rows.specs.JobRows.{Job}
use Rattle.ge_model_rows.specs.Pieces.{is_empty}
use Rattle.ge_model_order.specs.Amounts.{cut_total, cut_at_64, portion, equal_part}
use Rattle.ge_model_order.specs.Tickets.{user_of, project_of, weighted, is_owned_by, is_in_project}
use Rattle.ge_tickets.specs.declared.counting.Counts.{Counts}
use Rattle.ge_tickets.specs.declared.summing.ShareSums.{ShareSums}

-- how many jobs are counted at a name
abbrev pub count_at : List (List ℕ × ℕ) → List ℕ → ℕ
count_at counts name = unwrap_or (at_text counts name) 0

-- whether a job in this project is one of the project of this name; the empty name is no project
abbrev pub is_named : List ℕ → List ℕ → Bool
is_named name project = not (is_empty name) && text_eq project name

-- what is counted is how many of these jobs each user has, and each project
pub record AreCounts (counts : Counts) (jobs : List Job) : Type 0 where
  pub owners : (q : List ℕ) → count_at counts.owners q ≡ count_by (is_owned_by q) jobs
  pub projects : (q : List ℕ) → count_at counts.projects q ≡ count_by (is_in_project q) jobs

-- the shares of the rows whose names are counted
abbrev pub counted_shares : {R : Type 0} → (R → ℕ) → List (List ℕ × R) → List (List ℕ × ℕ) → ℕ
counted_shares share rows counts = cut_total (λ row. share row.1) (filter (λ row. nat_lt 0 (count_at counts row.0)) rows)

-- the shares of one more job, if it is there
abbrev pub with_job_share : Cluster → ℕ → ℕ → ℕ
with_job_share c total number = elim (at_number c.jobs number) [ None ↦ total | Some job ↦ cut_sum total job.share ]

-- the sums of shares where the jobs are counted
abbrev pub sums_of : Cluster → List ℕ → Counts → ShareSums
sums_of c numbers counts = record {
  users = counted_shares (λ user. user.fshare) c.users counts.owners;
  projects = counted_shares (λ project. project.fshare) c.projects counts.projects;
  jobs = fold (with_job_share c) 0 numbers;
}

-- what each job of a user has from the user, of whom so many jobs are counted, where all users' shares are known
abbrev pub from_user : Cluster → ℕ → List ℕ → ℕ → ℕ
from_user c shares user count =
    cut_sum (portion (weighted c c.sched.w_user) (user_of c user).fshare (cut_product shares count)) (equal_part (user_of c user).oticket count)

-- and from its project; a job without a project has none
abbrev pub from_named : Cluster → ℕ → List ℕ → ℕ → ℕ
from_named c shares project count =
    cut_sum (portion (weighted c c.sched.w_project) (project_of c project).fshare (cut_product shares count)) (equal_part (project_of c project).oticket count)

abbrev pub from_project : Cluster → ℕ → List ℕ → ℕ → ℕ
from_project c shares [] count = 0
from_project c shares (b ∷ bytes) count = from_named c shares (b ∷ bytes) count

-- and from itself
abbrev pub from_itself : Cluster → ℕ → Job → ℕ
from_itself c shares job = cut_sum (portion (weighted c c.sched.w_job) job.share shares) job.oticket

-- the tickets of a job
abbrev pub counted_tickets : Cluster → Counts → ShareSums → Job → ℕ
counted_tickets c counts sums job =
    cut_at_64
    (cut_sum
    (cut_sum (from_user c sums.users job.owner (count_at counts.owners job.owner)) (from_project c sums.projects job.project (count_at counts.projects job.project)))
    (from_itself c sums.jobs job))

-- a job that isn't there has none
abbrev pub tickets_by_counts : Cluster → Counts → ShareSums → ℕ → ℕ
tickets_by_counts c counts sums number = elim (at_number c.jobs number) [ None ↦ 0 | Some job ↦ counted_tickets c counts sums job ]
