-- What is computed from the counts is what the definition says of the jobs.
use Rattle.std.proofs.Common.{◌≡◌, ℕ, ◌+◌, Bool, true, false, cond, List, [], ◌∷◌, Option, Some, None, refl, sym, ap, ◌∙◌, arith, map, fold}
use borrow.Author.Tests.{lt-ltb}
use Rattle.std.specs.Prelude.{filter, nat_lt, ◌||◌}
use Rattle.std.specs.List.{cons_option, count_by, list_any}
use Rattle.std.proofs.lemmas.List.Sums.{sum_by-cons}
use Rattle.ge_base.specs.Fixed.{cut_sum}
use Rattle.ge_collections.specs.Keyed.{at_number}
use Rattle.ge_model_rows.specs.ClusterRows.{Cluster}
use Rattle.ge_model_rows.specs.JobRows.{Job}
use Rattle.ge_model_order.specs.Amounts.{cut_total, cut_at_64}
use Rattle.ge_model_order.specs.Tickets.{all_shares, is_owned_by, is_in_project, jobs_of, project_tickets, job_tickets, tickets_at, tickets_of}
use Rattle.ge_tickets.specs.declared.counting.Counts.{Counts}
use Rattle.ge_tickets.specs.declared.summing.ShareSums.{ShareSums}
use Rattle.ge_tickets.specs.Counted.{count_at, AreCounts, counted_shares, with_job_share, sums_of, from_user, from_project, from_itself, counted_tickets, tickets_by_counts}

-- some item passes where the number of those that pass isn't 0
any_counted : {X : Type 0} (p : X → Bool) (xs : List X) → list_any p xs ≡ nat_lt 0 (count_by p xs)
any_counted p [] = refl
any_counted p (x ∷ xs) = by (p x) (any_counted p xs) ∙ ap (nat_lt 0) (sym (sum_by-cons (λ y. cond (p y) 1 0) x xs))
  where
    by : (b : Bool) → list_any p xs ≡ nat_lt 0 (count_by p xs) → (b || list_any p xs) ≡ nat_lt 0 (cond b 1 0 + count_by p xs)
    by true later = sym (lt-ltb 0 (1 + count_by p xs) (omega arith))
    by false later = let e : count_by p xs ≡ 0 + count_by p xs = omega arith in later ∙ ap (nat_lt 0) e

-- the shares of what is counted are those of what has a job
shares_counted : {R : Type 0} (share : R → ℕ) (rows : List (List ℕ × R)) (test : List ℕ → Job → Bool) (jobs : List Job) (counts : List (List ℕ × ℕ))
    → ((q : List ℕ) → count_at counts q ≡ count_by (test q) jobs)
    → counted_shares share rows counts ≡ cut_total (λ row. share row.1) (filter (λ row. list_any (test row.0) jobs) rows)
shares_counted share rows test jobs counts each =
    λ i. cut_total (λ row. share row.1) (filter (λ row. (ap (nat_lt 0) (each row.0) ∙ sym (any_counted (test row.0) jobs)) i) rows)

-- those of the jobs are added up number by number
shares_by_number : (c : Cluster) (numbers : List ℕ) (total : ℕ) → fold (with_job_share c) total numbers ≡ fold (λ sum job. cut_sum sum job.share) total (jobs_of c numbers)
shares_by_number c [] total = refl
shares_by_number c (number ∷ numbers) total = by (at_number c.jobs number) (λ more. shares_by_number c numbers more)
  where
    by : (o : Option Job) → ((more : ℕ) → fold (with_job_share c) more numbers ≡ fold (λ sum job. cut_sum sum job.share) more (jobs_of c numbers))
        → fold (with_job_share c) (elim o as (λ o. ℕ) [ None ↦ total | Some job ↦ cut_sum total job.share ]) numbers
        ≡ fold (λ sum job. cut_sum sum job.share) total (cons_option o (jobs_of c numbers))
    by None later = later total
    by (Some job) later = later (cut_sum total job.share)

module _ (c : Cluster) (numbers : List ℕ) (counts : Counts) (are : AreCounts counts (jobs_of c numbers)) where
  jobs : List Job
  jobs = jobs_of c numbers

  users_same : (sums_of c numbers counts).users ≡ (all_shares c (jobs_of c numbers)).users
  users_same = shares_counted (λ user. user.fshare) c.users is_owned_by (jobs_of c numbers) counts.owners are.owners

  projects_same : (sums_of c numbers counts).projects ≡ (all_shares c (jobs_of c numbers)).projects
  projects_same = shares_counted (λ project. project.fshare) c.projects is_in_project (jobs_of c numbers) counts.projects are.projects

  jobs_same : (sums_of c numbers counts).jobs ≡ (all_shares c (jobs_of c numbers)).jobs
  jobs_same = shares_by_number c numbers 0

  project_same : (project : List ℕ) → from_project c (sums_of c numbers counts).projects project (count_at counts.projects project) ≡ project_tickets c (all_shares c (jobs_of c numbers)) (jobs_of c numbers) project
  project_same [] = refl
  project_same (b ∷ bytes) = λ i. from_project c (projects_same i) (b ∷ bytes) (are.projects (b ∷ bytes) i)

  job_same : (job : Job) → counted_tickets c counts (sums_of c numbers counts) job ≡ job_tickets c (all_shares c (jobs_of c numbers)) (jobs_of c numbers) job
  job_same job = λ i. cut_at_64 (cut_sum (cut_sum (from_user c (users_same i) job.owner (are.owners job.owner i)) (project_same job.project i)) (from_itself c (jobs_same i) job))

  number_same : (number : ℕ) → tickets_by_counts c counts (sums_of c numbers counts) number ≡ tickets_at c (all_shares c (jobs_of c numbers)) (jobs_of c numbers) number
  number_same number = by (at_number c.jobs number)
    where
      by : (o : Option Job) → (elim o as (λ o. ℕ) [ None ↦ 0 | Some job ↦ counted_tickets c counts (sums_of c numbers counts) job ])
          ≡ (elim o as (λ o. ℕ) [ None ↦ 0 | Some job ↦ job_tickets c (all_shares c (jobs_of c numbers)) (jobs_of c numbers) job ])
      by None = refl
      by (Some job) = job_same job

  pub tickets_same : (sums : ShareSums) (tickets : List ℕ) → sums ≡ sums_of c numbers counts → tickets ≡ map (tickets_by_counts c counts sums) numbers → tickets ≡ tickets_of c numbers
  unfolding tickets_of
  tickets_same sums tickets summed listed = listed ∙ ap (λ (s : ShareSums). map (tickets_by_counts c counts s) numbers) summed ∙ (λ i. map (λ number. number_same number i) numbers)
