-- Where no user and no project has tickets, and jobs have none by their shares, the tickets of a job are its own.
use Rattle.std.proofs.Common.{◌≡◌, ℕ, ◌/◌, ◌==◌, Bool, true, false, List, [], ◌∷◌, Option, Some, None, refl, sym, ap, ◌∙◌, arith, map, max, unwrap_or}
use Rattle.std.specs.Prelude.{if◌then◌else◌}
use native.Mathlib.Nat.{zero-div}
use Rattle.std.specs.List.{count_by}
use Rattle.std.specs.Option.{option_map}
use Rattle.std.specs.Ordering.{nat_cmp}
use Rattle.ge_base.specs.Fixed.{cut_sum, cut_product}
use Rattle.ge_collections.specs.Keyed.{at_number, at_text}
use Rattle.ge_job_index.specs.Short.{AreShort, short_of}
use Rattle.ge_job_index.specs.declared.short_row.ShortRow.{ShortRow}
use Rattle.ge_rows.specs.JobShort.{job_facts, job_labels}
use Rattle.ge_rows.specs.declared.labels.JobFacts.{JobFacts}
use Rattle.ge_rows.specs.contracts.labels.JobLabelOrd.TheImpl.{cmp-value as by_label}
use Rattle.ge_model_rows.specs.ClusterRows.{Cluster}
use Rattle.ge_model_rows.specs.JobRows.{Job}
use Rattle.ge_model_rows.specs.PeopleRows.{UserRow, ProjectRow}
use Rattle.ge_model_order.specs.Amounts.{cut_at_64, portion, equal_part}
use Rattle.ge_model_order.specs.Tickets.{AllShares, all_shares, weighted, user_of, project_of, user_tickets, project_tickets, is_owned_by, is_in_project, job_tickets, tickets_at, jobs_of, tickets_of}
use Rattle.ge_tickets.specs.Own.{OwnAlone, own_tickets, told_tickets}

-- no part of something, and a part of nothing
no_part : (amount whole : ℕ) → portion amount 0 whole ≡ 0
no_part amount whole = by (whole == 0)
  where
    by : (b : Bool) → (if b then 0 else cut_product amount 0 / whole) ≡ 0
    by true = refl
    by false = let none : cut_product amount 0 ≡ 0 = omega arith in ap (λ n. n / whole) none ∙ zero-div whole

of_nothing : (part whole : ℕ) → portion 0 part whole ≡ 0
of_nothing part whole = by (whole == 0)
  where
    by : (b : Bool) → (if b then 0 else cut_product 0 part / whole) ≡ 0
    by true = refl
    by false = let none : cut_product 0 part ≡ 0 = omega arith in ap (λ n. n / whole) none ∙ zero-div whole

nothing_each : (count : ℕ) → equal_part 0 count ≡ 0
nothing_each count = zero-div (max 1 count)

own_left : (n : ℕ) → cut_at_64 (cut_sum (cut_sum 0 0) (cut_sum 0 n)) ≡ cut_at_64 n
own_left n = omega arith

nothing_from : (share tickets amount shares count : ℕ) → share ≡ 0 → tickets ≡ 0 → cut_sum (portion amount share (cut_product shares count)) (equal_part tickets count) ≡ 0
nothing_from share tickets amount shares count none given =
    (λ i. cut_sum (portion amount (none i) (cut_product shares count)) (equal_part (given i) count)) ∙ (λ i. cut_sum (no_part amount (cut_product shares count) i) (nothing_each count i))

module _ (c : Cluster) (alone : OwnAlone c) (shares : AllShares) (jobs : List Job) where
  from_user : (user : List ℕ) → user_tickets c shares jobs user ≡ 0
  from_user user =
      nothing_from (user_of c user).fshare (user_of c user).oticket (weighted c c.sched.w_user) shares.users (count_by (is_owned_by user) jobs)
      (ap (λ (users : List (List ℕ × UserRow)). (unwrap_or (at_text users user) (record { fshare = 0; oticket = 0 })).fshare) alone.users)
      (ap (λ (users : List (List ℕ × UserRow)). (unwrap_or (at_text users user) (record { fshare = 0; oticket = 0 })).oticket) alone.users)

  from_project : (project : List ℕ) → project_tickets c shares jobs project ≡ 0
  from_project [] = refl
  from_project (b ∷ bytes) =
      nothing_from (project_of c (b ∷ bytes)).fshare (project_of c (b ∷ bytes)).oticket (weighted c c.sched.w_project) shares.projects (count_by (is_in_project (b ∷ bytes)) jobs)
      (ap (λ (projects : List (List ℕ × ProjectRow)). (unwrap_or (at_text projects (b ∷ bytes)) (record { fshare = 0; oticket = 0; acl = []; xacl = [] })).fshare) alone.projects)
      (ap (λ (projects : List (List ℕ × ProjectRow)). (unwrap_or (at_text projects (b ∷ bytes)) (record { fshare = 0; oticket = 0; acl = []; xacl = [] })).oticket) alone.projects)

  own_same : (job : Job) → cut_at_64 job.oticket ≡ job_tickets c shares jobs job
  own_same job =
      sym
      ((λ i. cut_at_64 (cut_sum (cut_sum (from_user job.owner i) (from_project job.project i)) (cut_sum (ap (λ tickets. portion tickets job.share shares.jobs) alone.shares i) job.oticket)))
      ∙ (λ i. cut_at_64 (cut_sum (cut_sum 0 0) (cut_sum (of_nothing job.share shares.jobs i) job.oticket)))
      ∙ own_left job.oticket)

  number_same : (number : ℕ) → own_tickets c number ≡ tickets_at c shares jobs number
  number_same number = by (at_number c.jobs number)
    where
      by : (o : Option Job) → (elim o as (λ o. ℕ) [ None ↦ 0 | Some job ↦ cut_at_64 job.oticket ]) ≡ (elim o as (λ o. ℕ) [ None ↦ 0 | Some job ↦ job_tickets c shares jobs job ])
      by None = refl
      by (Some job) = own_same job

-- the tickets of jobs are those that each was given
pub own_alone : (c : Cluster) (numbers : List ℕ) → OwnAlone c → map (own_tickets c) numbers ≡ tickets_of c numbers
unfolding tickets_of
own_alone c numbers alone = λ i. map (λ number. number_same c alone (all_shares c (jobs_of c numbers)) (jobs_of c numbers) number i) numbers

-- the short rows of jobs tell them
module _ (c : Cluster) (bound : ℕ) (rows : List (ℕ × ShortRow JobFacts)) (are : AreShort nat_cmp by_label.it job_labels job_facts rows bound c.jobs) where
  told_one : (number : ℕ) → told_tickets rows number ≡ own_tickets c number
  told_one number =
      ap (λ o. elim o as (λ o. ℕ) [ None ↦ 0 | Some row ↦ cut_at_64 row.facts.oticket ]) (are.1.found number) ∙ by (at_number c.jobs number)
    where
      by : (o : Option Job) → (elim (option_map (short_of job_labels job_facts are.0) o) as (λ o. ℕ) [ None ↦ 0 | Some row ↦ cut_at_64 row.facts.oticket ]) ≡ (elim o as (λ o. ℕ) [ None ↦ 0 | Some job ↦ cut_at_64 job.oticket ])
      by None = refl
      by (Some job) = refl

  pub told_same : (numbers : List ℕ) → map (told_tickets rows) numbers ≡ map (own_tickets c) numbers
  told_same numbers = λ i. map (λ number. told_one number i) numbers
