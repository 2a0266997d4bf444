-- Tickets and priorities stand one by one beside the jobs of which they are.
use Rattle.std.proofs.Common.{◌≡◌, refl, ap, ◌∙◌, subst}
use Rattle.std.specs.Prelude.{ℕ, suc, Bool, true, false, cond, nat_eq, filter, List, [], ◌∷◌, map, zip, length, Option, Some, None}
use mathlib.Core.Path.{sym}
use native.Mathlib.Omega.{arith}
use Rattle.ge_collections.specs.Keyed.{at_number}
use Rattle.ge_model_rows.specs.ClusterRows.{Cluster}
use Rattle.ge_model_rows.specs.JobRows.{Job}
use Rattle.ge_model_rows.specs.ScheduleRows.{Prio}
use Rattle.std.proofs.lemmas.List.{length-map}
use Rattle.std.proofs.lemmas.Map.Keys.{IsDistinct-from_sorted}
use Rattle.std.specs.Cmp.{unsigned_ties}
use Rattle.std.specs.List.{AllByRecursion, IsDistinct}
use Rattle.std.specs.List.Sorted.{IsStrictlySortedBy}
use Rattle.std.specs.Map.{keys_of}
use Rattle.std.specs.Ordering.{eq_by_cmp, nat_cmp}
use Rattle.ge_model_order.specs.Candidates.{is_candidate, candidates}
use Rattle.ge_model_order.specs.Priority.{Bounds, job_prio, prio_at, prios_of, prios_at, all_tickets_of}
use Rattle.ge_model_order.specs.Share.{share_tickets_of}
use Rattle.ge_model_order.specs.Tickets.{tickets_of}

-- as many tickets as jobs
pub length-tickets_of : (c : Cluster) (jobs : List ℕ) → length (tickets_of c jobs) ≡ length jobs
unfolding tickets_of
length-tickets_of c jobs = length-map jobs _

pub length-share_tickets_of : (c : Cluster) (jobs : List ℕ) (now : ℕ) → length (share_tickets_of c jobs now) ≡ length jobs
unfolding share_tickets_of
length-share_tickets_of c jobs now = length-map jobs _

length-zip : (xs ys : List ℕ) → length xs ≡ length ys → length (zip xs ys) ≡ length xs
length-zip [] ys equal = refl
length-zip (x ∷ xs) [] equal = sym equal
length-zip (x ∷ xs) (y ∷ ys) equal = ap suc (length-zip xs ys (omega arith))

pub length-all_tickets_of : (c : Cluster) (jobs : List ℕ) (now : ℕ) → length (all_tickets_of c jobs now) ≡ length jobs
length-all_tickets_of c jobs now =
    length-map (zip (tickets_of c jobs) (share_tickets_of c jobs now)) _
    ∙ length-zip (tickets_of c jobs) (share_tickets_of c jobs now) (length-tickets_of c jobs ∙ sym (length-share_tickets_of c jobs now))
    ∙ length-tickets_of c jobs

-- a priority is that of the job beside whose tickets it stands
prio_job : (c : Cluster) (now : ℕ) (bounds : Bounds) (entry : ℕ × ℕ) → (prio_at c now bounds entry).job ≡ entry.0
prio_job c now bounds entry = by (at_number c.jobs entry.0)
  where
    by : (found : Option Job) → (elim found as (λ o. Prio) [ None ↦ record { job = entry.0; np = 0; nu = 0; nt = 0; total = 0 } | Some job ↦ job_prio c now bounds entry.0 job entry.1 ]).job ≡ entry.0
    by None = refl
    by (Some job) = refl

jobs_kept : (c : Cluster) (now : ℕ) (bounds : Bounds) (jobs tickets : List ℕ) → length jobs ≡ length tickets → map (λ prio. prio.job) (map (prio_at c now bounds) (zip jobs tickets)) ≡ jobs
jobs_kept c now bounds [] tickets equal = refl
jobs_kept c now bounds (job ∷ jobs) [] equal = absurd (omega arith)
jobs_kept c now bounds (job ∷ jobs) (t ∷ tickets) equal = λ i. prio_job c now bounds (job, t) i ∷ jobs_kept c now bounds jobs tickets (omega arith) i

-- the priorities of a list of jobs are those of its jobs, in their order
pub prios_of-jobs : (c : Cluster) (jobs tickets : List ℕ) (now : ℕ) → length jobs ≡ length tickets → map (λ prio. prio.job) (prios_of c jobs tickets now) ≡ jobs
unfolding prios_of
prios_of-jobs c jobs tickets now equal = jobs_kept c now _ jobs tickets equal

-- keys that rise are different
rising_distinct : (keys : List ℕ) → IsDistinct (eq_by_cmp nat_cmp) keys → IsDistinct nat_eq keys
unfolding IsDistinct
rising_distinct [] apart = tt
rising_distinct (key ∷ keys) apart = (other_keys keys apart.0, rising_distinct keys apart.1)
  where
    other_keys : (others : List ℕ) → AllByRecursion (λ y. eq_by_cmp nat_cmp key y ≡ false) others → AllByRecursion (λ y. nat_eq key y ≡ false) others
    other_keys [] all = tt
    other_keys (other ∷ others) all = (unsigned_ties key other ∙ all.0, other_keys others all.1)

-- numbers that are kept of different ones are different
still_other : (test : ℕ → Bool) (key : ℕ) (keys : List ℕ) → AllByRecursion (λ y. nat_eq key y ≡ false) keys → AllByRecursion (λ y. nat_eq key y ≡ false) (filter test keys)
still_other test key [] all = tt
still_other test key (next ∷ keys) all = by (test next) (still_other test key keys all.1)
  where
    by : (b : Bool) → AllByRecursion (λ y. nat_eq key y ≡ false) (filter test keys) → AllByRecursion (λ y. nat_eq key y ≡ false) (cond b (next ∷ filter test keys) (filter test keys))
    by true later = (all.0, later)
    by false later = later

kept_distinct : (test : ℕ → Bool) (keys : List ℕ) → IsDistinct nat_eq keys → IsDistinct nat_eq (filter test keys)
unfolding IsDistinct
kept_distinct test [] apart = tt
kept_distinct test (key ∷ keys) apart = by (test key) (kept_distinct test keys apart.1)
  where
    by : (b : Bool) → IsDistinct nat_eq (filter test keys) → IsDistinct nat_eq (cond b (key ∷ filter test keys) (filter test keys))
    by true later = (still_other test key keys apart.0, later)
    by false later = later

-- no job is a candidate twice
pub candidates-distinct : (c : Cluster) (now : ℕ) → IsStrictlySortedBy nat_cmp (keys_of c.jobs) → IsDistinct nat_eq (candidates c now)
candidates-distinct c now rising = kept_distinct (is_candidate c now) (keys_of c.jobs) (rising_distinct (keys_of c.jobs) (IsDistinct-from_sorted nat_cmp (keys_of c.jobs) rising))

-- and none has two priorities
pub prios_at-distinct : (c : Cluster) (now : ℕ) → IsStrictlySortedBy nat_cmp (keys_of c.jobs) → IsDistinct nat_eq (map (λ prio. prio.job) (prios_at c now))
unfolding prios_at
prios_at-distinct c now rising =
    subst (IsDistinct nat_eq) (sym (prios_of-jobs c (candidates c now) (all_tickets_of c (candidates c now) now) now (sym (length-all_tickets_of c (candidates c now) now))))
    (candidates-distinct c now rising)
