-- The eligible tasks of a job are the first of those that no hold keeps, and they rise.
use Rattle.std.proofs.Common.{◌≡◌, ℕ, zero, suc, ◌≤◌, ◌==◌, ◌||◌, Bool, true, false, not, cond, if◌then◌else◌, List, [], ◌∷◌, filter, take, Option, Some, None, refl, sym, ap, subst, ◌∙◌, arith}
use Rattle.std.specs.Prelude.{nat_lt}
use Rattle.ge_collections.specs.Keyed.{at_number}
use Rattle.ge_model_rows.specs.ClusterRows.{Cluster}
use Rattle.ge_model_rows.specs.JobRows.{Job}
use Rattle.ge_model_rows.specs.Sets.{numbers_of}
use Rattle.ge_model_rows.proofs.Numbers.{Rising, numbers_rise}
use Rattle.ge_model_rows.proofs.Sets.{form_rises}
use Rattle.ge_model_jobs.specs.Holds.{is_job_held, is_task_held, free_tasks, first_tasks, eligible_of, eligible_tasks}
use Rattle.ge_model_jobs.specs.Orderly.{IsOrderly, AllOrderly, IsOrdered}
use Rattle.ge_model_jobs.proofs.HeldTasks.{free_asked}
use Rattle.ge_model_jobs.proofs.Orderly.{IfOrderly, there_orderly}
use Rattle.ge_model_order.specs.Orders.{first_of, unheld_of, unheld_at}

fits_bound : (bound : ℕ) (jobs : List (ℕ × Job)) (job : Job) → AllOrderly jobs → IsOrderly job
    → first_tasks bound (free_tasks jobs job) ≡ first_of bound (filter (λ task. not (is_task_held jobs job task)) (numbers_of job.queued))
fits_bound bound jobs job all orderly = ap (first_of bound) (free_asked jobs job all orderly)

first_of_none : (bound : ℕ) → [] ≡ first_of bound []
first_of_none bound = by (bound == 0) bound
  where
    by : (none : Bool) (bound : ℕ) → [] ≡ (if none then [] else take {A = ℕ} bound [])
    by true bound = refl
    by false zero = refl
    by false (suc n) = refl

-- the eligible tasks of a job are the first of those that no hold keeps
pub eligible_first : (c : Cluster) → IsOrdered c → (number now bound : ℕ) → eligible_tasks c.jobs number now bound ≡ first_of bound (unheld_at c number now)
unfolding eligible_tasks
eligible_first c ordered number now bound = by (at_number c.jobs number) (there_orderly c.jobs number ordered.jobs)
  where
    kept : (job : Job) → IsOrderly job → (held : Bool)
        → (if held then [] else first_tasks bound (free_tasks c.jobs job))
        ≡ first_of bound (if held then [] else filter (λ task. not (is_task_held c.jobs job task)) (numbers_of job.queued))
    kept job orderly true = first_of_none bound
    kept job orderly false = fits_bound bound c.jobs job ordered.jobs orderly

    by : (job : Option Job) → IfOrderly job → eligible_of c.jobs now bound job ≡ first_of bound (unheld_of c.jobs now job)
    by None orderly = first_of_none bound
    by (Some job) orderly = kept job orderly (is_job_held c.jobs job || nat_lt now job.not_before)

-- ---- they rise

rising_lower : (low high : ℕ) (xs : List ℕ) → low ≤ high → Rising high xs → Rising low xs
rising_lower low high [] below rising = tt
rising_lower low high (x ∷ xs) below (above, rising) = (omega arith, rising)

rising_filter : (test : ℕ → Bool) (low : ℕ) (xs : List ℕ) → Rising low xs → Rising low (filter test xs)
rising_filter test low [] rising = tt
rising_filter test low (x ∷ xs) (above, rising) = by (test x) (rising_filter test x xs rising)
  where
    by : (here : Bool) → Rising x (filter test xs) → Rising low (cond here (x ∷ filter test xs) (filter test xs))
    by true rest = (above, rest)
    by false rest = rising_lower low x (filter test xs) (omega arith) rest

rising_take : (n low : ℕ) (xs : List ℕ) → Rising low xs → Rising low (take n xs)
rising_take zero low xs rising = tt
rising_take (suc n) low [] rising = tt
rising_take (suc n) low (x ∷ xs) (above, rising) = (above, rising_take n x xs rising)

rising_first : (bound low : ℕ) (xs : List ℕ) → Rising low xs → Rising low (first_of bound xs)
rising_first bound low xs rising = by (bound == 0)
  where
    by : (none : Bool) → Rising low (if none then xs else take bound xs)
    by true = rising
    by false = rising_take bound low xs rising

unheld_rise : (c : Cluster) → IsOrdered c → (number now : ℕ) → Rising 0 (unheld_at c number now)
unheld_rise c ordered number now = by (at_number c.jobs number) (there_orderly c.jobs number ordered.jobs)
  where
    kept : (job : Job) → IsOrderly job → (held : Bool) → Rising 0 (if held then [] else filter (λ task. not (is_task_held c.jobs job task)) (numbers_of job.queued))
    kept job orderly true = tt
    kept job orderly false = rising_filter (λ task. not (is_task_held c.jobs job task)) 0 (numbers_of job.queued) (numbers_rise 0 job.queued (form_rises job.queued orderly.waiting))

    by : (job : Option Job) → IfOrderly job → Rising 0 (unheld_of c.jobs now job)
    by None orderly = tt
    by (Some job) orderly = kept job orderly (is_job_held c.jobs job || nat_lt now job.not_before)

pub eligible_rise : (c : Cluster) → IsOrdered c → (number now bound : ℕ) → Rising 0 (eligible_tasks c.jobs number now bound)
eligible_rise c ordered number now bound = subst (Rising 0) (sym (eligible_first c ordered number now bound)) (rising_first bound 0 (unheld_at c number now) (unheld_rise c ordered number now))

-- ---- a job that is no candidate has none

none_left : (bound : ℕ) (xs : List ℕ) → first_of 1 xs ≡ [] → first_of bound xs ≡ []
none_left bound [] none = sym (first_of_none bound)
none_left bound (x ∷ xs) none = cc

-- where a run of one finds no eligible task of a job, none finds one
pub none_with_any : (c : Cluster) → IsOrdered c → (number now bound : ℕ) → eligible_tasks c.jobs number now 1 ≡ [] → eligible_tasks c.jobs number now bound ≡ []
none_with_any c ordered number now bound none =
    eligible_first c ordered number now bound ∙ none_left bound (unheld_at c number now) (sym (eligible_first c ordered number now 1) ∙ none)
