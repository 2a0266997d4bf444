-- Jobs are held and released as their hold bits are set anew.
use Rattle.std.proofs.Common.{◌≡◌, ℕ, ◌-◌, ◌^◌, Bool, true, false, cond, List, [], ◌∷◌, Some, refl, ap, nat_cmp}
use Rattle.std.specs.Prelude.{bit_or, bit_and}
use Rattle.std.specs.BTreeMap.{is_at}
use Rattle.ge_collections.specs.Keyed.{at_number}
use Rattle.ge_model_rows.specs.JobRows.{Job}
use Rattle.ge_model_jobs.specs.Holds.{hold_of, holds_of}
use Rattle.ge_model_jobs.specs.Altering.{change_job, with_hold, hold_set, held, freed}

-- a change of the bits, by what they were
set_by : (change : ℕ → ℕ) (number : ℕ) (jobs : List (ℕ × Job))
    → change_job (λ job. record job { hold = change job.hold }) jobs number ≡ hold_set jobs number (change (holds_of jobs number))
set_by change number [] = refl
set_by change number (row ∷ rows) = by (is_at (nat_cmp number) row.0) (set_by change number rows)
  where
    changed : Job → Job
    changed job = record job { hold = change job.hold }

    by : (here : Bool) → change_job changed rows number ≡ hold_set rows number (change (holds_of rows number))
        → cond here ((row.0, changed row.1) ∷ rows) (row ∷ change_job changed rows number)
        ≡ cond here ((row.0, with_hold (change (hold_of (cond here (Some row.1) (at_number rows number)))) row.1) ∷ rows)
        (row ∷ change_job (with_hold (change (hold_of (cond here (Some row.1) (at_number rows number))))) rows number)
    by true again = refl
    by false again = ap (λ z. row ∷ z) again

pub held_is_set : (bits number : ℕ) (jobs : List (ℕ × Job)) → change_job (held bits) jobs number ≡ hold_set jobs number (bit_or (holds_of jobs number) bits)
held_is_set bits number jobs = set_by (λ hold. bit_or hold bits) number jobs

pub freed_is_set : (bits number : ℕ) (jobs : List (ℕ × Job)) → change_job (freed bits) jobs number ≡ hold_set jobs number (bit_and (holds_of jobs number) (2 ^ 8 - 1 - bits))
freed_is_set bits number jobs = set_by (λ hold. bit_and hold (2 ^ 8 - 1 - bits)) number jobs
