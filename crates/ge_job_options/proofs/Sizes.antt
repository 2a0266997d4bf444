-- Sums that a table keeps, cut at 2^128 - 1, beside a bound.
use Rattle.std.proofs.Common.{◌≡◌, ℕ, ◌+◌, ◌-◌, ◌^◌, ◌<◌, min, Bool, true, false, List, [], ◌∷◌, refl, sym, ap, ◌∙◌, arith}
use Rattle.std.specs.Prelude.{nat_lt, sum_by}
use Rattle.std.specs.Map.{values_of}
use Rattle.std.proofs.lemmas.Bool.{ltb-true, ltb-false, lt-ltb, le-ltb}
use Rattle.std.proofs.lemmas.List.Sums.{sum_by-cons}
use Rattle.ge_job_index.specs.Kept.{weight_of}
use Rattle.ge_model_rows.specs.JobRows.{Job}
use Rattle.ge_model_core.specs.Submitting.{live_count, script_length}
use Rattle.ge_rows.specs.Weights.{live_tasks, script_bytes}

abbrev Jobs : Type 0
Jobs = List (ℕ × Job)

-- the sums of the definition are those of the table

live_sum : (jobs : Jobs) → sum_by live_count jobs ≡ weight_of live_tasks jobs
live_sum [] = refl
live_sum (job ∷ jobs) = sum_by-cons live_count job jobs ∙ ap (λ n. live_count job + n) (live_sum jobs) ∙ sym (sum_by-cons live_tasks job.1 (values_of jobs))

script_sum : (jobs : Jobs) → sum_by script_length jobs ≡ weight_of script_bytes jobs
script_sum [] = refl
script_sum (job ∷ jobs) = sum_by-cons script_length job jobs ∙ ap (λ n. script_length job + n) (script_sum jobs) ∙ sym (sum_by-cons script_bytes job.1 (values_of jobs))

-- a bound that is below where sums are cut is passed by the cut sum just where it is by the sum

over_two : (bound w more : ℕ) → bound < 2 ^ 128 - 1 → nat_lt bound (min (min w (2 ^ 128 - 1) + more) (2 ^ 128 - 1)) ≡ nat_lt bound (w + more)
over_two bound w more less = by (nat_lt bound (w + more)) refl
  where
    by : (t : Bool) → nat_lt bound (w + more) ≡ t → nat_lt bound (min (min w (2 ^ 128 - 1) + more) (2 ^ 128 - 1)) ≡ t
    by true e = lt-ltb bound (min (min w (2 ^ 128 - 1) + more) (2 ^ 128 - 1)) (omega (arith, ltb-true bound (w + more) e, less))
    by false e = le-ltb bound (min (min w (2 ^ 128 - 1) + more) (2 ^ 128 - 1)) (omega (arith, ltb-false bound (w + more) e, less))

pub scripts_over : (jobs : Jobs) (bytes : ℕ) → nat_lt 268435456 (min (min (weight_of script_bytes jobs) (2 ^ 128 - 1) + bytes) (2 ^ 128 - 1)) ≡ nat_lt 268435456 (sum_by script_length jobs + bytes)
scripts_over jobs bytes =
    over_two 268435456 (weight_of script_bytes jobs) bytes (omega arith) ∙ ap (λ (n : ℕ). nat_lt 268435456 (n + bytes)) (sym (script_sum jobs))

over_four : (bound w lines steps : ℕ) → bound < 2 ^ 128 - 1
    → nat_lt bound (min (min (min (min w (2 ^ 128 - 1) + lines) (2 ^ 128 - 1) + steps) (2 ^ 128 - 1) + 1) (2 ^ 128 - 1)) ≡ nat_lt bound (w + lines + (steps + 1))
over_four bound w lines steps less = by (nat_lt bound (w + lines + (steps + 1))) refl
  where
    by : (t : Bool) → nat_lt bound (w + lines + (steps + 1)) ≡ t
        → nat_lt bound (min (min (min (min w (2 ^ 128 - 1) + lines) (2 ^ 128 - 1) + steps) (2 ^ 128 - 1) + 1) (2 ^ 128 - 1)) ≡ t
    by true e =
        lt-ltb bound (min (min (min (min w (2 ^ 128 - 1) + lines) (2 ^ 128 - 1) + steps) (2 ^ 128 - 1) + 1) (2 ^ 128 - 1))
        (omega (arith, ltb-true bound (w + lines + (steps + 1)) e, less))
    by false e =
        le-ltb bound (min (min (min (min w (2 ^ 128 - 1) + lines) (2 ^ 128 - 1) + steps) (2 ^ 128 - 1) + 1) (2 ^ 128 - 1))
        (omega (arith, ltb-false bound (w + lines + (steps + 1)) e, less))

pub tasks_over : (jobs : Jobs) (lines steps : ℕ)
    → nat_lt 1000000 (min (min (min (min (weight_of live_tasks jobs) (2 ^ 128 - 1) + lines) (2 ^ 128 - 1) + steps) (2 ^ 128 - 1) + 1) (2 ^ 128 - 1))
    ≡ nat_lt 1000000 (sum_by live_count jobs + lines + (steps + 1))
tasks_over jobs lines steps =
    over_four 1000000 (weight_of live_tasks jobs) lines steps (omega arith) ∙ ap (λ (n : ℕ). nat_lt 1000000 (n + lines + (steps + 1))) (sym (live_sum jobs))
