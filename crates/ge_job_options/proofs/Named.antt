-- The jobs that a pattern names, among those of an owner.
use Rattle.std.proofs.Common.{◌≡◌, ℕ, Bool, true, false, ◌&&◌, cond, List, [], ◌∷◌, refl, ap}
use Rattle.std.specs.Prelude.{map, filter, fold}
use Rattle.ge_collections.specs.Keyed.{text_eq}
use Rattle.ge_model_rows.specs.JobRows.{Job}
use Rattle.ge_model_text.specs.Pattern.{pattern_covers}
use Rattle.ge_model_rows.specs.Pieces.{with_one_number}
use Rattle.ge_model_core.specs.HoldLists.{is_named_by, number_in}
use Rattle.ge_job_options.specs.Holding.{jobs_of_owner, numbers_matching}

abbrev Jobs : Type 0
Jobs = List (ℕ × Job)

abbrev named : ℕ × Job → ℕ × List ℕ
named job = (job.0, job.1.name)

second : (u : Bool) (job : ℕ × Job) (own : List (ℕ × List ℕ)) (rest : Jobs) → map (λ (e : ℕ × List ℕ). e.0) own ≡ map number_in rest
    → map (λ (e : ℕ × List ℕ). e.0) (cond u (named job ∷ own) own) ≡ map number_in (cond u (job ∷ rest) rest)
second true job own rest same = ap (λ (numbers : List ℕ). job.0 ∷ numbers) same
second false job own rest same = same

first : (t : Bool) (pattern : List ℕ) (job : ℕ × Job) (own rest : Jobs) → numbers_matching pattern (map named own) ≡ map number_in rest
    → numbers_matching pattern (map named (cond t (job ∷ own) own)) ≡ map number_in (cond (t && pattern_covers pattern job.1.name) (job ∷ rest) rest)
first true pattern job own rest same = second (pattern_covers pattern job.1.name) job (filter (λ (e : ℕ × List ℕ). pattern_covers pattern e.1) (map named own)) rest same
first false pattern job own rest same = same

pub matching_own : (owner pattern : List ℕ) (jobs : Jobs) → numbers_matching pattern (jobs_of_owner jobs owner) ≡ map number_in (filter (is_named_by owner pattern) jobs)
matching_own owner pattern [] = refl
matching_own owner pattern (job ∷ jobs) =
    first (text_eq owner job.1.owner) pattern job (filter (λ (j : ℕ × Job). text_eq owner j.1.owner) jobs) (filter (is_named_by owner pattern) jobs)
    (matching_own owner pattern jobs)

-- the same, listed once each
pub named_listed : (owner pattern start : List ℕ) (jobs : Jobs)
    → fold with_one_number start (numbers_matching pattern (jobs_of_owner jobs owner)) ≡ fold with_one_number start (map number_in (filter (is_named_by owner pattern) jobs))
named_listed owner pattern start jobs = ap (fold with_one_number start) (matching_own owner pattern jobs)
