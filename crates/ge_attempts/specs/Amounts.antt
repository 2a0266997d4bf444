-- What jobs of the table ask of a name for one slot, at least.
use Rattle.std.specs.Prelude.{◌≡◌, ℕ, ◌≤◌, Bool, if◌then◌else◌, nat_lt, min, List, Some, None, unwrap_or}
use Rattle.ge_collections.specs.Keyed.{at_text, at_number}
use Rattle.ge_job_index.specs.declared.short_row.ShortRow.{ShortRow}
use Rattle.ge_capacities.specs.Found.{amount_or_default}
use Rattle.ge_model_rows.specs.ClusterRows.{Cluster}
use Rattle.ge_model_rows.specs.JobRows.{Job}
use Rattle.ge_model_rows.specs.ValueRows.{ComplexDef}
use Rattle.ge_model_rows.specs.Pieces.{is_one_of}
use Rattle.ge_model_rows.specs.Values.{amount_in}
use Rattle.ge_model_place.specs.Limits.{greatest_demand, per_slot}
use Rattle.ge_model_place.specs.Opening.{has_value}
use Rattle.ge_rows.specs.JobShort.{job_facts}
use Rattle.ge_rows.specs.declared.labels.JobFacts.{JobFacts}

-- a job is one of the table
pub record IsInTable (c : Cluster) (job : Job) : Type 0 where
  pub number : ℕ
  pub there : at_number c.jobs number ≡ Some job

-- whether a job asks for a name itself: qsub, -l
abbrev pub asks_itself : List ℕ → ℕ × Job → Bool
asks_itself name row = has_value row.1.request.asked name

-- each job has a short row, with its facts
abbrev pub TellFacts : List (ℕ × Job) → List (ℕ × ShortRow JobFacts) → Type 0
TellFacts jobs rows = (number : ℕ) (job : Job) → at_number jobs number ≡ Some job → (row : ShortRow JobFacts) × (at_number rows number ≡ Some row) × (row.facts ≡ job_facts job)

-- what the job of a number asks of a consumable for one slot; 0 where it isn't there
abbrev pub amount_at : ComplexDef → List ℕ → List (ℕ × Job) → ℕ → ℕ
amount_at complex name jobs number = elim (at_number jobs number) [ None ↦ 0 | Some job ↦ amount_or_default complex (at_text job.request.asked name) ]

-- the lesser of an amount and what the job of a short row asks, which is looked up only where the job asks less of something
abbrev pub lesser_asked : ComplexDef → List ℕ → List (ℕ × Job) → ℕ → ℕ × ShortRow JobFacts → ℕ
lesser_asked complex name jobs least row = if nat_lt row.1.facts.least least then min least (amount_at complex name jobs row.0) else least

-- what a job asks that doesn't ask for a name itself: the default, where the name isn't among those for which each job does
abbrev pub unasked : ComplexDef → List ℕ → List (List ℕ) → ℕ
unasked complex name names = if is_one_of name names then greatest_demand else amount_in complex.fallback

-- no job asks less of a consumable
abbrev pub IsLeastOf : ComplexDef → List ℕ → List (ℕ × Job) → ℕ → Type 0
IsLeastOf complex name jobs amount = (number : ℕ) (job : Job) → at_number jobs number ≡ Some job → amount ≤ amount_or_default complex (at_text job.request.asked name)

-- no job of the table asks less of a name
abbrev pub IsLeast : Cluster → List ℕ → ℕ → Type 0
IsLeast c name amount = (job : Job) → IsInTable c job → amount ≤ min (per_slot c job name) greatest_demand

-- what a table of numbers has at a name, 0 where it has nothing there
abbrev pub number_in : List (List ℕ × ℕ) → List ℕ → ℕ
number_in numbers name = unwrap_or (at_text numbers name) 0

abbrev pub AreLeast : Cluster → List (List ℕ × ℕ) → Type 0
AreLeast c amounts = (name : List ℕ) → IsLeast c name (number_in amounts name)
