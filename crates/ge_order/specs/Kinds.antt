-- What requests add to urgency, by the kinds of jobs, and what short rows tell of the jobs of a list.
use Rattle.std.specs.Prelude.{◌≡◌, ℕ, ◌-◌, ◌/◌, ◌^◌, ◌==◌, if◌then◌else◌, min, max, List, All, Option, Some, None, IfSome}
use Rattle.std.specs.List.Sorted.{IsStrictlySortedBy}
use Rattle.std.specs.Map.{keys_of}
use Rattle.std.specs.Option.{option_map}
use Rattle.ge_base.specs.Fixed.{cut_sum, cut_product}
use Rattle.ge_collections.specs.Keyed.{at_number, text_cmp}
use Rattle.ge_job_index.specs.declared.short_row.ShortRow.{ShortRow}
use Rattle.ge_model_rows.specs.ClusterRows.{Cluster}
use Rattle.ge_model_order.specs.Urgency.{resources_urgency}
use Rattle.ge_rows.specs.JobShort.{job_facts}
use Rattle.ge_rows.specs.declared.labels.JobFacts.{JobFacts}
use Rattle.ge_order.specs.declared.standing.Standing.{Standing}
use Rattle.ge_order.specs.declared.standing.Urgent.{Urgent}

-- the number that the kind of a job has among short rows
abbrev pub kind_in : List (ℕ × ShortRow JobFacts) → ℕ → Option ℕ
kind_in rows number = option_map (λ row. row.third) (at_number rows number)

-- what the request of a job adds; that of one that isn't there adds nothing
abbrev pub asked_of : Cluster → ℕ → ℕ
asked_of c number = elim (at_number c.jobs number) [ None ↦ 0 | Some job ↦ resources_urgency c job.request ]

-- jobs whose kinds have one number ask alike
abbrev pub SameAsked : Cluster → List (ℕ × ShortRow JobFacts) → Type 0
SameAsked c rows = (first second kind : ℕ) → kind_in rows first ≡ Some kind → kind_in rows second ≡ Some kind → asked_of c first ≡ asked_of c second

-- a kind has what the requests of its jobs add, if one is kept
abbrev pub IsAsked : Cluster → List (ℕ × ShortRow JobFacts) → Option (ℕ × ℕ) → Type 0
IsAsked c rows last = (kind asked : ℕ) → last ≡ Some (kind, asked) → (number : ℕ) → kind_in rows number ≡ Some kind → asked ≡ asked_of c number

-- and so has each of these
abbrev pub AreAsked : Cluster → List (ℕ × ShortRow JobFacts) → List (Option (ℕ × ℕ)) → Type 0
AreAsked c rows kinds = All (IsAsked c rows) kinds

-- short rows are those of the jobs, and what each job asks for stands by name
pub record TellJobs (c : Cluster) (rows : List (ℕ × ShortRow JobFacts)) : Type 0 where
  pub alike : SameAsked c rows
  pub facts : (number : ℕ) → option_map (λ row. row.facts) (at_number rows number) ≡ option_map job_facts (at_number c.jobs number)
  pub named : (number : ℕ) → IfSome (at_number c.jobs number) (λ job. IsStrictlySortedBy text_cmp (keys_of job.request.asked))

-- the urgency by what a request adds, the moment of the submission and the deadline
abbrev pub urgency_by : Cluster → ℕ → ℕ → ℕ → ℕ → ℕ
urgency_by c asked submitted deadline now =
    min (cut_sum (cut_sum asked (cut_product c.sched.w_waiting (now - submitted))) (if deadline == 0 then 0 else c.sched.w_deadline / max 1 (deadline - now))) (2 ^ 100 - 1)

abbrev pub urgent_by : Cluster → ℕ → ℕ → JobFacts → Urgent
urgent_by c now asked facts = record { priority = facts.priority; urgency = urgency_by c asked facts.submitted facts.deadline now }

-- what short rows tell of a job
abbrev pub told_standing : Cluster → List (ℕ × ShortRow JobFacts) → ℕ → ℕ → Standing
told_standing c rows now number =
    record { job = number; urgent = option_map (λ row. urgent_by c now (asked_of c number) row.facts) (at_number rows number) }
