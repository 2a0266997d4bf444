-- Advance reservations as they are listed, and how long a task in one may run, by computation.
use Rattle.std.specs.Prelude.{◌≡◌, ℕ, List, [], ◌∷◌, Some, None, codes, refl}
use Rattle.std.specs.Fmt.{digits}
use Rattle.ge_model_rows.specs.ClusterRows.{Cluster}
use Rattle.ge_model_rows.specs.JobRows.{Grant, Advance}
use Rattle.ge_model_rows.specs.Complexes.{opening}
use Rattle.ge_model_jobs.proofs.Samples.{lasting, slots_of, one_slot, on_local, some_advance, with_jobs}
use Rattle.ge_model_report.specs.Booked.{booked_lines}
use Rattle.ge_model_report.specs.Orders.{task_lines}
use Rattle.ge_model_report.proofs.Samples.{running_job}

-- one from 100 until before 150
abbrev from_100 : List ℕ → List Grant → Advance
from_100 name grants = some_advance name 100 150 grants

-- one of three slots at two instances, and one of one slot
unfoldable two_booked : Cluster
two_booked = record opening {
  advances =
      (2, from_100 (codes "x") (slots_of (codes "a.q") (codes "h1") 2 ∷ slots_of (codes "a.q") (codes "h2") 1 ∷ []))
      ∷ (7, from_100 (codes "ar") (one_slot (codes "b.q") (codes "h1")))
      ∷ [];
}

before_they_begin : booked_lines two_booked None 99 ≡ codes "2 x ann w 100 150 3" ∷ codes "7 ar ann w 100 150 1" ∷ []
unfolding booked_lines two_booked opening digits
before_they_begin = refl

as_they_begin : booked_lines two_booked None 100 ≡ codes "2 x ann r 100 150 3" ∷ codes "7 ar ann r 100 150 1" ∷ []
unfolding booked_lines two_booked opening digits
as_they_begin = refl

before_they_end : booked_lines two_booked (Some 7) 149 ≡ codes "7 ar ann r 100 150 1" ∷ codes "b.q@h1=1" ∷ []
unfolding booked_lines two_booked opening digits
before_they_end = refl

as_they_end : booked_lines two_booked (Some 2) 150 ≡ codes "2 x ann x 100 150 3" ∷ codes "a.q@h1=2,a.q@h2=1" ∷ []
unfolding booked_lines two_booked opening digits
as_they_end = refl

not_there : booked_lines two_booked (Some 3) 150 ≡ []
unfolding booked_lines two_booked opening digits
not_there = refl

nothing_booked : booked_lines opening None 0 ≡ []
unfolding booked_lines opening digits
nothing_booked = refl

-- a task that started at 120 in the second one may run up to its end, or as long as its job says
unfoldable in_the_second : ℕ → Cluster
unfolding two_booked
in_the_second seconds = record two_booked {
  jobs = (1, lasting seconds (record (running_job (codes "one") (on_local 1 120)) { advance = 7 })) ∷ [];
}

up_to_the_end : task_lines (in_the_second 60) 1 ≡ codes "limit 30" ∷ codes "words 1" ∷ codes "x" ∷ []
unfolding task_lines in_the_second opening digits
up_to_the_end = refl

as_the_job_says : task_lines (in_the_second 20) 1 ≡ codes "limit 20" ∷ codes "words 1" ∷ codes "x" ∷ []
unfolding task_lines in_the_second opening digits
as_the_job_says = refl

-- one that isn't there sets no limit
advance_not_there : task_lines (with_jobs ((1, record (running_job (codes "one") (on_local 1 120)) { advance = 7 }) ∷ [])) 1
    ≡ codes "limit -" ∷ codes "words 1" ∷ codes "x" ∷ []
unfolding task_lines with_jobs opening digits
advance_not_there = refl
