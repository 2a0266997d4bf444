-- The jobs of which a task runs, and what each books.
use Rattle.std.specs.Prelude.{ℕ, List, [], Option, Some, None}
use Rattle.ge_job_index.specs.Asked.{bearers_of}
use Rattle.ge_collections.specs.Keyed.{at_number}
use Rattle.ge_model_rows.specs.ClusterRows.{Cluster}
use Rattle.ge_model_rows.specs.HostRows.{Groups}
use Rattle.ge_model_rows.specs.JobRows.{Job}
use Rattle.ge_model_rows.specs.ScheduleRows.{Booking}
use Rattle.ge_model_place.specs.Windows.{job_bookings}
use Rattle.ge_rows.specs.Marks.{job_marks, mark_of}
use Rattle.ge_rows.specs.declared.marks.MarkSort.TheVariants as sort
use Rattle.ge_rows.specs.contracts.marks.JobMarkOrd.TheImpl as order

-- the numbers of the jobs that bear the mark of a running task
abbrev pub running_in : List (ℕ × Job) → List ℕ
running_in jobs = bearers_of order.ghosts.cmp job_marks (mark_of sort.Runs [] [] 0) jobs

abbrev pub bookings_of : Cluster → Groups → ℕ → ℕ → Option Job → List Booking
bookings_of c groups now number None = []
bookings_of c groups now number (Some job) = job_bookings c groups now (number, job)

-- what the running tasks of the job with a number book
abbrev pub bookings_at : Cluster → Groups → ℕ → ℕ → List Booking
bookings_at c groups now number = bookings_of c groups now number (at_number c.jobs number)
