-- What an entry brings to a cluster, where the cluster is to stay sound under it.
use Rattle.std.specs.Prelude.{◌≡◌, ℕ, ◌≤◌, [], IsTrue}
use Rattle.ge_model_rows.specs.ClusterRows.{Cluster}
use Rattle.ge_model_rows.specs.EntryRows.{Change}
use Rattle.ge_model_rows.specs.JobRows.{Job}
use Rattle.ge_model_jobs.specs.Soundness.{HasTask, IsSpanned, IsSound, has_advance}
use Rattle.ge_soundness.proofs.Starts.{AreNumbered}
use Rattle.ge_model_jobs.specs.Orderly.{IsOrderly}
use Rattle.ge_model_jobs.proofs.Orderly.{ArePicks}
use Rattle.ge_model_place.specs.Advances.{KeepsBeside}
use Rattle.ge_soundness.proofs.ChangesBookings.{IsNewAdvance, AreUnjoined}

-- a job that is new to a cluster: it has the next number, tasks in its span alone, and none that runs; where it joined an
-- advance reservation, that is there
pub record IsNew (c : Cluster) (moment : ℕ) (job : Job) : Type 0 where
  pub number : job.number ≡ c.next_job
  pub in_range : c.next_job ≤ 4294967294
  pub tasks : HasTask (job.number, job)
  pub spans : IsSpanned (job.number, job)
  pub idle : job.running ≡ []
  pub orderly : IsOrderly job
  pub submitted : job.submitted ≤ moment
  pub joined : IsTrue (has_advance c.advances (job.number, job))

-- what a change at a moment brings: a new job, sets in the form, starts under the next serials, a new advance reservation
-- that takes no limit over what there is, or the end of some that no live job joined
abbrev pub Fits : Cluster → ℕ → Change → Type 0
Fits c moment (Change.Submit job) = IsNew c moment job
Fits c moment (Change.Delete picks force) = ArePicks picks
Fits c moment (Change.Clear picks) = ArePicks picks
Fits c moment (Change.Run starts) = AreNumbered c.next_serial starts
Fits c moment (Change.Book advance) = IsNewAdvance c advance × (IsSound c → KeepsBeside c moment c.next_advance advance)
Fits c moment (Change.Unbook numbers) = AreUnjoined c.jobs numbers
Fits c moment other = Unit {0}
