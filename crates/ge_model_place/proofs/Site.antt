-- What the rows' clusters are made of.
use Rattle.std.specs.Prelude.{ℕ, Bool, true, List, [], Option, Some, None, codes}
use Rattle.ge_model_rows.specs.ClusterRows.{opening_cluster, default_queue, default_sched}
use Rattle.ge_model_rows.specs.DecisionRows.{Decision, Start, Reserve}
use Rattle.ge_model_rows.specs.JobRows.{Job, Grant}
use Rattle.ge_model_rows.specs.QuotaRows.{QuotaRow, Rule, Filter}
use Rattle.ge_model_rows.specs.TaskRows.{TaskId}
use Rattle.ge_model_place.specs.Running.{runs_in_full}
use Rattle.ge_model_rows.specs.Complexes.{opening, opening_complexes}
use Rattle.ge_model_jobs.proofs.Samples.{some_job}

-- a job of a user of which no task waits, without a word
unfoldable pub job : ℕ → List ℕ → Job
job number owner = record (some_job number (codes "a") owner []) { queued = []; words = [] }

abbrev pub reserving : Job → Job
reserving j = record j { reserve = true }

abbrev pub start : ℕ → TaskId → List Grant → Decision
start serial t grants = Start (record { task = t; serial = serial; grants = grants })

abbrev pub reserve : TaskId → ℕ → List Grant → Decision
reserve t moment grants = Reserve (record { task = t; at = moment; grants = grants })

abbrev pub filter_of : Bool → List (List ℕ) → List (List ℕ) → Option Filter
filter_of braces plain without = Some (record { braces = braces; plain = plain; without = without })

-- a rule of users alone
abbrev pub user_rule : Option Filter → List (List ℕ × ℕ) → Rule
user_rule users limits = record { name = []; users = users; projects = None; pes = None; queues = None; hosts = None; limits = limits }

abbrev pub rule_set : List Rule → QuotaRow
rule_set rules = record { description = []; enabled = true; rules = rules }

-- all that the rows compute through, beside their clusters
unfoldable pub runs : Unit {0}
unfolding job default_queue default_sched opening opening_cluster opening_complexes runs_in_full
runs = tt
