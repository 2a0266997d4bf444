-- What closes an instance, what `global` configures, names that are empty, and reports that are no amounts, each by computation.
use Rattle.std.specs.Prelude.{◌≡◌, ℕ, Bool, true, false, None, List, [], ◌∷◌, map, is_some, codes, refl}
use Rattle.ge_model_rows.specs.ClusterRows.{Cluster, bare_host}
use Rattle.ge_model_rows.specs.DecisionRows.{Skip}
use Rattle.ge_model_rows.specs.QuotaRows.{Rule}
use Rattle.ge_model_rows.specs.TaskRows.{TaskId}
use Rattle.ge_model_rows.specs.ValueRows.{Value, Amount, Flag, Consumable}
use Rattle.ge_model_rows.specs.Groups.{expanded}
use Rattle.ge_model_rows.specs.Complexes.{opening}
use Rattle.ge_model_place.specs.InstanceOrder.{instance_order}
use Rattle.ge_model_place.specs.Quotas.{Who, key_of}
use Rattle.ge_model_place.specs.Running.{run_of}
use Rattle.ge_model_jobs.proofs.Samples.{asking, task, instance, local, licence, licences, forced_flag, complexes_with, host, loaded, two_hosts}
use Rattle.ge_model_jobs.proofs.Samples.{local_queue, both_queue, all_q}
use Rattle.ge_model_place.proofs.Site.{runs, job, start, filter_of, user_rule, rule_set}

-- a load threshold (queue_conf): np_load_avg of 1.75 closes the instance, a hair less leaves it open

unfoldable reporting : Value → Cluster
reporting load = record opening {
  hosts = two_hosts bare_host (loaded load);
  jobs = (1, job 1 (codes "ann")) ∷ [];
}

threshold_closes : run_of (reporting (Amount 1750000)) (task 1 1 ∷ []) 0 ≡ Skip (task 1 1) ∷ []
unfolding reporting runs
threshold_closes = refl

below_the_threshold : run_of (reporting (Amount 1749999)) (task 1 1 ∷ []) 0 ≡ start 1 (task 1 1) (local 1) ∷ []
unfolding reporting runs
below_the_threshold = refl

-- a flag that is reported where an amount is needed reaches no threshold
flag_closes_nothing : run_of (reporting (Flag true)) (task 1 1 ∷ []) 0 ≡ start 1 (task 1 1) (local 1) ∷ []
unfolding reporting runs
flag_closes_nothing = refl

-- and it is no load: its host comes behind one that reports an amount
unfoldable one_flag : Cluster
one_flag = record opening {
  hosts = (codes "global", bare_host) ∷ (codes "h1", loaded (Flag false)) ∷ (codes "h2", loaded (Amount 9000000)) ∷ [];
  queues = (codes "q", both_queue 1) ∷ [];
}

flag_is_no_load : instance_order one_flag (expanded one_flag) ≡ instance (codes "q") (codes "h2") ∷ instance (codes "q") (codes "h1") ∷ []
unfolding one_flag runs
flag_is_no_load = refl

-- values of the host `global` (host_conf): they configure a consumable, and an attribute that is forced, for each instance

unfoldable for_all : List (List ℕ × Value) → Cluster
for_all values = record opening {
  complexes = complexes_with ((codes "lic", licence Consumable.Yes 0) ∷ (codes "gpu", forced_flag (codes "g")) ∷ []);
  hosts = two_hosts (host values []) bare_host;
  queues = all_q (local_queue 9);
  jobs = (1, asking (licences 2) (job 1 (codes "ann"))) ∷ (2, asking (licences 2) (job 2 (codes "ann")))
      ∷ (3, asking ((codes "gpu", Flag true) ∷ []) (job 3 (codes "ann"))) ∷ (4, job 4 (codes "ann")) ∷ [];
}

abbrev all_tasks : List TaskId
all_tasks = task 1 1 ∷ task 2 1 ∷ task 3 1 ∷ task 4 1 ∷ []

-- of three licences one job gets two; a job that asks for none takes none
consumable_at_global : run_of (for_all (licences 3)) all_tasks 0
    ≡ start 1 (task 1 1) (local 1) ∷ Skip (task 2 1) ∷ Skip (task 3 1) ∷ start 2 (task 4 1) (local 1) ∷ []
unfolding for_all runs
consumable_at_global = refl

-- licences are nowhere, and the flag is for those who ask
forced_at_global : run_of (for_all ((codes "gpu", Flag true) ∷ [])) all_tasks 0
    ≡ Skip (task 1 1) ∷ Skip (task 2 1) ∷ start 1 (task 3 1) (local 1) ∷ Skip (task 4 1) ∷ []
unfolding for_all runs
forced_at_global = refl

-- rules by PE (sge_resource_quota): no element names the empty name, so `pes !*` is for jobs without a PE, and `pes *` for those with one

unfoldable by_pe : Rule → Cluster
by_pe rule = record opening { quotas = (codes "s", rule_set (rule ∷ [])) ∷ [] }

abbrev who : List ℕ → Who
who pe = record { user = codes "ann"; group = codes "staff"; project = []; pe = pe; queue = codes "all.q"; host = codes "local" }

abbrev pe_rule : List (List ℕ) → List (List ℕ) → Rule
pe_rule plain without = record (user_rule None ((codes "slots", 1) ∷ [])) { pes = filter_of false plain without }

abbrev matched : Rule → List Bool
matched rule = map (λ pe. is_some (key_of (by_pe rule) (expanded (by_pe rule)) (codes "s") (who pe))) ([] ∷ codes "smp" ∷ [])

without_any_pe : matched (pe_rule [] (codes "*" ∷ [])) ≡ true ∷ false ∷ []
unfolding by_pe key_of runs
without_any_pe = refl

with_some_pe : matched (pe_rule (codes "*" ∷ []) []) ≡ false ∷ true ∷ []
unfolding by_pe key_of runs
with_some_pe = refl
