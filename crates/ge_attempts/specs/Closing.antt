-- Instances that are closed to each job of the table, since they lack a consumable that each asks for.
use Rattle.std.specs.Prelude.{◌≡◌, ℕ, Bool, false, not, ◌&&◌, List, Option, Some, None}
use Rattle.std.specs.List.{list_any, list_all}
use Rattle.ge_collections.specs.Keyed.{at_text}
use Rattle.ge_model_rows.specs.ClusterRows.{Cluster}
use Rattle.ge_model_rows.specs.HostRows.{Groups, InstanceId}
use Rattle.ge_model_rows.specs.JobRows.{Job}
use Rattle.ge_model_rows.specs.QueueRows.{QueueRow}
use Rattle.ge_model_rows.specs.Complexes.{is_consumable}
use Rattle.ge_model_place.specs.Opening.{is_configured, is_open}
use Rattle.ge_attempts.specs.Amounts.{IsInTable, asks_itself}

-- whether each job of the table asks for a consumable itself
abbrev pub asked_by_all : Cluster → List ℕ → Bool
asked_by_all c name = is_consumable c name && list_all (asks_itself name) c.jobs

abbrev pub lacks_in : Cluster → Groups → List (List ℕ) → InstanceId → Option QueueRow → Bool
lacks_in c groups names at None = false
lacks_in c groups names at (Some q) = list_any (λ name. not (is_configured c groups at q name)) names

-- whether an instance lacks one of some names: queue_conf and host_conf, complex_values
abbrev pub lacks_one : Cluster → Groups → List (List ℕ) → InstanceId → Bool
lacks_one c groups names at = lacks_in c groups names at (at_text c.queues at.queue)

-- no job of the table may take a slot at an instance
abbrev pub IsClosed : Cluster → Groups → InstanceId → Type 0
IsClosed c groups at = (job : Job) → IsInTable c job → is_open c groups job at ≡ false
