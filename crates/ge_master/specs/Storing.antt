-- How what a batch changed is kept: as a record, or as a snapshot of the whole cluster.
use Rattle.std.specs.Prelude.{◌≡◌, ℕ, List, length, Result, Ok, Err}
use Rattle.ge_model_rows.specs.ClusterRows.{Cluster}
use Rattle.ge_model_program.specs.StandsFor.{cluster_bytes}
use Rattle.ge_spool.specs.declared.spool.Spool.{Spool}
use Rattle.ge_keeping.specs.declared.faults.KeepFault.{KeepFault}
use Rattle.ge_keeping.specs.declared.faults.KeepFault.TheVariants as keeping
use Rattle.ge_master.specs.declared.faults.Stop.{Stop}
use Rattle.ge_master.specs.declared.faults.Stop.TheVariants.{Disk, Full, Spent, Dead}
use Rattle.ge_keeping.specs.Keeping.{kept_end}
pub use Rattle.ge_keeping.specs.Keeping.{record_limit, last_generation, record_end, compacts, stored, IsStored, stored_syncs}

-- where the area ends that is written; a record's as far as a number of 64 bits tells
abbrev pub written_end : Spool → Cluster → ℕ → ℕ
written_end s c size = kept_end s size (length (cluster_bytes c))

-- the stop that a fault of keeping makes
abbrev pub StopsAs : KeepFault → Stop → Type 0
StopsAs keeping.Disk stop = stop ≡ Disk
StopsAs (keeping.Full place) stop = stop ≡ Full place
StopsAs keeping.Memory stop = stop ≡ Spent
StopsAs keeping.Dead stop = stop ≡ Dead

-- a fact where nothing was written
abbrev pub OnUnwritten : {T : Type 0} → Result T Stop → Type 0 → Type 0
OnUnwritten (Ok done) P = Unit {0}
OnUnwritten (Err Disk) P = Unit {0}
OnUnwritten (Err (Full place)) P = P
OnUnwritten (Err Spent) P = P
OnUnwritten (Err Dead) P = P
