-- What contracts see of a master.
use Rattle.std.specs.Prelude.{◌≡◌, Bool, false, List}
use Rattle.ge_model_rows.specs.ClusterRows.{Cluster}
use Rattle.ge_model_journal.specs.Disk.{Content}
use Rattle.ge_spool.specs.Settled.{HasRoom}
use Rattle.ge_spool.specs.declared.spool.Spool.{Spool}
use Rattle.ge_master.specs.Homes.{Parts}
use Rattle.ge_master.specs.declared.master.Master.{Master}

abbrev pub cluster_of : Master → Cluster
cluster_of m = m.cluster

abbrev pub spool_of : Master → Spool
spool_of m = m.spool

-- whether an accepted command has asked it to stop
abbrev pub is_stopping : Master → Bool
is_stopping m = m.stopping

-- whether an earlier call stopped it
abbrev pub is_gone : Master → Bool
is_gone m = m.dead

abbrev pub parts_of : Master → Parts
parts_of m = record { spool = m.spool; cluster = m.cluster; stopping = m.stopping }

-- while it lives its journal has room on the areas
abbrev pub HasLength : Master → List Content → List Content → Type 0
HasLength m a b = m.dead ≡ false → HasRoom m.spool a b
