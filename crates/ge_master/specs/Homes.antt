-- What a master keeps, and when it is at home.
use Rattle.std.specs.Prelude.{Bool}
use Rattle.ge_model_rows.specs.ClusterRows.{Cluster}
use Rattle.ge_model_program.specs.StandsFor.{held}
use Rattle.ge_spool.specs.declared.spool.Spool.{Spool}
use Rattle.ge_keeping.specs.Homes as keeping
use Rattle.ge_master.specs.Areas.{Areas}

-- a cluster over its journal, and whether an accepted command has asked to stop
pub record Parts : Type 0 where
  pub spool : Spool
  pub cluster : Cluster
  pub stopping : Bool

-- The journal is at rest on its areas, and what it holds is the cluster. So every pair of images now stands for the cluster.
abbrev pub IsHome : Parts → Areas → Type 0
IsHome parts now = keeping.IsHome held parts.spool parts.cluster now
