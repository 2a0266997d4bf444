-- Both areas around a call, and the cluster that they stand for.
use Rattle.std.specs.Prelude.{◌≡◌, List, ℕ, Ok}
use Rattle.ge_model_rows.specs.ClusterRows.{Cluster}
use Rattle.ge_model_journal.specs.Disk.{IsImageNow}
use Rattle.ge_model_program.specs.StandsFor.{held, stands_for}
use Rattle.ge_model_program.specs.declared.Wrong.TheVariants.{Frame, Bad}
use Rattle.ge_keeping.specs.Homes as keeping
pub use Rattle.ge_keeping.specs.Areas.{Areas, areas_of, HasFailed, EachSince}

-- every pair of images at each moment from the one on stands for a cluster
abbrev pub StandsSince : Areas → Areas → Cluster → Type 0
StandsSince before after cluster = keeping.StandsSince Frame Bad held before after cluster

-- every pair of images now stands for a cluster
abbrev pub StandsNow : Areas → Cluster → Type 0
StandsNow now cluster = (c d : List ℕ) → IsImageNow now.a c → IsImageNow now.b d → stands_for c d ≡ Ok cluster
