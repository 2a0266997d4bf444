-- When a run over the areas has to be answered.
use Rattle.std.specs.Prelude.{◌≡◌, ℕ, ◌<◌, List, length, Option, Some, Ok}
use Rattle.ge_limits.specs.Limits as limit
use Rattle.ge_outside.specs.Faults.{Rose}
use Rattle.ge_model_rows.specs.ClusterRows.{Cluster}
use Rattle.ge_model_grammar.specs.Events.{events_of}
use Rattle.ge_model_core.specs.Plan.{plan_of}
use Rattle.ge_model_journal.specs.Journal.{State, meaning}
use Rattle.ge_model_program.specs.StandsFor.{stands_for}
use Rattle.ge_model_program.specs.View.{View, DiskRose, said_of}
use Rattle.ge_model_program.specs.Keeping.{Ledger, FitsBatch, ledger_in}
use Rattle.ge_model_program.specs.Runs.{HasNext, ledger_then, trace_then}

-- No device fails in a replay from a cluster and a ledger on, the script is below its limit, and behind the batches whose replies are written
-- there is room for the next one.
pub record IsFaultless (batch : ℕ) (script : Option (List ℕ)) (reads_before reads_after : ℕ) (x y : View) (start : Cluster) (ledger : Ledger) : Type 0 where
  pub reads : Rose reads_before reads_after → ⊥
  pub writes : Rose x.writes y.writes → ⊥
  pub disks : DiskRose x y → ⊥
  pub bytes : List ℕ
  pub told : script ≡ Some bytes
  pub below : length bytes < limit.script_bytes
  pub fits : (next : HasNext plan_of start (events_of bytes) x.output y.output batch ledger)
      → FitsBatch (ledger_then plan_of start (events_of bytes) x.output y.output batch ledger next) (trace_then plan_of start (events_of bytes) x.output y.output batch ledger next)

-- The areas stand for a cluster, and a replay from it on is without faults.
pub record AreFaultless (batch : ℕ) (script : Option (List ℕ)) (reads_before reads_after : ℕ) (x y : View) : Type 0 where
  pub start : Cluster
  pub state : State
  pub stands : said_of stands_for x.a x.b ≡ Some (Ok start)
  pub means : said_of meaning x.a x.b ≡ Some (Ok state)
  pub faultless : IsFaultless batch script reads_before reads_after x y start (ledger_in state)

-- The areas stand for a cluster, and neither they nor the output fail.
pub record AreSound (x y : View) : Type 0 where
  pub start : Cluster
  pub stands : said_of stands_for x.a x.b ≡ Some (Ok start)
  pub writes : Rose x.writes y.writes → ⊥
  pub disks : DiskRose x y → ⊥
