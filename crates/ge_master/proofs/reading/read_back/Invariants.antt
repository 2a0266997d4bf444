-- The records up to one are applied.
use Rattle.std.proofs.Common.{drop}
use Rattle.ge_spool.specs.Opening.{raw_state}
use Rattle.ge_model_program.specs.StandsFor.{cluster_in_snapshot, cluster_after_record}
use Rattle.ge_keeping.proofs.Walking.{HasWalked}
use Rattle.ge_master.proofs.reading.read_back.Given as goal

abbrev pub invariant-loop-record : goal.invariant-loop-record
invariant-loop-record l =
    HasWalked (cluster_in_snapshot l.raw.format) (cluster_after_record l.raw.format) (raw_state l.raw) (drop l.record-index l.records) l.gate l.cluster
