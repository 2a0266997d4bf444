-- The records up to one are read, and the daemon is that of the last of them.
use Rattle.std.proofs.Common.{drop}
use Rattle.ge_execd.specs.Daemons.{new_daemon}
use Rattle.ge_keeping.proofs.Walking.{HasWalked}
use Rattle.ge_model_keeping.specs.Wholes.{in_snapshot, in_record}
use Rattle.ge_spool.specs.Opening.{raw_state}
use Rattle.ge_host.specs.Standing.{daemon_in}
use Rattle.ge_host.proofs.reading.read_back.Given as goal

abbrev pub invariant-loop-record : goal.invariant-loop-record
invariant-loop-record l =
    HasWalked (in_snapshot (daemon_in l.host) (new_daemon l.host)) (in_record (daemon_in l.host) (new_daemon l.host))
    (raw_state l.raw) (drop l.record-index l.records) l.gate l.daemon
