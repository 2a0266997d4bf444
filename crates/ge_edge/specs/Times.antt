-- How long a connection is waited for.
use Rattle.std.specs.Prelude.{◌≢◌}
use Rattle.std.specs.Duration.{as_nanos}
use Rattle.ge_edge.specs.declared.waits.Waits.{Waits}

-- No time is zero. The system takes a time of zero for no end, and std refuses it: so a connection that has times was given them.
abbrev pub HasTimes : Waits → Type 0
HasTimes waits = (as_nanos waits.read ≢ 0) × (as_nanos waits.write ≢ 0) × (as_nanos waits.whole ≢ 0)
