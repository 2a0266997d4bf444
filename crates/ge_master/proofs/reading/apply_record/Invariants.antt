-- The entries up to a place are applied.
use Rattle.std.proofs.Common.{◌-◌, ◌≤◌, length}
use Rattle.ge_master.proofs.ReadBack.{HasApplied}
use Rattle.ge_master.proofs.reading.apply_record.Given as goal

abbrev pub invariant-entries : goal.invariant-entries
invariant-entries l = record {
  inside : l.at ≤ length l.bytes;
  applied : HasApplied l.format l.fn.cluster l.bytes l.at l.cluster;
}

abbrev pub decreases-entries : goal.decreases-entries
decreases-entries l = length l.bytes - l.at
