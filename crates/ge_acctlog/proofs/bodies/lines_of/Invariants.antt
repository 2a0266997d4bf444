-- The lines up to a place are read.
use Rattle.std.proofs.Common.{◌-◌, ◌≤◌, length}
use Rattle.ge_acctlog.proofs.Lines.{HasTaken}
use Rattle.ge_acctlog.proofs.bodies.lines_of.Given as goal

abbrev pub invariant-walk : goal.invariant-walk
invariant-walk l = record {
  inside : l.at ≤ length l.bytes;
  taken : HasTaken l.bytes l.at l.lines;
}

abbrev pub decreases-walk : goal.decreases-walk
decreases-walk l = length l.bytes - l.at
