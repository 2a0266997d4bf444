-- The lines before a place are counted.
use Rattle.std.proofs.Common.{length}
use Rattle.ge_acctlog.proofs.Walking.{HasCounted}
use Rattle.ge_acctlog.proofs.counting.count_lines.Given as goal

abbrev pub invariant-loop-gate : goal.invariant-loop-gate
invariant-loop-gate l = HasCounted l.fn.bytes l.rest l.place l.count

abbrev pub decreases-loop-gate : goal.decreases-loop-gate
decreases-loop-gate l = length l.rest
