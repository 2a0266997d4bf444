-- What is written, and the requests that are left, are the whole script.
use Rattle.std.proofs.Common.{◌≤◌, length}
use Rattle.ge_script.specs.Left.{left}
use Rattle.ge_top.proofs.Written.{HasWritten}
use Rattle.ge_top.proofs.generating.write_script.Given as goal

abbrev pub invariant-requests : goal.invariant-requests
invariant-requests g l = record {
  wrote : HasWritten (g.K.Sink.written l.fn.output) (g.K.Sink.written l.output) (left l.generator) l.number;
  later : g.K.Sink.write_faults l.fn.output ≤ g.K.Sink.write_faults l.output;
}

abbrev pub decreases-requests : goal.decreases-requests
decreases-requests g l = length (left l.generator)
