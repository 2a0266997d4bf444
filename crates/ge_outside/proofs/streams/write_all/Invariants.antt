use Rattle.std.proofs.Common.{length, take, ◌-◌, ◌≤◌, ◌≡◌}
use Rattle.ge_outside.specs.Streams.{Gains}
use Rattle.ge_outside.proofs.streams.write_all.Given as goal

abbrev pub invariant-loop-done : goal.invariant-loop-done
invariant-loop-done g l =
    Gains (g.K.Sink.written l.fn.sink) (g.K.Sink.written l.sink) (take l.done l.piece)
    × (l.done ≤ length l.piece)
    × (g.K.Sink.write_faults l.sink ≡ g.K.Sink.write_faults l.fn.sink)
    × (g.K.Sink.read_side l.sink ≡ g.K.Sink.read_side l.fn.sink)

abbrev pub decreases-loop-done : goal.decreases-loop-done
decreases-loop-done g l = length l.piece - l.done
