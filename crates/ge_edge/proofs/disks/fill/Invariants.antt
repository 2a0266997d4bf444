-- What is filled lies within the buffer, and is what the file had next.
use Rattle.std.proofs.Common.{◌≡◌, ◌-◌, ◌≤◌, length, take}
use Rattle.std.specs.Io.KnownBytes.{Consumes}
use Rattle.ge_edge.proofs.disks.fill.Given as goal

abbrev pub invariant-loop-filled : goal.invariant-loop-filled
invariant-loop-filled g l = (length l.buf ≡ length l.initial.buf) × (l.filled ≤ length l.buf)
    × Consumes (g.F.Read.remaining l.initial.file) (g.F.Read.remaining l.file) (take l.filled l.buf)

abbrev pub decreases-loop-filled : goal.decreases-loop-filled
decreases-loop-filled g l = length l.initial.buf - l.filled
