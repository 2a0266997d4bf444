-- A read that was interrupted took nothing, and the buffer kept its length.
use Rattle.std.proofs.Common.{◌≡◌, length}
use Rattle.std.specs.Io.KnownBytes.{Keeps}
use Rattle.ge_edge.proofs.sources.read_once.Given as goal

abbrev pub invariant-loop : goal.invariant-loop
invariant-loop g l = (length l.buf ≡ length l.initial.buf) × Keeps (g.R.Read.remaining l.initial.reader) (g.R.Read.remaining l.reader)
