use Rattle.std.proofs.Common.{List, ℕ}
use Rattle.ge_outside.specs.Streams.{Gains, GainsPrefix}
use Rattle.ge_top.proofs.Tallied.{line-wrote, line-unwritten, whole-front}
use Rattle.ge_top.proofs.trying.write_line.Goals as goal

pub returns-in_err-tally-clause-front : goal.returns-in_err-tally-clause-front
returns-in_err-tally-clause-front g c = line-unwritten c.args.number (g.K.Sink.written c.args.output.now)

pub returns-in_err-line-clause-front : goal.returns-in_err-line-clause-front
returns-in_err-line-clause-front g c = line-unwritten c.args.number (g.K.Sink.written c.args.output.now)

pub returns-in_err-write_all-clause-front : goal.returns-in_err-write_all-clause-front
returns-in_err-write_all-clause-front g c =
    line-wrote c.args.number c.in_ok-tally.tally c.in_ok-line.line (λ (line : List ℕ). GainsPrefix (g.K.Sink.written c.args.output.now) (g.K.Sink.written c.write_all.new.sink) line)
    c.in_ok-tally.ensures c.in_ok-line.ensures (rw c.bytes.ensures at c.in_err-write_all.ensures.front)

pub returns-clause-whole : goal.returns-clause-whole
returns-clause-whole g c =
    line-wrote c.args.number c.in_ok-tally.tally c.in_ok-line.line (λ (line : List ℕ). Gains (g.K.Sink.written c.args.output.now) (g.K.Sink.written c.write_all.new.sink) line)
    c.in_ok-tally.ensures c.in_ok-line.ensures (rw c.bytes.ensures at c.in_ok-write_all.ensures.whole)

pub returns-clause-front : goal.returns-clause-front
returns-clause-front g c =
    line-wrote c.args.number c.in_ok-tally.tally c.in_ok-line.line (λ (line : List ℕ). GainsPrefix (g.K.Sink.written c.args.output.now) (g.K.Sink.written c.write_all.new.sink) line)
    c.in_ok-tally.ensures c.in_ok-line.ensures (whole-front _ _ _ (rw c.bytes.ensures at c.in_ok-write_all.ensures.whole))
