use Rattle.std.specs.Prelude.{slice_get}
use Rattle.std.proofs.Common.{◌≡◌, ◌∙◌, ◌+◌, ◌≤◌, ◌++◌, sym, ap, subst, take, Some, arith, length, OnOk}
use Rattle.ge_outside.specs.Streams.{Gains, GainsPrefix}
use Rattle.ge_gridacct.specs.Holding.{HasWritten}
use Rattle.ge_gridacct.specs.Looks.{shown}
use Rattle.ge_gridacct.proofs.Accounts.{shown_more, shown_front, shown_all}
use Rattle.ge_gridacct.proofs.Written.{written_front}
use Rattle.ge_gridacct.proofs.showing.write_lines.Goals as goal

pub returns-in_err-text-in-Ok-Some-clause-front : goal.returns-in_err-text-in-Ok-Some-clause-front
returns-in_err-text-in-Ok-Some-clause-front g c = λ lines logged.
    shown_front lines c.lines.k (g.K.Sink.written c.args.output.now) (g.K.Sink.written c.lines.output)
    (written_front (g.K.Sink.written c.args.output.now) (g.K.Sink.written c.lines.output) c.lines.held.items (shown (take c.lines.k lines)) (c.lines.invariant.wrote lines logged))

pub returns-in_err-hold-in-Ok-Some-clause-front : goal.returns-in_err-hold-in-Ok-Some-clause-front
returns-in_err-hold-in-Ok-Some-clause-front g c = λ lines logged.
    let start = g.K.Sink.written c.args.output.now in
    let new = g.K.Sink.written c.hold.new.output in
    let read : slice_get lines c.lines.k ≡ Some c.in-Ok-Some.line = sym (rw c.in-Ok-Some.field-0-is at (c.in-Ok-Some.ensures.line lines (c.lines.invariant.rests lines logged))) in
    let more = ap (λ z. shown (take c.lines.k lines) ++ z) (c.bytes.ensures ∙ c.in_ok-text-in-Ok-Some.ensures) ∙ sym (shown_more lines c.lines.k c.in-Ok-Some.line read) in
    shown_front lines (c.lines.k + 1) start new
    (subst (λ z. GainsPrefix start new z) more (c.hold.ensures.front start (shown (take c.lines.k lines)) (c.lines.invariant.wrote lines logged)))

pub lines-preserved : goal.lines-preserved
lines-preserved g c =
    let start = g.K.Sink.written c.args.output.now in
    let new = g.K.Sink.written c.hold.new.output in
    record {
      wrote = λ lines logged.
          let read : slice_get lines c.lines.k ≡ Some c.in-Ok-Some.line = sym (rw c.in-Ok-Some.field-0-is at (c.in-Ok-Some.ensures.line lines (c.lines.invariant.rests lines logged))) in
          let more = ap (λ z. shown (take c.lines.k lines) ++ z) (c.bytes.ensures ∙ c.in_ok-text-in-Ok-Some.ensures) ∙ sym (shown_more lines c.lines.k c.in-Ok-Some.line read) in
          subst (λ z. HasWritten start new c.hold.new.held.items z) more (c.in_ok-hold-in-Ok-Some.ensures.whole start (shown (take c.lines.k lines)) (c.lines.invariant.wrote lines logged));
      rests = λ held logged. c.in-Ok-Some.ensures.rests held (c.lines.invariant.rests held logged);
      same = (c.read.ensures.same.0 ∙ c.lines.invariant.same.0, c.read.ensures.same.1 ∙ c.lines.invariant.same.1, c.read.ensures.same.2 ∙ c.lines.invariant.same.2);
      told = c.read.ensures.told ∙ c.lines.invariant.told;
      faults = omega (arith, c.read.ensures.faults, c.lines.invariant.faults);
      later = omega (arith, c.hold.ensures.later, c.lines.invariant.later);
      within = omega (arith, rw c.in-Ok-Some.field-0-is at c.in-Ok-Some.ensures.counted, c.read.ensures.same.1);
    }

pub returns-in-Ok-None-clause-whole : goal.returns-in-Ok-None-clause-whole
returns-in-Ok-None-clause-whole g c = λ lines logged.
    let start = g.K.Sink.written c.args.output.now in
    let new = g.K.Sink.written c.write_held.new.output in
    let past : length lines ≤ c.lines.k = omega (arith, rw c.in-Ok-None.field-0-is at c.in-Ok-None.ensures.counted, (c.lines.invariant.rests lines logged).count) in
    subst (λ z. OnOk c.write_held.result (Gains start new z)) (shown_all lines c.lines.k past)
    (c.write_held.ensures.all start (shown (take c.lines.k lines)) (c.lines.invariant.wrote lines logged))

pub returns-in-Ok-None-clause-front : goal.returns-in-Ok-None-clause-front
returns-in-Ok-None-clause-front g c = λ lines logged.
    let start = g.K.Sink.written c.args.output.now in
    shown_front lines c.lines.k start (g.K.Sink.written c.write_held.new.output)
    (c.write_held.ensures.front start (shown (take c.lines.k lines)) (c.lines.invariant.wrote lines logged))

pub returns-in-Err-clause-front : goal.returns-in-Err-clause-front
returns-in-Err-clause-front g c = λ lines logged.
    shown_front lines c.lines.k (g.K.Sink.written c.args.output.now) (g.K.Sink.written c.lines.output)
    (written_front (g.K.Sink.written c.args.output.now) (g.K.Sink.written c.lines.output) c.lines.held.items (shown (take c.lines.k lines)) (c.lines.invariant.wrote lines logged))
