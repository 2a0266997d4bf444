use Rattle.std.proofs.Common.{refl, arith}
use Rattle.ge_top.proofs.SoFar.{so-far-whole, so-far-done}
use Rattle.ge_top.proofs.simulating.simulate.Goals as goal

pub returns-in-Ok : goal.returns-in-Ok
returns-in-Ok g c =
    let script = g.S.Source.rest c.args.input.now in
    let old = g.K.Sink.written c.args.output.now in
    let new = g.K.Sink.written c.answer_script.new.output in
    let left = g.S.Source.rest c.answer_script.new.input in
    record {
      statuses = refl;
      whole = λ _. so-far-whole script old new left c.in-Ok.ensures.ended;
      ended = λ _. c.in-Ok.ensures.ended;
      replies = λ _. so-far-done script old new left c.in-Ok.ensures.ended;
      front = c.answer_script.ensures.front;
      long = λ is. absurd (omega (arith, is));
      below = λ _. c.in-Ok.ensures.below;
      read = λ is. absurd (omega (arith, is));
      written = λ is. absurd (omega (arith, is));
    }
