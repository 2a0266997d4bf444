use Rattle.std.proofs.Common.{◌≡◌, length, refl, subst, ap, ◌∙◌, arith}
use Rattle.ge_model_program.specs.Showing.{status_line}
use Rattle.ge_outside.specs.Streams.{GainsPrefix}
use Rattle.ge_top.specs.Shows.{Shows}
use Rattle.ge_top.proofs.showing.show.Goals as goal

pub returns-in-Ok : goal.returns-in-Ok
returns-in-Ok g c =
    let jobs = c.len.ensures.len ∙ ap (λ cluster. length cluster.jobs) c.cluster.ensures in
    let line = c.bytes.ensures ∙ c.in-Ok.ensures ∙ (λ i. status_line (c.generation.ensures i) (c.records.ensures i) (jobs i)) in
    let before = g.K.Sink.written c.args.output.now in
    let after = g.K.Sink.written c.write_all.new.sink in
    record {
      statuses = refl;
      whole = λ is. absurd (omega (arith, is));
      cut = λ _. subst (GainsPrefix before after) line c.in-Err-write_all.ensures.front;
      unwritten = λ _ other. absurd (other refl);
      written = λ _. c.in-Err-write_all.ensures.cause.failed refl;
    }
