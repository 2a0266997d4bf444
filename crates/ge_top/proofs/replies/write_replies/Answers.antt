use Rattle.std.proofs.Common.{flat_map, subst, ap, ◌∙◌}
use Rattle.ge_model_core.specs.Render.{rendered}
use Rattle.ge_outside.specs.Streams.{GainsPrefix}
use Rattle.ge_top.proofs.Tallied.{whole-front}
use Rattle.ge_top.proofs.replies.write_replies.Goals as goal

pub returns-clause-front : goal.returns-clause-front
returns-clause-front g c =
    let text = c.bytes.ensures ∙ c.in_ok-text.ensures ∙ ap (λ replies. flat_map rendered replies) c.items.ensures in
    subst (GainsPrefix (g.K.Sink.written c.args.output.now) (g.K.Sink.written c.write_all.new.sink)) text
    (whole-front (g.K.Sink.written c.args.output.now) (g.K.Sink.written c.write_all.new.sink) c.bytes.result.now c.in_ok-write_all.ensures.whole)
