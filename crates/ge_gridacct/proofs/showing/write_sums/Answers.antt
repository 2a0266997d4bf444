use Rattle.std.proofs.Common.{◌∙◌, ap, subst}
use Rattle.ge_outside.specs.Streams.{GainsPrefix}
use Rattle.ge_model_core.specs.Render.{rendered_line}
use Rattle.ge_gridacct.specs.Sums.{counted}
use Rattle.ge_gridacct.proofs.Written.{whole_front}
use Rattle.ge_gridacct.proofs.showing.write_sums.Goals as goal

pub returns-in_err-write_all-clause-front : goal.returns-in_err-write_all-clause-front
returns-in_err-write_all-clause-front g c = λ lines logged.
    let text = c.bytes.ensures ∙ c.in_ok-line.ensures ∙ ap rendered_line (c.in_ok-sums_text.ensures (counted c.args.all c.args.name.now lines) (c.in_ok-sums.ensures.sums lines logged)) in
    subst (λ z. GainsPrefix (g.K.Sink.written c.args.output.now) (g.K.Sink.written c.write_all.new.sink) z) text c.in_err-write_all.ensures.front

pub returns-clause-front : goal.returns-clause-front
returns-clause-front g c = λ lines logged.
    let text = c.bytes.ensures ∙ c.in_ok-line.ensures ∙ ap rendered_line (c.in_ok-sums_text.ensures (counted c.args.all c.args.name.now lines) (c.in_ok-sums.ensures.sums lines logged)) in
    subst (λ z. GainsPrefix (g.K.Sink.written c.args.output.now) (g.K.Sink.written c.write_all.new.sink) z) text
    (whole_front _ _ _ c.in_ok-write_all.ensures.whole)
