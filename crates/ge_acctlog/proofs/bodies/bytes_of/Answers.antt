use Rattle.std.proofs.Common.{◌∙◌, ap, arith, length, length-append}
use Rattle.ge_model_log.specs.Lines.{line_bytes}
use Rattle.ge_acctlog.proofs.Lines.{put-more, fits-more, some_line}
use Rattle.ge_acctlog.proofs.bodies.bytes_of.Goals as goal

pub loop-line-preserved : goal.loop-line-preserved
loop-line-preserved c =
    let i = c.loop-line.line-index in
    let lines = c.args.lines.now in
    let line = c.line-item.result in
    let body = c.in_ok-put_line.ensures.bytes in
    record {
      body = body ∙ put-more lines i c.loop-line.body line c.loop-line-test.true c.line-item.is c.loop-line.invariant.body;
      fits = fits-more lines i line c.loop-line-test.true c.line-item.is c.loop-line.invariant.fits c.in_ok-put_line.ensures.fits;
      long = omega (arith, ap length body, length-append c.loop-line.body (line_bytes line), c.loop-line.invariant.long, some_line line);
    }
