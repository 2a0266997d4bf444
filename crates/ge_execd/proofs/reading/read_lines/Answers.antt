use Rattle.std.proofs.Common.{◌<◌, ◌+◌, length, drop, ap, sym, ◌∙◌, arith}
use Rattle.ge_execd.specs.Orders.{orders_from}
use Rattle.ge_execd.proofs.Turns.{onto_all, turn, line_here}
use Rattle.ge_execd.proofs.reading.read_lines.Goals as goal

pub loop-line-preserved : goal.loop-line-preserved
loop-line-preserved c =
    let more : c.loop-line.line-index < length c.args.lines.now = omega arith in
    record {
      place = omega arith;
      read = turn c.loop-line.orders c.push.new.self c.in-Some.order c.loop-line.last c.loop-line.line-index c.serial_of-last.result c.bytes.result.now
          (drop (c.loop-line.line-index + 1) c.args.lines.now) (orders_from 0 0 c.args.lines.now)
          (sym c.read_above.ensures ∙ c.in-Some.is) c.in_ok-push-in-Some.ensures.ok c.serial_of-last.ensures
          (ap (λ ls. onto_all c.loop-line.orders (orders_from c.loop-line.last c.loop-line.line-index ls))
          (sym (line_here c.args.lines.now c.loop-line.line-index c.line-item.result c.bytes.result.now more c.line-item.is c.bytes.ensures)) ∙ c.loop-line.invariant.read);
    }
