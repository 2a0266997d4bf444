use Rattle.std.proofs.Common.{◌∙◌}
use Rattle.ge_order.proofs.Scaled.{prios_are}
use Rattle.ge_order.proofs.priority.prios_known.Goals as goal

pub returns : goal.returns
returns c = λ jobs now are.
    c.in_ok-prios.ensures
    ∙ prios_are c.args.c.now now jobs c.args.tickets.now c.args.standings.now (record { low = c.extremes-low.result.0; high = c.extremes-low.result.1; most = c.greatest.result }) are
    c.extremes-low.ensures.low c.extremes-low.ensures.high c.greatest.ensures
