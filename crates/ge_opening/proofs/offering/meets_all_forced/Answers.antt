use Rattle.std.proofs.Common.{sym}
use Rattle.ge_opening.proofs.Unforced.{all_met}
use Rattle.ge_opening.proofs.offering.meets_all_forced.Goals as goal

pub returns-else-here : goal.returns-else-here
returns-else-here c =
    let here = c.args.here.now in
    sym (all_met here.cluster.now here.groups.now c.args.job.now here.at.now here.queue.now here.cluster.now.complexes (here.forced_is c.if-here.false))
