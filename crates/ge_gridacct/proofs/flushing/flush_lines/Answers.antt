use Rattle.ge_gridacct.proofs.Flushed.{flushed_done, flushed_not}
use Rattle.ge_gridacct.proofs.flushing.flush_lines.Goals as goal

pub returns-in-Ok-clause-flushes : goal.returns-in-Ok-clause-flushes
returns-in-Ok-clause-flushes g c =
    flushed_done c.args.lines.now _ _ c.in-Ok.ensures.since c.write_line.result c.in-Ok.appended c.in-Ok.ensures.answer c.in-Ok.ensures.all
    c.write_line.ensures.ends c.write_line.ensures.whole c.write_line.ensures.cut

pub returns-in-Err-clause-flushes : goal.returns-in-Err-clause-flushes
returns-in-Err-clause-flushes g c =
    flushed_not c.args.lines.now _ _ c.in-Err.ensures.since c.status_of.result c.in-Err.fault c.status_of.ensures c.in-Err.ensures.answer
