use Rattle.ge_gridacct.proofs.Looked.{looked_done, looked_not}
use Rattle.ge_gridacct.proofs.showing.look.Goals as goal

pub returns-in-Ok : goal.returns-in-Ok
returns-in-Ok g c = looked_done _ _ _ c.in-Ok.ensures.since c.in-Ok.ensures.answer

pub returns-in-Err : goal.returns-in-Err
returns-in-Err g c = looked_not _ _ _ c.in-Err.ensures.since c.status_of.result c.in-Err.fault c.status_of.ensures c.in-Err.ensures.answer c.in-Err.ensures.no_flush c.in-Err.ensures.blames
