use Rattle.ge_top.proofs.ServedAreas.{serves-opened, serves-unopened}
use Rattle.ge_top.proofs.opening.serve_areas.Goals as goal

pub returns-in-Ok : goal.returns-in-Ok
returns-in-Ok g c = serves-opened _ _ _ _ _ _ _ _ _ _ _ _ c.in-Ok.master _ _ c.open.ensures.faults_a c.open.ensures.faults_b c.in-Ok.ensures.opens c.serve.ensures.serves

pub returns-in-Err : goal.returns-in-Err
returns-in-Err g c = serves-unopened _ _ _ _ _ _ _ c.in-Err.fault _ c.status_of_fault.ensures c.in-Err.ensures.opens
