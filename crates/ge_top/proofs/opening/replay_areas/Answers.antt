use Rattle.std.proofs.Common.{refl}
use Rattle.ge_top.proofs.ReplayedAreas.{replayed-opened, replayed-unopened}
use Rattle.ge_top.proofs.opening.replay_areas.Goals as goal

pub returns-in-Ok : goal.returns-in-Ok
returns-in-Ok g c =
    replayed-opened _ _ _ _ _ _ _ _ c.in-Ok.master _ _ _ _ _ c.open.ensures.faults_a c.open.ensures.faults_b c.in-Ok.ensures.opens c.replay.ensures

pub returns-in-Err : goal.returns-in-Err
returns-in-Err g c = replayed-unopened _ c.requires _ _ _ _ refl c.in-Err.fault _ c.status_of_fault.ensures c.in-Err.ensures.opens
