use Rattle.std.proofs.Common.{refl}
use Rattle.ge_top.proofs.ShownAreas.{shown-opened, shown-unopened}
use Rattle.ge_top.proofs.opening.show_areas.Goals as goal

pub returns-in-Ok : goal.returns-in-Ok
returns-in-Ok g c = shown-opened _ _ _ c.in-Ok.master c.in-Ok.ensures.opens c.show.ensures

pub returns-in-Err : goal.returns-in-Err
returns-in-Err g c = shown-unopened _ _ refl c.in-Err.fault _ c.status_of_fault.ensures c.in-Err.ensures.opens
