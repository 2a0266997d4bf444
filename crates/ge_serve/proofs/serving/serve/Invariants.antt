-- The connections so far were served in turn.
use Rattle.std.proofs.Common.{◌≡◌, ◌-◌, ◌≤◌, false}
use Rattle.ge_model_core.specs.Plan.{plan_of}
use Rattle.ge_master.specs.Areas.{areas_of}
use Rattle.ge_master.specs.Homes.{IsHome}
use Rattle.ge_master.specs.Masters.{HasLength, parts_of}
use Rattle.ge_serve.proofs.SoFar.{HasGivenBack}
use Rattle.ge_serve.proofs.serving.serve.Given as goal

abbrev pub invariant-links : goal.invariant-links
invariant-links g l = record {
  given : HasGivenBack plan_of (parts_of l.fn.m) (areas_of g.D.Disk.told g.D.Disk.syncs g.D.Disk.disk_faults l.fn.a l.fn.b) (g.L.Door.coming l.fn.door) (g.L.Door.closed l.fn.door) (g.C.Clock.answers l.fn.clock)
      (parts_of l.m) (areas_of g.D.Disk.told g.D.Disk.syncs g.D.Disk.disk_faults l.a l.b) (g.L.Door.coming l.door) (g.L.Door.closed l.door) (g.C.Clock.answers l.clock) l.served;
  few : l.served ≤ l.count;
  lives : l.m.dead ≡ false;
  room : HasLength l.m (g.D.Disk.told l.a) (g.D.Disk.told l.b);
  home : IsHome (parts_of l.fn.m) (areas_of g.D.Disk.told g.D.Disk.syncs g.D.Disk.disk_faults l.fn.a l.fn.b)
      → IsHome (parts_of l.m) (areas_of g.D.Disk.told g.D.Disk.syncs g.D.Disk.disk_faults l.a l.b);
  faults_a : g.D.Disk.disk_faults l.fn.a ≤ g.D.Disk.disk_faults l.a;
  faults_b : g.D.Disk.disk_faults l.fn.b ≤ g.D.Disk.disk_faults l.b;
  doors : g.L.Door.door_faults l.fn.door ≤ g.L.Door.door_faults l.door;
}

abbrev pub decreases-links : goal.decreases-links
decreases-links g l = l.count - l.served
