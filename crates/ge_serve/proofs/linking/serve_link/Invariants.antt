-- How far the connection has come, and that the master is where it was.
use Rattle.std.proofs.Common.{◌≡◌, ◌-◌, ◌^◌, ◌<◌, ◌≤◌, false}
use Rattle.ge_model_core.specs.Plan.{plan_of}
use Rattle.ge_master.specs.Areas.{areas_of}
use Rattle.ge_master.specs.Homes.{IsHome}
use Rattle.ge_master.specs.Masters.{HasLength, parts_of}
use Rattle.ge_serve.proofs.Exits.{HasCome}
use Rattle.ge_serve.proofs.linking.serve_link.Given as goal

abbrev pub invariant-frames : goal.invariant-frames
invariant-frames g l = record {
  come : HasCome plan_of (g.N.Source.rest l.fn.link) (g.C.Clock.answers l.fn.clock) (parts_of l.fn.m) (areas_of g.D.Disk.told g.D.Disk.syncs g.D.Disk.disk_faults l.fn.a l.fn.b) (g.N.Sink.written l.fn.link)
      (parts_of l.m) (areas_of g.D.Disk.told g.D.Disk.syncs g.D.Disk.disk_faults l.a l.b) (g.N.Sink.written l.link) (g.N.Source.rest l.link) (g.C.Clock.answers l.clock) l.place;
  lived : l.fn.m.dead ≡ false;
  lives : l.m.dead ≡ false;
  going : l.m.stopping ≡ false;
  room : HasLength l.m (g.D.Disk.told l.a) (g.D.Disk.told l.b);
  home : IsHome (parts_of l.fn.m) (areas_of g.D.Disk.told g.D.Disk.syncs g.D.Disk.disk_faults l.fn.a l.fn.b)
      → IsHome (parts_of l.m) (areas_of g.D.Disk.told g.D.Disk.syncs g.D.Disk.disk_faults l.a l.b);
  below : l.place < 2 ^ 40;
  reads : g.N.Source.read_faults l.fn.link ≤ g.N.Source.read_faults l.link;
  writes : g.N.Sink.write_faults l.fn.link ≤ g.N.Sink.write_faults l.link;
  faults_a : g.D.Disk.disk_faults l.fn.a ≤ g.D.Disk.disk_faults l.a;
  faults_b : g.D.Disk.disk_faults l.fn.b ≤ g.D.Disk.disk_faults l.b;
}

abbrev pub decreases-frames : goal.decreases-frames
decreases-frames g l = 2 ^ 40 - l.place
