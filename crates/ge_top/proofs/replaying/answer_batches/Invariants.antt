-- How far the run has come, and that the master is where it was.
use Rattle.std.proofs.Common.{◌≡◌, ◌+◌, ◌-◌, ◌^◌, ◌≤◌, false, length}
use Rattle.std.specs.Prelude.{option_map}
use Rattle.ge_model_core.specs.Plan.{plan_of}
use Rattle.ge_script.specs.Pieces.{coming, given_count, total_count, IsOver}
use Rattle.ge_serve.specs.Areas.{areas_of}
use Rattle.ge_serve.specs.Homes.{IsHome}
use Rattle.ge_serve.specs.Masters.{HasLength, parts_of}
use Rattle.ge_serve.specs.Ledgers.{ledger_of}
use Rattle.ge_top.proofs.RunsTold.{RunSoFar}
use Rattle.ge_top.proofs.replaying.answer_batches.Given as goal

abbrev pub invariant-batches : goal.invariant-batches
invariant-batches g l = record {
  run : RunSoFar plan_of l.fn.m.cluster (g.K.Sink.written l.fn.output) l.batch (g.D.Disk.syncs l.fn.a + g.D.Disk.syncs l.fn.b) (ledger_of l.fn.m.spool)
      (g.S.Source.rest l.fn.input) (coming l.script (g.S.Source.rest l.input)) (g.K.Sink.written l.output) (g.D.Disk.syncs l.a + g.D.Disk.syncs l.b) (ledger_of l.m.spool) l.m.cluster;
  over : IsOver l.script (g.S.Source.rest l.input);
  total : total_count l.script (g.S.Source.rest l.input) ≡ option_map length (g.S.Source.rest l.fn.input);
  lives : l.m.dead ≡ false;
  going : l.m.stopping ≡ false;
  room : HasLength l.m (g.D.Disk.told l.a) (g.D.Disk.told l.b);
  home : IsHome (parts_of l.fn.m) (areas_of g.D.Disk.told g.D.Disk.syncs g.D.Disk.disk_faults l.fn.a l.fn.b)
      → IsHome (parts_of l.m) (areas_of g.D.Disk.told g.D.Disk.syncs g.D.Disk.disk_faults l.a l.b);
  reads : g.S.Source.read_faults l.fn.input ≤ g.S.Source.read_faults l.input;
  writes : g.K.Sink.write_faults l.fn.output ≤ g.K.Sink.write_faults l.output;
  faults_a : g.D.Disk.disk_faults l.fn.a ≤ g.D.Disk.disk_faults l.a;
  faults_b : g.D.Disk.disk_faults l.fn.b ≤ g.D.Disk.disk_faults l.b;
}

abbrev pub decreases-batches : goal.decreases-batches
decreases-batches g l = 2 ^ 40 - given_count l.script
