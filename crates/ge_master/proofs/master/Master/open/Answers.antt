use Rattle.std.proofs.Common.{refl}
use Rattle.ge_model_journal.specs.Disk.{read_bytes}
use Rattle.ge_model_rows.specs.ClusterRows.{Cluster}
use Rattle.ge_model_program.specs.StandsFor.{held}
use Rattle.ge_model_program.specs.declared.Wrong.TheVariants.{Frame, Bad}
use Rattle.ge_spool.specs.declared.raw.Raw.{Raw}
use Rattle.ge_spool.specs.declared.spool.Spool.{Spool}
use Rattle.ge_keeping.proofs.Opened.{opened-moments, opened-fault, opened-good, opened-bad, no-frame, no-blame, same-frame, same-blame}
use Rattle.ge_master.specs.Areas.{areas_of}
use Rattle.ge_master.specs.Masters.{spool_of, cluster_of}
use Rattle.ge_master.specs.declared.master.Master.{Master}
use Rattle.ge_master.proofs.master.Master.open.Goals as goal

pub returns-in-Err-clause-opens : goal.returns-in-Err-clause-opens
returns-in-Err-clause-opens g c =
    let before = areas_of g.D.Disk.told g.D.Disk.syncs g.D.Disk.disk_faults c.args.a.now c.args.b.now in
    let after = areas_of g.D.Disk.told g.D.Disk.syncs g.D.Disk.disk_faults c.open.new.a c.open.new.b in
    let read_a = read_bytes before.a in
    let read_b = read_bytes before.b in
    record {
      opened = λ tells_a tells_b. opened-fault Frame Bad held spool_of cluster_of read_a read_b after c.in-Err.fault (c.in-Err.ensures.opened tells_a tells_b);
      any_moment = opened-moments Frame Bad held before after c.open.ensures.any_moment;
      unwritten = same-frame (Spool × Raw) Master c.in-Err.fault _ c.in-Err.ensures.unwritten;
      blames = same-blame (Spool × Raw) Master c.in-Err.fault _ c.in-Err.ensures.blames;
      grows = c.open.ensures.grows;
      syncs = c.open.ensures.syncs;
    }

pub returns-in-Ok-read_back-clause-opens : goal.returns-in-Ok-read_back-clause-opens
returns-in-Ok-read_back-clause-opens g c =
    let before = areas_of g.D.Disk.told g.D.Disk.syncs g.D.Disk.disk_faults c.args.a.now c.args.b.now in
    let after = areas_of g.D.Disk.told g.D.Disk.syncs g.D.Disk.disk_faults c.open.new.a c.open.new.b in
    let read_a = read_bytes before.a in
    let read_b = read_bytes before.b in
    record {
      opened = λ tells_a tells_b.
          opened-good Frame Bad held spool_of cluster_of read_a read_b after c.in-Ok.opened.0 c.in-Ok.opened.1 (c.in-Ok.ensures.opened tells_a tells_b) _ refl
          c.in-Ok-read_back.ensures;
      any_moment = opened-moments Frame Bad held before after c.open.ensures.any_moment;
      unwritten = tt;
      blames = tt;
      grows = c.open.ensures.grows;
      syncs = c.open.ensures.syncs;
    }

pub returns-clause-opens : goal.returns-clause-opens
returns-clause-opens g c =
    let before = areas_of g.D.Disk.told g.D.Disk.syncs g.D.Disk.disk_faults c.args.a.now c.args.b.now in
    let after = areas_of g.D.Disk.told g.D.Disk.syncs g.D.Disk.disk_faults c.open.new.a c.open.new.b in
    let read_a = read_bytes before.a in
    let read_b = read_bytes before.b in
    record {
      opened = λ tells_a tells_b.
          opened-bad Frame Bad held spool_of cluster_of read_a read_b after c.in-Ok.opened.0 c.in-Ok.opened.1 (c.in-Ok.ensures.opened tells_a tells_b) c.in-Err-read_back.fault c.in-Err-read_back.ensures;
      any_moment = opened-moments Frame Bad held before after c.open.ensures.any_moment;
      unwritten = no-frame Cluster Master c.in-Err-read_back.fault _ _ _ c.in-Err-read_back.ensures;
      blames = no-blame Cluster Master c.in-Err-read_back.fault _ _ _ c.in-Err-read_back.ensures;
      grows = c.open.ensures.grows;
      syncs = c.open.ensures.syncs;
    }
