use Rattle.std.proofs.Common.{◌≡◌, List, ap, refl, arith, Err}
use Rattle.ge_model_rows.specs.EventRows.{Reply}
use Rattle.std.specs.Prelude.{◌||◌}
use Rattle.ge_model_core.specs.Plan.{plan_of}
use Rattle.ge_master.specs.Areas.{areas_of}
use Rattle.ge_master.specs.Homes.{Parts}
use Rattle.ge_keeping.proofs.Changed.{on-unwritten}
use Rattle.ge_master.proofs.Stops.{unwritten-as}
use Rattle.ge_master.proofs.Handled.{not_empty, handled-spent, handled-nothing, handled-fault, handled-kept}
use Rattle.ge_master.proofs.handling.handle.Goals as goal

pub returns-in_default-clause-handled : goal.returns-in_default-clause-handled
returns-in_default-clause-handled g c =
    let old : Parts = record { spool = c.args.spool.now; cluster = c.args.cluster.now; stopping = c.args.stopping.now } in
    let new : Parts = record { spool = c.args.spool.now; cluster = c.stage_all.new.cluster; stopping = c.args.stopping.now } in
    let now = areas_of g.D.Disk.told g.D.Disk.syncs g.D.Disk.disk_faults c.args.a.now c.args.b.now in
    handled-spent plan_of old c.args.events.now now now new refl (omega arith, omega arith)

pub returns-then-is_empty-clause-handled : goal.returns-then-is_empty-clause-handled
returns-then-is_empty-clause-handled g c =
    let old : Parts = record { spool = c.args.spool.now; cluster = c.args.cluster.now; stopping = c.args.stopping.now } in
    let now = areas_of g.D.Disk.told g.D.Disk.syncs g.D.Disk.disk_faults c.args.a.now c.args.b.now in
    handled-nothing plan_of old c.args.events.now now now c.stage_all.new.cluster c.in-Ok.staged c.in-Ok.ensures (c.args.stopping.now || c.in-Ok.staged.stop) refl
    (c.is_empty.ensures.0 c.if-is_empty.true) refl (omega arith, omega arith)

pub returns-in-Ok-store-clause-handled : goal.returns-in-Ok-store-clause-handled
returns-in-Ok-store-clause-handled g c =
    let old : Parts = record { spool = c.args.spool.now; cluster = c.args.cluster.now; stopping = c.args.stopping.now } in
    let before = areas_of g.D.Disk.told g.D.Disk.syncs g.D.Disk.disk_faults c.args.a.now c.args.b.now in
    let after = areas_of g.D.Disk.told g.D.Disk.syncs g.D.Disk.disk_faults c.store.new.a c.store.new.b in
    handled-kept plan_of old c.args.events.now before after c.stage_all.new.cluster c.in-Ok.staged c.in-Ok.ensures c.store.new.spool
    (not_empty c.is_empty.result c.in-Ok.staged.body c.is_empty.ensures c.if-is_empty.false) c.store.ensures.format c.store.ensures.grows c.store.ensures.syncs
    c.store.ensures.any_moment (c.args.stopping.now || c.in-Ok.staged.stop) refl c.in-Ok-store.ensures.fits c.in-Ok-store.ensures.done
    c.in-Ok-store.ensures.answer c.in-Ok-store.ensures.stored

pub returns-in-Err-clause-untouched : goal.returns-in-Err-clause-untouched
returns-in-Err-clause-untouched g c =
    unwritten-as (Unit {0}) (List Reply) c.in-Err.fault c.stop_of.result ((c.store.new.a ≡ c.args.a.now) × (c.store.new.b ≡ c.args.b.now)) c.stop_of.ensures c.in-Err.ensures.untouched

pub returns-in-Err-clause-handled : goal.returns-in-Err-clause-handled
returns-in-Err-clause-handled g c =
    let old : Parts = record { spool = c.args.spool.now; cluster = c.args.cluster.now; stopping = c.args.stopping.now } in
    let new : Parts = record { spool = c.store.new.spool; cluster = c.stage_all.new.cluster; stopping = c.args.stopping.now } in
    let before = areas_of g.D.Disk.told g.D.Disk.syncs g.D.Disk.disk_faults c.args.a.now c.args.b.now in
    let after = areas_of g.D.Disk.told g.D.Disk.syncs g.D.Disk.disk_faults c.store.new.a c.store.new.b in
    handled-fault plan_of old c.args.events.now before after c.stage_all.new.cluster c.in-Ok.staged c.in-Ok.ensures c.store.new.spool
    (not_empty c.is_empty.result c.in-Ok.staged.body c.is_empty.ensures c.if-is_empty.false) c.store.ensures.format c.store.ensures.grows c.store.ensures.syncs
    c.store.ensures.any_moment c.in-Err.fault c.stop_of.result new c.stop_of.ensures c.in-Err.ensures.answer c.in-Err.ensures.fits
    (on-unwritten {T = Unit {0}} (Err c.in-Err.fault) ((c.store.new.a ≡ c.args.a.now) × (c.store.new.b ≡ c.args.b.now)) ((after.a ≡ before.a) × (after.b ≡ before.b))
    (λ h. (ap g.D.Disk.told h.0, ap g.D.Disk.told h.1)) c.in-Err.ensures.untouched)
