use Rattle.std.proofs.Common.{◌≡◌, refl, ap, subst, arith}
use Rattle.ge_execd.specs.Daemons.{new_daemon}
use Rattle.ge_keeping.specs.Areas.{areas_of}
use Rattle.ge_keeping.specs.Changing.{Changes}
use Rattle.ge_keeping.proofs.Changed.{on-unwritten, changes-spent, changes-kept}
use Rattle.ge_host.specs.Standing.{daemon_in, daemon_bytes}
use Rattle.ge_host.proofs.storing.store.Goals as goal

pub returns-in_default-clause-changes : goal.returns-in_default-clause-changes
returns-in_default-clause-changes g c = λ old.
    let d = c.args.daemon.now in
    let now = areas_of g.D.Disk.told g.D.Disk.syncs g.D.Disk.disk_faults c.args.a.now c.args.b.now in
    changes-spent (daemon_in d.host) (new_daemon d.host) c.args.spool.now old d (daemon_bytes d) now now c.args.spool.now refl (omega arith, omega arith)

pub returns-clause-changes : goal.returns-clause-changes
returns-clause-changes g c = λ old.
    let d = c.args.daemon.now in
    let before = areas_of g.D.Disk.told g.D.Disk.syncs g.D.Disk.disk_faults c.args.a.now c.args.b.now in
    let after = areas_of g.D.Disk.told g.D.Disk.syncs g.D.Disk.disk_faults c.keep.new.a c.keep.new.b in
    subst (λ bytes. Changes (daemon_in d.host) (new_daemon d.host) bytes c.args.spool.now c.keep.new.spool old d c.keep.result before after) c.in-Ok.ensures.bytes
    (changes-kept (daemon_in d.host) (new_daemon d.host) c.args.spool.now old d c.in-Ok.bytes before after c.keep.new.spool c.keep.result
    c.in-Ok.ensures.reads c.in-Ok.ensures.some c.keep.ensures.done c.keep.ensures.any_moment c.keep.ensures.answer
    (on-unwritten c.keep.result ((c.keep.new.a ≡ c.args.a.now) × (c.keep.new.b ≡ c.args.b.now)) ((after.a ≡ before.a) × (after.b ≡ before.b))
    (λ h. (ap g.D.Disk.told h.0, ap g.D.Disk.told h.1)) c.keep.ensures.untouched)
    c.keep.ensures.stored c.keep.ensures.grows c.keep.ensures.syncs)
