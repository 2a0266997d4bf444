use Rattle.std.specs.Prelude.{◌&&◌}
use Rattle.std.proofs.Common.{refl, Ok, Err}
use Rattle.ge_collections.specs.Keyed.{at_number}
use Rattle.ge_keeping.specs.Areas.{areas_of}
use Rattle.ge_execd.specs.Daemons.{settles, is_ended, is_claimed, after_end, after_answer}
use Rattle.ge_execd.specs.declared.rows.Stage.TheVariants.{Ended}
use Rattle.ge_host.specs.Hosts.{parts_of}
use Rattle.ge_host.proofs.Unchanged.{end-unchanged}
use Rattle.ge_host.proofs.Taken.{taken-as}
use Rattle.ge_host.proofs.hosts.Host.ended.Goals as goal

pub returns-in-Ok-clause-takes : goal.returns-in-Ok-clause-takes
returns-in-Ok-clause-takes g c = λ lives.
    let before = areas_of g.D.Disk.told g.D.Disk.syncs g.D.Disk.disk_faults c.args.a.now c.args.b.now in
    let after = areas_of g.D.Disk.told g.D.Disk.syncs g.D.Disk.disk_faults c.keep_changed.new.a c.keep_changed.new.b in
    let d = c.args.self.now.daemon in
    let end = Ended c.args.exit c.args.cpu c.args.mem c.args.io in
    taken-as c.ended-was.result (is_claimed (at_number d.tasks c.args.serial)) c.ended-was.new.self (after_end d c.args.serial end)
    (parts_of c.args.self.now) (parts_of c.keep_changed.new.self) (Ok tt) before after
    c.ended-was.ensures.kept c.ended-was.ensures.was refl (end-unchanged d c.args.serial end) c.in-Ok.ensures.takes

pub returns-in-Err-clause-takes : goal.returns-in-Err-clause-takes
returns-in-Err-clause-takes g c = λ lives.
    let before = areas_of g.D.Disk.told g.D.Disk.syncs g.D.Disk.disk_faults c.args.a.now c.args.b.now in
    let after = areas_of g.D.Disk.told g.D.Disk.syncs g.D.Disk.disk_faults c.keep_changed.new.a c.keep_changed.new.b in
    let d = c.args.self.now.daemon in
    let end = Ended c.args.exit c.args.cpu c.args.mem c.args.io in
    taken-as c.ended-was.result (is_claimed (at_number d.tasks c.args.serial)) c.ended-was.new.self (after_end d c.args.serial end)
    (parts_of c.args.self.now) (parts_of c.keep_changed.new.self) (Err c.in-Err.stop) before after
    c.ended-was.ensures.kept c.ended-was.ensures.was refl (end-unchanged d c.args.serial end) c.in-Err.ensures.takes
