use Rattle.std.specs.Prelude.{◌&&◌}
use Rattle.std.proofs.Common.{refl, Ok, Err}
use Rattle.ge_collections.specs.Keyed.{at_number}
use Rattle.ge_keeping.specs.Areas.{areas_of}
use Rattle.ge_execd.specs.Daemons.{settles, is_ended, is_claimed, after_end, after_answer}
use Rattle.ge_execd.specs.declared.rows.Stage.TheVariants.{Ended}
use Rattle.ge_host.specs.Hosts.{parts_of}
use Rattle.ge_host.proofs.Unchanged.{answer-unchanged, answer-host}
use Rattle.ge_host.proofs.Taken.{taken-as}
use Rattle.ge_host.proofs.hosts.Host.answered.Goals as goal

pub returns-clause-takes : goal.returns-clause-takes
returns-clause-takes g c = λ lives.
    let before = areas_of g.D.Disk.told g.D.Disk.syncs g.D.Disk.disk_faults c.args.a.now c.args.b.now in
    let after = areas_of g.D.Disk.told g.D.Disk.syncs g.D.Disk.disk_faults c.keep_changed.new.a c.keep_changed.new.b in
    let d = c.args.self.now.daemon in
    taken-as c.is_settled_by-settled.result (settles c.args.reply.now.code && is_ended (at_number d.tasks c.args.serial)) c.answered.new.self
    (after_answer d c.args.serial c.args.reply.now) (parts_of c.args.self.now) (parts_of c.keep_changed.new.self) c.keep_changed.result before after
    c.answered.ensures c.is_settled_by-settled.ensures (answer-host d c.args.serial c.args.reply.now) (answer-unchanged d c.args.serial c.args.reply.now)
    c.keep_changed.ensures.takes
