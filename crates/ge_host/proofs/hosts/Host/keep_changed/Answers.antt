use Rattle.std.proofs.Common.{◌≡◌, true, false, arith}
use Rattle.ge_keeping.specs.Areas.{areas_of}
use Rattle.ge_host.proofs.Taken.{taken-none, taken-kept, taken-fault}
use Rattle.ge_host.proofs.hosts.Host.keep_changed.Goals as goal

pub returns-then-not-changed-clause-takes : goal.returns-then-not-changed-clause-takes
returns-then-not-changed-clause-takes g c = λ old host same.
    let now = areas_of g.D.Disk.told g.D.Disk.syncs g.D.Disk.disk_faults c.args.a.now c.args.b.now in
    let lacks : c.args.changed ≡ false = grind (arith, c.if-not-changed.true) in
    taken-none c.args.changed c.args.self.now.spool old c.args.self.now.daemon now lacks (same lacks) (omega arith, omega arith)

pub returns-in-Ok-clause-takes : goal.returns-in-Ok-clause-takes
returns-in-Ok-clause-takes g c = λ old host same.
    let before = areas_of g.D.Disk.told g.D.Disk.syncs g.D.Disk.disk_faults c.args.a.now c.args.b.now in
    let after = areas_of g.D.Disk.told g.D.Disk.syncs g.D.Disk.disk_faults c.store.new.a c.store.new.b in
    let holds : c.args.changed ≡ true = grind (arith, c.if-not-changed.false) in
    taken-kept c.args.changed c.args.self.now.spool old c.args.self.now.daemon c.store.new.spool before after holds host (c.in-Ok.ensures.changes old)

pub returns-in-Err-clause-takes : goal.returns-in-Err-clause-takes
returns-in-Err-clause-takes g c = λ old host same.
    let before = areas_of g.D.Disk.told g.D.Disk.syncs g.D.Disk.disk_faults c.args.a.now c.args.b.now in
    let after = areas_of g.D.Disk.told g.D.Disk.syncs g.D.Disk.disk_faults c.store.new.a c.store.new.b in
    let holds : c.args.changed ≡ true = grind (arith, c.if-not-changed.false) in
    taken-fault c.args.changed c.args.self.now.spool old c.args.self.now.daemon c.store.new.spool before after holds host
    c.in-Err.fault c.stop_of.result c.stop_of.ensures (c.in-Err.ensures.changes old)
