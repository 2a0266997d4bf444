use Rattle.std.specs.Prelude.{not, ◌==◌}
use Rattle.std.proofs.Common.{refl, ap, Ok, Err}
use Rattle.ge_keeping.specs.Areas.{areas_of}
use Rattle.ge_execd.specs.Daemons.{after_orders}
use Rattle.ge_execd.specs.Orders.{orders_in}
use Rattle.ge_execd.specs.declared.daemon.Daemon.{Daemon}
use Rattle.ge_host.specs.Hosts.{parts_of, rises}
use Rattle.ge_host.proofs.Unchanged.{orders-unchanged}
use Rattle.ge_host.proofs.Taken.{taken-as, obeys-fault}
use Rattle.ge_host.proofs.hosts.Host.orders.Goals as goal

pub returns-in-Ok-keep_changed-clause-obeys : goal.returns-in-Ok-keep_changed-clause-obeys
returns-in-Ok-keep_changed-clause-obeys g c = λ lives.
    let before = areas_of g.D.Disk.told g.D.Disk.syncs g.D.Disk.disk_faults c.args.a.now c.args.b.now in
    let after = areas_of g.D.Disk.told g.D.Disk.syncs g.D.Disk.disk_faults c.keep_changed.new.a c.keep_changed.new.b in
    let d = c.args.self.now.daemon in
    let o = c.in-Ok.ensures in (
      o.0,
      o.1,
      o.2,
      o.3,
      taken-as _ (rises d o.0) c.orders.new.self (after_orders d o.0) (parts_of c.args.self.now) (parts_of c.keep_changed.new.self) (Ok tt) before after
          o.4 (ap (λ (x : Daemon). not (x.seen == d.seen)) o.4) refl (orders-unchanged d o.0) c.in-Ok-keep_changed.ensures.takes,
    )

pub returns-in-Err-clause-obeys : goal.returns-in-Err-clause-obeys
returns-in-Err-clause-obeys g c = λ lives.
    let before = areas_of g.D.Disk.told g.D.Disk.syncs g.D.Disk.disk_faults c.args.a.now c.args.b.now in
    let after = areas_of g.D.Disk.told g.D.Disk.syncs g.D.Disk.disk_faults c.keep_changed.new.a c.keep_changed.new.b in
    let d = c.args.self.now.daemon in
    let o = c.in-Ok.ensures in
    obeys-fault c.in-Err.stop (orders_in c.args.reply.now) (parts_of c.args.self.now) (parts_of c.keep_changed.new.self) before after o.0 o.1
    (taken-as _ (rises d o.0) c.orders.new.self (after_orders d o.0) (parts_of c.args.self.now) (parts_of c.keep_changed.new.self) (Err c.in-Err.stop) before after
    o.4 (ap (λ (x : Daemon). not (x.seen == d.seen)) o.4) refl (orders-unchanged d o.0) c.in-Err.ensures.takes)
