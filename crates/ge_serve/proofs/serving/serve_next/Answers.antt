use Rattle.std.proofs.Common.{◌∙◌, sym, refl, arith}
use Rattle.ge_model_core.specs.Plan.{plan_of}
use Rattle.ge_master.specs.Areas.{areas_of}
use Rattle.ge_master.specs.Masters.{parts_of}
use Rattle.ge_serve.proofs.Turns.{none-accepted, stop-blames, kept-stop, kept-end, given}
use Rattle.ge_serve.specs.declared.statuses.ServeFault.TheVariants as fault
use Rattle.ge_serve.proofs.serving.serve_next.Goals as goal

pub returns-in-Err-clause-unserved : goal.returns-in-Err-clause-unserved
returns-in-Err-clause-unserved g c =
    none-accepted plan_of (parts_of c.args.m.now) (areas_of g.D.Disk.told g.D.Disk.syncs g.D.Disk.disk_faults c.args.a.now c.args.b.now) (g.L.Door.coming c.args.door.now)
    (g.L.Door.coming c.accept.new.self) (g.L.Door.closed c.args.door.now) (g.L.Door.closed c.accept.new.self) (g.C.Clock.answers c.args.clock.now) c.in-Err.ensures.kept c.accept.ensures.closed

pub returns-in-Err-serve_link-clause-unserved : goal.returns-in-Err-serve_link-clause-unserved
returns-in-Err-serve_link-clause-unserved g c =
    kept-stop plan_of (parts_of c.args.m.now) (parts_of c.serve_link.new.m) (areas_of g.D.Disk.told g.D.Disk.syncs g.D.Disk.disk_faults c.args.a.now c.args.b.now)
    (areas_of g.D.Disk.told g.D.Disk.syncs g.D.Disk.disk_faults c.serve_link.new.a c.serve_link.new.b) (g.L.Door.coming c.args.door.now) (g.L.Door.coming c.accept.new.self)
    (g.L.Door.coming c.accept.new.self) (g.L.Door.closed c.args.door.now) (g.L.Door.closed c.accept.new.self) (g.C.Clock.answers c.args.clock.now) (g.L.Link.Source.rest c.in-Ok.link)
    (g.L.Link.Sink.written c.in-Ok.link) (g.L.Link.Sink.written c.serve_link.new.link) (g.C.Clock.answers c.serve_link.new.clock) c.in-Ok.ensures.opened refl c.in-Err-serve_link.stop
    c.accept.ensures.closed c.in-Err-serve_link.ensures.ends

pub returns-in-Err-serve_link-clause-blames : goal.returns-in-Err-serve_link-clause-blames
returns-in-Err-serve_link-clause-blames g c = stop-blames c.in-Err-serve_link.stop c.args.m.now.dead _ _ _ _ c.requires.lives c.in-Err-serve_link.ensures.blames

pub returns-then-wants_memory-clause-unserved : goal.returns-then-wants_memory-clause-unserved
returns-then-wants_memory-clause-unserved g c =
    kept-end plan_of (parts_of c.args.m.now) (parts_of c.serve_link.new.m) (areas_of g.D.Disk.told g.D.Disk.syncs g.D.Disk.disk_faults c.args.a.now c.args.b.now)
    (areas_of g.D.Disk.told g.D.Disk.syncs g.D.Disk.disk_faults c.serve_link.new.a c.serve_link.new.b) (g.L.Door.coming c.args.door.now) (g.L.Door.coming c.accept.new.self)
    (g.L.Door.coming c.accept.new.self) (g.L.Door.closed c.args.door.now) (g.L.Door.closed c.accept.new.self) (g.C.Clock.answers c.args.clock.now) (g.L.Link.Source.rest c.in-Ok.link)
    (g.L.Link.Sink.written c.in-Ok.link) (g.L.Link.Sink.written c.serve_link.new.link) (g.C.Clock.answers c.serve_link.new.clock) c.in-Ok.ensures.opened refl c.in-Ok-serve_link.end
    c.in-Ok-serve_link.ensures.ends fault.Memory (λ is. omega (arith, is)) c.accept.ensures.closed

pub returns-in-Err-close-clause-unserved : goal.returns-in-Err-close-clause-unserved
returns-in-Err-close-clause-unserved g c =
    kept-end plan_of (parts_of c.args.m.now) (parts_of c.serve_link.new.m) (areas_of g.D.Disk.told g.D.Disk.syncs g.D.Disk.disk_faults c.args.a.now c.args.b.now)
    (areas_of g.D.Disk.told g.D.Disk.syncs g.D.Disk.disk_faults c.serve_link.new.a c.serve_link.new.b) (g.L.Door.coming c.args.door.now) (g.L.Door.coming c.accept.new.self)
    (g.L.Door.coming c.close.new.self) (g.L.Door.closed c.args.door.now) (g.L.Door.closed c.close.new.self) (g.C.Clock.answers c.args.clock.now) (g.L.Link.Source.rest c.in-Ok.link)
    (g.L.Link.Sink.written c.in-Ok.link) (g.L.Link.Sink.written c.serve_link.new.link) (g.C.Clock.answers c.serve_link.new.clock) c.in-Ok.ensures.opened c.close.ensures.coming
    c.in-Ok-serve_link.end c.in-Ok-serve_link.ensures.ends fault.Door (λ is. omega (arith, is)) (c.in-Err-close.ensures.kept ∙ c.accept.ensures.closed)

pub returns-clause-served : goal.returns-clause-served
returns-clause-served g c =
    given plan_of (parts_of c.args.m.now) (parts_of c.serve_link.new.m) (areas_of g.D.Disk.told g.D.Disk.syncs g.D.Disk.disk_faults c.args.a.now c.args.b.now)
    (areas_of g.D.Disk.told g.D.Disk.syncs g.D.Disk.disk_faults c.serve_link.new.a c.serve_link.new.b) (g.L.Door.coming c.args.door.now) (g.L.Door.coming c.accept.new.self)
    (g.L.Door.coming c.close.new.self) (g.L.Door.closed c.args.door.now) (g.L.Door.closed c.close.new.self) (g.C.Clock.answers c.args.clock.now) (g.L.Link.Source.rest c.in-Ok.link)
    (g.L.Link.Sink.written c.in-Ok.link) (g.L.Link.Sink.written c.serve_link.new.link) (g.C.Clock.answers c.serve_link.new.clock) c.in-Ok.ensures.opened c.close.ensures.coming
    c.in-Ok-serve_link.end c.in-Ok-serve_link.ensures.ends (g.L.Link.Source.read_faults c.in-Ok.link) (g.L.Link.Source.read_faults c.serve_link.new.link)
    (g.L.Link.Sink.write_faults c.in-Ok.link) (g.L.Link.Sink.write_faults c.serve_link.new.link) _ _ c.in-Ok.ensures.read_faults c.in-Ok.ensures.write_faults
    (sym c.wants_memory.ensures ∙ c.if-wants_memory.false) c.in-Ok-serve_link.ensures.blames (g.L.Link.Source.rest c.serve_link.new.link)
    (rw c.accept.ensures.closed at c.in-Ok-close.ensures.closed) c.in-Ok-serve_link.ensures.home
