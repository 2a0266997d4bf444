use Rattle.std.proofs.Common.{◌≡◌, Some, IfSome, subst, arith}
use Rattle.ge_master.specs.Areas.{areas_of}
use Rattle.ge_master.specs.Masters.{parts_of}
use Rattle.ge_model_world.specs.Worlds.{arrival_event, handling}
use Rattle.ge_world_laws.specs.Product.{product}
use Rattle.ge_world_master.proofs.Moved.{took, wanted, stopped, untouched}
use Rattle.ge_world_master.proofs.handling.handle_in.Goals as goal

pub returns-in_default-clause-handled : goal.returns-in_default-clause-handled
returns-in_default-clause-handled g c = λ lives same.
    untouched c.args.w.now c.args.x.now (parts_of c.args.m.now) (parts_of c.args.m.now)
    (areas_of g.D.Disk.told g.D.Disk.syncs g.D.Disk.disk_faults c.args.a.now c.args.b.now) same

pub returns-then-reply-code-clause-handled : goal.returns-then-reply-code-clause-handled
returns-then-reply-code-clause-handled g c = λ lives same.
    let before = areas_of g.D.Disk.told g.D.Disk.syncs g.D.Disk.disk_faults c.args.a.now c.args.b.now in
    let after = areas_of g.D.Disk.told g.D.Disk.syncs g.D.Disk.disk_faults c.handle.new.a c.handle.new.b in
    let event : arrival_event product c.args.w.now.reports c.args.x.now ≡ Some c.in-Ok-Some.event =
    subst (λ seen. IfSome seen (λ both. arrival_event product c.args.w.now.reports c.args.x.now ≡ Some both.0)) c.in-Ok-Some.field-0-is c.in-Ok-Some.ensures.event in
    let code : c.in-Ok.reply.code ≡ 99 = omega arith in
    wanted c.args.w.now c.args.x.now c.in-Ok-Some.event event (parts_of c.args.m.now) (parts_of c.handle.new.self) same before after
    c.plans_never_want_memory.ensures c.in-Ok.reply code (c.in-Ok.ensures.handled lives)

pub returns-in-Ok-clause-handled : goal.returns-in-Ok-clause-handled
returns-in-Ok-clause-handled g c = λ lives same.
    let before = areas_of g.D.Disk.told g.D.Disk.syncs g.D.Disk.disk_faults c.args.a.now c.args.b.now in
    let after = areas_of g.D.Disk.told g.D.Disk.syncs g.D.Disk.disk_faults c.handle.new.a c.handle.new.b in
    let event : arrival_event product c.args.w.now.reports c.args.x.now ≡ Some c.in-Ok-Some.event =
    subst (λ seen. IfSome seen (λ both. arrival_event product c.args.w.now.reports c.args.x.now ≡ Some both.0)) c.in-Ok-Some.field-0-is c.in-Ok-Some.ensures.event in
    let world : c.in-Ok-Some.next ≡ handling product c.args.w.now c.args.x.now (arrival_event product c.args.w.now.reports c.args.x.now) =
    subst (λ seen. IfSome seen (λ both. both.1 ≡ handling product c.args.w.now c.args.x.now (arrival_event product c.args.w.now.reports c.args.x.now))) c.in-Ok-Some.field-0-is c.in-Ok-Some.ensures.world in
    took c.args.w.now c.args.x.now c.in-Ok-Some.event event (parts_of c.args.m.now) (parts_of c.handle.new.self) same before after
    c.in-Ok.reply c.in-Ok-Some.next world (λ is. absurd (omega (arith, is))) (c.in-Ok.ensures.handled lives)

pub returns-clause-handled : goal.returns-clause-handled
returns-clause-handled g c = λ lives same.
    let before = areas_of g.D.Disk.told g.D.Disk.syncs g.D.Disk.disk_faults c.args.a.now c.args.b.now in
    let after = areas_of g.D.Disk.told g.D.Disk.syncs g.D.Disk.disk_faults c.handle.new.a c.handle.new.b in
    let event : arrival_event product c.args.w.now.reports c.args.x.now ≡ Some c.in-Ok-Some.event =
    subst (λ seen. IfSome seen (λ both. arrival_event product c.args.w.now.reports c.args.x.now ≡ Some both.0)) c.in-Ok-Some.field-0-is c.in-Ok-Some.ensures.event in
    stopped c.args.w.now c.args.x.now c.in-Ok-Some.event event (parts_of c.args.m.now) (parts_of c.handle.new.self) same before after
    c.in-Err.stop (c.in-Err.ensures.handled lives)
