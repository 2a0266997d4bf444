use Rattle.std.proofs.Common.{◌≡◌, ap, subst, refl, arith, false, Ok, Err}
use Rattle.ge_model_core.specs.Plan.{plan_of}
use Rattle.ge_master.specs.Areas.{areas_of}
use Rattle.ge_master.specs.Handling.{HandlesBatch}
use Rattle.ge_master.specs.Masters.{parts_of, is_gone}
use Rattle.ge_master.proofs.Singles.{handled-one, one-reply, only-reply, lives-at-ok}
use Rattle.ge_master.proofs.master.Master.handle.Goals as goal

pub remove-requires : goal.remove-requires
remove-requires g c =
    let before = areas_of g.D.Disk.told g.D.Disk.syncs g.D.Disk.disk_faults c.args.a.now c.args.b.now in
    let after = areas_of g.D.Disk.told g.D.Disk.syncs g.D.Disk.disk_faults c.handle_all.new.a c.handle_all.new.b in
    let alive : is_gone c.args.self.now ≡ false = lives-at-ok (is_gone c.args.self.now) c.in-Ok.replies _ c.in-Ok.ensures.gone in
    let batch = subst (λ events. HandlesBatch plan_of (parts_of c.args.self.now) (parts_of c.handle_all.new.self) events (Ok c.in-Ok.replies) before after) c.from_ref.ensures.value
    (c.in-Ok.ensures.handled alive) in
    let one = one-reply plan_of (parts_of c.args.self.now) (parts_of c.handle_all.new.self) c.args.event.now c.in-Ok.replies before after batch in
    omega (arith, one)

pub returns-in-Ok-clause-handled : goal.returns-in-Ok-clause-handled
returns-in-Ok-clause-handled g c = λ alive.
    let before = areas_of g.D.Disk.told g.D.Disk.syncs g.D.Disk.disk_faults c.args.a.now c.args.b.now in
    let after = areas_of g.D.Disk.told g.D.Disk.syncs g.D.Disk.disk_faults c.handle_all.new.a c.handle_all.new.b in
    let batch = subst (λ events. HandlesBatch plan_of (parts_of c.args.self.now) (parts_of c.handle_all.new.self) events (Ok c.in-Ok.replies) before after) c.from_ref.ensures.value
    (c.in-Ok.ensures.handled alive) in
    let one = one-reply plan_of (parts_of c.args.self.now) (parts_of c.handle_all.new.self) c.args.event.now c.in-Ok.replies before after batch in
    handled-one plan_of (parts_of c.args.self.now) (parts_of c.handle_all.new.self) c.args.event.now (Ok c.in-Ok.replies) (Ok c.remove.result) before after batch
    (ap (λ replies. Ok replies) (only-reply c.in-Ok.replies c.remove.result one c.remove.ensures.value))

pub returns-in-Err-clause-handled : goal.returns-in-Err-clause-handled
returns-in-Err-clause-handled g c = λ alive.
    let before = areas_of g.D.Disk.told g.D.Disk.syncs g.D.Disk.disk_faults c.args.a.now c.args.b.now in
    let after = areas_of g.D.Disk.told g.D.Disk.syncs g.D.Disk.disk_faults c.handle_all.new.a c.handle_all.new.b in
    let batch = subst (λ events. HandlesBatch plan_of (parts_of c.args.self.now) (parts_of c.handle_all.new.self) events (Err c.in-Err.stop) before after) c.from_ref.ensures.value
    (c.in-Err.ensures.handled alive) in
    handled-one plan_of (parts_of c.args.self.now) (parts_of c.handle_all.new.self) c.args.event.now (Err c.in-Err.stop) (Err c.in-Err.stop) before after batch refl
