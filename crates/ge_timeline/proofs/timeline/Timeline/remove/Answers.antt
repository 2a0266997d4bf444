use Rattle.std.proofs.Common.{true, refl, sym, subst}
use Rattle.std.specs.Prelude.{Contains}
use Rattle.ge_timeline.specs.Taking.{Takes}
use Rattle.ge_timeline.proofs.Matched.{found_out, not_found}
use Rattle.ge_timeline.proofs.timeline.Timeline.remove.Goals as goal

pub returns-in-Ok-clause-taken : goal.returns-in-Ok-clause-taken
returns-in-Ok-clause-taken c =
    subst (λ old. Takes c.args.b.now old c.take_out.new.bookings true) c.self.view_is
    (found_out c.self.inside.bookings c.take_out.new.bookings c.in-Some.place c.args.b.now (sym c.in-Some.ensures) c.take_out.ensures.less)

pub returns-in_default-clause-taken : goal.returns-in_default-clause-taken
returns-in_default-clause-taken c = (refl, λ there. not_found c.self.inside.bookings c.args.b.now c.in_default.ensures (subst (λ bookings. Contains bookings c.args.b.now) (sym c.self.view_is) there))
