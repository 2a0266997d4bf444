use Rattle.std.proofs.Common.{sym, subst}
use Rattle.ge_model_place.specs.Bookings.{plain_sum}
use Rattle.ge_timeline.specs.Looks.{changes}
use Rattle.ge_timeline.specs.Shown.{ShowsPoints}
use Rattle.ge_timeline.proofs.Putting.{but_shows, whole_some}
use Rattle.ge_timeline.proofs.renewing.renew.Goals as goal

pub put_at-requires : goal.put_at-requires
put_at-requires c =
    let whole = c.requires in
    whole_some c.key_of.new.index c.key_of.new.functions c.args.limit.now c.in_ok-number.number c.in_ok-number.ensures.number (whole.0, whole.1, c.in_ok-number.ensures.shows whole.0 whole.1 whole.2)

pub returns : goal.returns
returns c =
    λ sums moments s.
    but_shows c.key_of.new.index c.key_of.new.functions c.put_at.new.functions c.args.limit.now c.in_ok-number.number (plain_sum c.args.bookings.now c.args.limit.now) (changes c.args.bookings.now c.args.limit.now) sums moments c.in_ok-number.ensures.number
    c.put_at.ensures.others (subst (λ o. ShowsPoints (plain_sum c.args.bookings.now c.args.limit.now) (changes c.args.bookings.now c.args.limit.now) o) (sym c.put_at.ensures.here) c.in_ok-points.ensures) (c.in_ok-number.ensures.shows sums moments s)
