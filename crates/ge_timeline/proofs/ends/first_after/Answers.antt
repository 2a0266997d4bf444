use Rattle.std.proofs.Common.{◌∙◌}
use Rattle.ge_timeline.proofs.Ended.{first_is, none_at_end, next_first}
use Rattle.ge_timeline.proofs.ends.first_after.Goals as goal

pub returns-then-moment-ge-FOREVER : goal.returns-then-moment-ge-FOREVER
returns-then-moment-ge-FOREVER c = λ bookings has. none_at_end bookings c.args.moment c.if-moment-ge-FOREVER.true

pub returns : goal.returns
returns c =
    λ bookings has.
    c.copied.ensures
    ∙ next_first c.range.result c.next.result c.next.new.self c.next.ensures.steps
    ∙ first_is c.args.ends.now c.args.moment bookings c.range.result (c.range.ensures.between tt) (c.range.ensures.in_range tt) has
