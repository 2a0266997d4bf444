use Rattle.ge_timeline.proofs.Putting.{raised_shows, whole_rising, on_ok}
use Rattle.ge_timeline.proofs.adding.add_amount.Goals as goal

pub add_at-requires-clause-there : goal.add_at-requires-clause-there
add_at-requires-clause-there c =
    let whole = c.requires.whole in
    whole_rising c.key_of.new.index c.key_of.new.functions c.args.limit.now c.in_ok-number.number c.in_ok-number.ensures.number (whole.0, whole.1, c.in_ok-number.ensures.shows whole.0 whole.1 whole.2)

pub returns : goal.returns
returns c =
    on_ok _ _ c.add_at.result c.add_at.ensures.here (λ raised sums moments s. raised_shows c.key_of.new.index c.key_of.new.functions c.add_at.new.functions c.args.limit.now c.in_ok-number.number c.args.from c.args.until c.args.amount sums moments
    c.in_ok-number.ensures.number c.add_at.ensures.others raised c.add_at.ensures.still (c.in_ok-number.ensures.shows sums moments s))
