use Rattle.std.proofs.Common.{sym, subst}
use Rattle.ge_timeline.specs.Shown.{Shows}
use Rattle.ge_timeline.proofs.Putting.{put_shows}
use Rattle.ge_timeline.proofs.adding.key_of.Goals as goal

pub returns-in_ok-give-in-None-clause-shows : goal.returns-in_ok-give-in-None-clause-shows
returns-in_ok-give-in-None-clause-shows c =
    let index = rw c.in_ok-limit-in-None.ensures at c.in_ok-give-in-None.ensures in
    let number = c.in_ok-number-in-None.number in
    let slab = c.in_ok-number-in-None.ensures in
    λ sums moments s.
    subst (λ i. Shows i c.insert.new.self sums moments) (sym index)
    (put_shows c.args.index.now c.args.functions.now c.insert.new.self c.args.limit.now number c.in_ok-points-in-None.points sums moments (sym c.in-None.ensures) slab.was_vacant slab.updates.changed c.in_ok-points-in-None.ensures.items slab.updates.others s)
