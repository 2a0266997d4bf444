use Rattle.std.proofs.Common.{◌-◌, take, sym, ◌∙◌, ap, arith}
use Rattle.std.specs.Prelude.{fold, nat_lt}
use Rattle.ge_timeline.specs.StepFunctions.{last_sum}
use Rattle.ge_timeline.proofs.Levels.{by_from_places, above_from_places, greatest_is, points_in_is, best}
use Rattle.ge_timeline.proofs.looking.exceeds.Goals as goal

pub returns-clause-above : goal.returns-clause-above
returns-clause-above g c =
    let ps = c.args.points.now in
    let place = c.place_after-place.result in
    let low = by_from_places c.args.from ps place c.place_after-place.ensures.by c.place_after-place.ensures.within in
    let high = above_from_places c.args.from ps place c.place_after-place.ensures.later in
    c.rises_above.ensures.above
    ∙ ap (λ n. nat_lt c.args.bound (fold (best c.args.until) n c.split_at.result.1.now)) c.sum_before-first.ensures
    ∙ ap (λ xs. nat_lt c.args.bound (fold (best c.args.until) (last_sum (take place ps)) xs)) c.split_at.ensures.back
    ∙ ap (λ n. nat_lt c.args.bound n) (sym (greatest_is ps place c.args.from c.args.until low high c.if-from-until.false))

pub returns-clause-cost : goal.returns-clause-cost
returns-clause-cost g c =
    let ps = c.args.points.now in
    let place = c.place_after-place.result in
    let low = by_from_places c.args.from ps place c.place_after-place.ensures.by c.place_after-place.ensures.within in
    let high = above_from_places c.args.from ps place c.place_after-place.ensures.later in
    let looked = rw c.split_at.ensures.back at c.rises_above.ensures.cost in
    let inside = points_in_is ps place c.args.from c.args.until low high in
    let since = c.place_after-place.ensures.since in
    let one = c.tick.ensures in
    (c.place_after-place.new.steps - c.args.steps.now, c.place_after-place.ensures.cost, omega (arith, looked, inside, since, one))
