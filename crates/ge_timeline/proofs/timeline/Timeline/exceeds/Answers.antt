use Rattle.std.proofs.Common.{ap, sym, ◌∙◌, arith}
use Rattle.std.specs.Prelude.{nat_lt}
use Rattle.std.proofs.lemmas.Bool.{le-ltb}
use Rattle.ge_timeline.specs.StepFunctions.{greatest}
use Rattle.ge_timeline.specs.Looks.{changes, window_peak}
use Rattle.ge_timeline.proofs.Joined.{found_draws, drawn_peak, no_peak, few_looks}
use Rattle.ge_timeline.proofs.timeline.Timeline.exceeds.Goals as goal

pub returns-in-Some-get-clause-above : goal.returns-in-Some-get-clause-above
returns-in-Some-get-clause-above g c =
    let inside = c.self.inside in
    let points = c.in-Some-get.points.now in
    let drawn = found_draws inside.index inside.functions inside.bookings c.args.limit.now c.in-Some.number points c.self.invariant.shows (sym c.in-Some.ensures) (sym c.in-Some-get.ensures) in
    c.exceeds.ensures.above
    ∙ ap (λ xs. nat_lt c.args.bound (greatest xs c.args.from c.args.until)) c.as_slice.ensures.value
    ∙ ap (λ n. nat_lt c.args.bound n) (drawn_peak inside.bookings c.args.limit.now c.args.from c.args.until points.items drawn)
    ∙ ap (λ bs. nat_lt c.args.bound (window_peak bs c.args.limit.now c.args.from c.args.until)) c.self.view_is

pub returns-in-Some-get-clause-cost : goal.returns-in-Some-get-clause-cost
returns-in-Some-get-clause-cost g c =
    let inside = c.self.inside in
    let points = c.in-Some-get.points.now in
    let drawn = found_draws inside.index inside.functions inside.bookings c.args.limit.now c.in-Some.number points c.self.invariant.shows (sym c.in-Some.ensures) (sym c.in-Some-get.ensures) in
    let looks = rw c.as_slice.ensures.value at c.exceeds.ensures.cost in
    let few = few_looks (changes inside.bookings c.args.limit.now) points.items c.args.from c.args.until c.args.steps.now c.exceeds.new.steps drawn.rising drawn.within looks in
    rw c.self.view_is at few

pub returns-in-None-clause-above : goal.returns-in-None-clause-above
returns-in-None-clause-above g c =
    let inside = c.self.inside in
    sym (le-ltb c.args.bound 0 (omega arith))
    ∙ ap (λ n. nat_lt c.args.bound n) (no_peak inside.index inside.functions inside.bookings c.args.limit.now c.args.from c.args.until c.self.invariant.shows (sym c.in-None.ensures))
    ∙ ap (λ bs. nat_lt c.args.bound (window_peak bs c.args.limit.now c.args.from c.args.until)) c.self.view_is
