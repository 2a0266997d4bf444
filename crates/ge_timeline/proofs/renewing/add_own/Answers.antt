use Rattle.std.proofs.Common.{◌++◌, [], ◌∷◌, take, sym, ap, ◌∙◌}
use Rattle.std.proofs.lemmas.List.{take_more, take_all}
use Rattle.ge_timeline.proofs.Summing.{own_step, own_end}
use Rattle.ge_timeline.proofs.renewing.add_own.Goals as goal

pub loop-demand-preserved : goal.loop-demand-preserved
loop-demand-preserved c =
    let b = c.args.b.now in
    let i = c.loop-demand.demand-index in
    let d = c.demand-item.result in
    let read = rw c.items-demand-items.ensures at c.demand-item.is in
    let inside = rw c.items-demand-items.ensures at c.loop-demand-test.true in
    let more = take_more b.demands i d inside ∙ ap (λ x. take i b.demands ++ x ∷ []) (sym read) in
    record {
      rising = c.in_ok-add_demand.ensures.rising;
      drawn = λ bookings s. rw more (own_step bookings b (take i b.demands) d c.args.limit.now c.add_demand.new.points.items (c.in_ok-add_demand.ensures.drawn _ _ (c.loop-demand.invariant.drawn bookings s)));
    }

pub returns-clause-drawn : goal.returns-clause-drawn
returns-clause-drawn c =
    let b = c.args.b.now in
    let all = take_all c.loop-demand.demand-index b.demands (rw c.items-demand-items.ensures at c.loop-demand-test.false) in
    λ bookings s. own_end bookings b c.args.limit.now c.loop-demand.points.items (rw all at (c.loop-demand.invariant.drawn bookings s))
