use Rattle.std.proofs.Common.{◌++◌, [], ◌∷◌, take, sym, ap, ◌∙◌}
use Rattle.std.proofs.lemmas.List.{take_more}
use Rattle.ge_timeline.proofs.Renewed.{shows_one_more}
use Rattle.ge_timeline.proofs.renewing.renew_all.Goals as goal

pub loop-demand-preserved : goal.loop-demand-preserved
loop-demand-preserved c =
    let ds = c.args.demands.now in
    let i = c.loop-demand.demand-index in
    let d = c.demand-item.result in
    let read = rw c.items-demand-items.ensures at c.demand-item.is in
    let inside = rw c.items-demand-items.ensures at c.loop-demand-test.true in
    let more = take_more ds i d inside ∙ ap (λ x. take i ds ++ x ∷ []) (sym read) in
    λ sums moments s. rw more (shows_one_more c.renew.new.index c.renew.new.functions c.args.bookings.now (take i ds) d sums moments (c.in_ok-renew.ensures _ _ (c.loop-demand.invariant sums moments s)))
