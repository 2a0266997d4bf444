use Rattle.std.proofs.Common.{◌++◌, [], ◌∷◌, take, sym, ap, ◌∙◌}
use Rattle.std.proofs.lemmas.List.{take_more}
use Rattle.ge_timeline.specs.Shown.{sums_with, changes_with}
use Rattle.ge_timeline.proofs.Putting.{shows_more}
use Rattle.ge_timeline.proofs.Summing.{but_more, but_changes}
use Rattle.ge_timeline.proofs.adding.add_booking.Goals as goal

pub loop-demand-preserved : goal.loop-demand-preserved
loop-demand-preserved c =
    let b = c.args.b.now in
    let bs = c.args._bookings.now in
    let i = c.loop-demand.demand-index in
    let d = c.demand-item.result in
    let read = rw c.items-demand-items.ensures at c.demand-item.is in
    let inside = rw c.items-demand-items.ensures at c.loop-demand-test.true in
    let more = take_more b.demands i d inside ∙ ap (λ x. take i b.demands ++ x ∷ []) (sym read) in
    let shows = c.in_ok-add_amount.ensures (sums_with bs b (take i b.demands)) (changes_with bs b (take i b.demands)) c.loop-demand.invariant in
    rw more (shows_more c.add_amount.new.index c.add_amount.new.functions _ (sums_with bs b (take i b.demands ++ d ∷ [])) _ (changes_with bs b (take i b.demands ++ d ∷ [])) (λ limit t. but_more bs b (take i b.demands) d limit t) (λ limit. but_changes bs b (take i b.demands) d limit) shows)
