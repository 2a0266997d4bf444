use Rattle.std.proofs.Common.{◌++◌, [], ◌∷◌, take, sym, ap, ◌∙◌}
use Rattle.std.proofs.lemmas.List.{take_more}
use Rattle.ge_timeline.proofs.renewing.points_of.Goals as goal

pub loop-b-preserved : goal.loop-b-preserved
loop-b-preserved c =
    let bs = c.args.bookings.now in
    let i = c.loop-b.b-index in
    let b = c.b-item.result in
    let read = rw c.items-b-items.ensures at c.b-item.is in
    let inside = rw c.items-b-items.ensures at c.loop-b-test.true in
    let more = take_more bs i b inside ∙ ap (λ x. take i bs ++ x ∷ []) (sym read) in
    rw more (c.in_ok-add_own.ensures.drawn (take i bs) c.loop-b.invariant)
