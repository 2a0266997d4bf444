use Rattle.std.proofs.Common.{◌≡◌, ◌+◌, [], ◌∷◌, ◌++◌, take, sym, subst, ap, ◌∙◌}
use Rattle.std.proofs.lemmas.List.{take_more}
use Rattle.ge_place.specs.Spots.{rooms_as}
use Rattle.ge_place.specs.Sums.{AsksMore}
use Rattle.ge_place.proofs.Summing.{asks_next}
use Rattle.ge_place.proofs.asking.ask_all.Goals as goal

pub loop-bound-preserved : goal.loop-bound-preserved
loop-bound-preserved c =
    let bounds = c.args.bounds.now in
    let i = c.loop-bound.bound-index in
    let bound = c.bound-item.result in
    let more : take (i + 1) bounds ≡ take i bounds ++ bound ∷ [] = take_more bounds i bound c.loop-bound-test.true ∙ ap (λ x. take i bounds ++ x ∷ []) (sym c.bound-item.is) in
    subst (λ bs. AsksMore (rooms_as bs) c.args.sums.now c.ask.new.self) (sym more) (asks_next (take i bounds) bound c.args.sums.now c.loop-bound.sums c.ask.new.self c.loop-bound.invariant c.in_ok-ask.ensures)
