use Rattle.std.proofs.Common.{ap, ◌∙◌}
use Rattle.ge_model_place.specs.Placement as placed
use Rattle.ge_place.specs.Spots.{cells_with, no_slots_at}
use Rattle.ge_place.proofs.Cells.{empty_cells}
use Rattle.ge_place.proofs.placing.place_by.Goals as goal

pub returns : goal.returns
returns c =
    c.in_ok-grants.ensures
    ∙ ap (λ xs. placed.granted c.args.request.now.low (placed.spread c.args.rule c.args.request.now.high (cells_with xs (no_slots_at xs)))) c.in_ok-spots.ensures
    ∙ ap (λ cells. placed.granted c.args.request.now.low (placed.spread c.args.rule c.args.request.now.high cells)) (empty_cells c.args.search.now c.args.order.now)
