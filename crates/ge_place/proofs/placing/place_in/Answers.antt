use Rattle.std.proofs.Common.{map, sym, ap, ◌∙◌}
use Rattle.ge_model_place.specs.Placement.{placed_by}
use Rattle.ge_place.specs.Spots.{cell_in}
use Rattle.ge_place.proofs.FirstTaken.{single_is}
use Rattle.ge_place.proofs.placing.place_in.Goals as goal

pub returns-in_ok-grants-in-None : goal.returns-in_ok-grants-in-None
returns-in_ok-grants-in-None c =
    let search = c.args.search.now in
    let order = c.args.order.now in
    c.in_ok-grants-in-None.ensures
    ∙ sym (single_is search search.cluster.now order)
    ∙ sym (ap (λ pe. placed_by search.cluster.now (map (cell_in search) order) pe) c.in-None.is)
