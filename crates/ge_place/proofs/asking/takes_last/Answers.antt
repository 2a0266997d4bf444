use Rattle.std.proofs.Common.{refl, ◌∙◌}
use Rattle.ge_model_place.specs.Placement.{everywhere}
use Rattle.ge_place.proofs.Summing.{open_takes}
use Rattle.ge_place.proofs.asking.takes_last.Goals as goal

pub returns-clause-takes : goal.returns-clause-takes
returns-clause-takes c =
    let spot = c.args.spot.now in
    c.is_taken_there-taken.ensures ∙ open_takes everywhere c.args.before.now c.args.since.now spot c.in_ok-sight.sight refl c.in_ok-sight.ensures.seen
