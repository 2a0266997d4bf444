use Rattle.std.proofs.Common.{◌<◌, length, get_or, arith}
use Rattle.std.proofs.lemmas.List.{get_or_default}
use Rattle.std.proofs.lemmas.List.Edits.{map_over_more}
use Rattle.ge_timeline.specs.declared.points.Point.{Point}
use Rattle.ge_timeline.specs.StepFunctions.{raised}
use Rattle.ge_timeline.proofs.counted.raise_all.Goals as goal

pub loop-point-preserved : goal.loop-point-preserved
loop-point-preserved c =
    let z : Point = record { at = 0; sum = 0 } in
    let inside : c.loop-point.point-index < length c.loop-point.points = omega arith in
    let x : Point = get_or c.loop-point.points c.loop-point.point-index z in
    rw c.saturating_add-point.ensures
    (map_over_more (raised c.args.amount) c.args.points.now c.loop-point.points c.loop-point.point-index x c.loop-point-test.true c.loop-point.invariant
    (get_or_default c.loop-point.points c.loop-point.point-index z x inside))
