use Rattle.std.proofs.Common.{get_or}
use Rattle.std.proofs.lemmas.List.{get_or_default}
use Rattle.ge_timeline.specs.declared.points.Point.{Point}
use Rattle.ge_timeline.proofs.Levels.{stops_late}
use Rattle.ge_timeline.proofs.looking.highest_before.Goals as goal

pub returns-then-point-until-clause-greatest : goal.returns-then-point-until-clause-greatest
returns-then-point-until-clause-greatest g c =
    let z : Point = record { at = 0; sum = 0 } in
    let x : Point = get_or c.args.points.now c.loop-point.point-index z in
    stops_late c.args.points.now c.loop-point.point-index c.args.until c.loop-point.most x _ c.requires c.loop-point-test.true
    (get_or_default c.args.points.now c.loop-point.point-index z x c.loop-point-test.true) c.if-point-until.true c.loop-point.invariant.rest
