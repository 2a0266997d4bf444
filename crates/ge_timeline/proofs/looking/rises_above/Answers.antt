use Rattle.std.proofs.Common.{get_or, sym, ap, ◌∙◌, arith}
use Rattle.std.specs.Prelude.{nat_lt}
use Rattle.std.proofs.lemmas.Bool.{le-ltb}
use Rattle.std.proofs.lemmas.List.{get_or_default}
use Rattle.ge_timeline.specs.declared.points.Point.{Point}
use Rattle.ge_timeline.proofs.Levels.{best_above, stops_late}
use Rattle.ge_timeline.proofs.looking.rises_above.Goals as goal

pub returns-then-most-bound-clause-above : goal.returns-then-most-bound-clause-above
returns-then-most-bound-clause-above g c =
    best_above c.args.points.now c.loop-point.point-index c.args.until c.loop-point.most c.args.bound _ c.if-most-bound.true c.loop-point.invariant.rest

pub returns-then-until-point-clause-above : goal.returns-then-until-point-clause-above
returns-then-until-point-clause-above g c =
    let z : Point = record { at = 0; sum = 0 } in
    let x : Point = get_or c.args.points.now c.loop-point.point-index z in
    let is = stops_late c.args.points.now c.loop-point.point-index c.args.until c.loop-point.most x _ c.requires c.loop-point-test.true
    (get_or_default c.args.points.now c.loop-point.point-index z x c.loop-point-test.true) c.if-until-point.true c.loop-point.invariant.rest in
    sym (le-ltb c.args.bound c.loop-point.most (omega (arith, c.if-most-bound.false))) ∙ ap (λ n. nat_lt c.args.bound n) is
