use Rattle.std.proofs.Common.{ℕ, ◌+◌, ◌-◌, ◌/◌, arith}
use Rattle.ge_timeline.proofs.Halves.{halved}
use Rattle.ge_timeline.proofs.Levels.{by_all, later_all}
use Rattle.ge_timeline.proofs.finding.place_after.Goals as goal

pub loop-low-preserved-then-points-middle : goal.loop-low-preserved-then-points-middle
loop-low-preserved-then-points-middle g c =
    let i = c.loop-low.invariant in
    let low = c.loop-low.low in
    let high = c.loop-low.high in
    let middle : ℕ = low + (high - low) / 2 in
    let step = halved _ (high - low) (high - (middle + 1)) _ c.loop-low.steps c.tick.new.self i.since c.tick.ensures (omega arith) (omega arith) i.halved in
    record {
      order = omega arith;
      within = i.within;
      by = by_all c.args.points.now middle c.args.moment _ c.requires (omega arith) c.if-points-middle.true;
      later = i.later;
      since = omega arith;
      halved = step.0;
      cost = step.1;
    }

pub loop-low-preserved : goal.loop-low-preserved
loop-low-preserved g c =
    let i = c.loop-low.invariant in
    let low = c.loop-low.low in
    let high = c.loop-low.high in
    let middle : ℕ = low + (high - low) / 2 in
    let step = halved _ (high - low) (middle - low) _ c.loop-low.steps c.tick.new.self i.since c.tick.ensures (omega arith) (omega arith) i.halved in
    record {
      order = omega arith;
      within = omega arith;
      by = i.by;
      later = later_all c.args.points.now middle c.args.moment _ c.requires (omega arith) c.if-points-middle.false;
      since = omega arith;
      halved = step.0;
      cost = step.1;
    }
