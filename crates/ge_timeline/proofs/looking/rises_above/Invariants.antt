use Rattle.std.proofs.Common.{◌≡◌, ◌+◌, ◌≤◌, take, drop}
use Rattle.std.specs.Prelude.{fold, count_by, nat_lt}
use Rattle.ge_timeline.specs.declared.points.Point.{Point}
use Rattle.ge_timeline.proofs.Levels.{best}
use Rattle.ge_timeline.proofs.looking.rises_above.Given as goal

abbrev pub invariant-loop-point : goal.invariant-loop-point
invariant-loop-point g l = record {
  rest : fold (best l.until) l.most (drop l.point-index l.points) ≡ fold (best l.until) l.first l.points;
  cost : l.steps ≤ l.fn.steps + l.point-index;
  all : count_by (λ (p : Point). nat_lt p.at l.until) (take l.point-index l.points) ≡ l.point-index;
}
