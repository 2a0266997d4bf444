-- The events to come stay the same while more is read.
use Rattle.std.proofs.Common.{◌≡◌, ◌+◌, ◌-◌, ◌^◌, ◌≤◌, cond}
use Rattle.ge_script.specs.Pieces.{coming, IsOver, given_count, read_count, total_count}
use Rattle.ge_script.proofs.pieces.Script.next.Given as goal

abbrev pub invariant-reading : goal.invariant-reading
invariant-reading g l = record {
  coming : coming l.self (g.S.Source.rest l.s) ≡ coming l.fn.self (g.S.Source.rest l.fn.s);
  over : IsOver l.self (g.S.Source.rest l.s);
  given : given_count l.fn.self ≤ given_count l.self;
  total : total_count l.self (g.S.Source.rest l.s) ≡ total_count l.fn.self (g.S.Source.rest l.fn.s);
  later : g.S.Source.read_faults l.fn.s ≤ g.S.Source.read_faults l.s;
}

abbrev pub decreases-reading : goal.decreases-reading
decreases-reading g l = (2 ^ 40 - read_count l.self) + cond l.self.ended 0 1
