use Rattle.std.proofs.Common.{◌≡◌}
use Rattle.ge_ranges.specs.Meeting.{first_inside}
use Rattle.ge_ranges.proofs.meeting.first_inside.Given as goal

abbrev pub invariant-loop-turns : goal.invariant-loop-turns
invariant-loop-turns l = first_inside l.turns l.span l.n l.last l.step ≡ first_inside l.fn.turns l.span l.fn.n l.last l.step

abbrev pub decreases-loop-turns : goal.decreases-loop-turns
decreases-loop-turns l = l.turns
