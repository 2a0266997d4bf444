use Rattle.std.proofs.Common.{length}
use Rattle.ge_collections.specs.Met.{StayFound}
use Rattle.ge_collections.proofs.meeting.next_at.Given as goal

abbrev pub invariant-loop-key : goal.invariant-loop-key
invariant-loop-key g l = StayFound l.fn.left l.left

abbrev pub decreases-loop-key : goal.decreases-loop-key
decreases-loop-key g l = length l.left
