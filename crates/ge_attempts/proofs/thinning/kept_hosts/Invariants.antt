use Rattle.std.proofs.Common.{◌-◌, ◌≤◌, length}
use Rattle.ge_attempts.specs.Rests.{AreShortLater, AreKept}
use Rattle.ge_attempts.proofs.thinning.kept_hosts.Given as goal

abbrev pub invariant-loop-place : goal.invariant-loop-place
invariant-loop-place l = record {
  within : l.place ≤ length l.lefts;
  later : AreShortLater l.look.booked.now l.lefts l.later;
  kept : AreKept l.at.moment l.look.booked.now l.look.from l.look.until l.look.asked.now l.lefts l.place l.kept;
}

abbrev pub decreases-loop-place : goal.decreases-loop-place
decreases-loop-place l = length l.lefts - l.place
