use Rattle.std.proofs.Common.{All}
use Rattle.ge_attempts.specs.Common.{IsAsked}
use Rattle.ge_attempts.proofs.asking.asked_limits.Given as goal

abbrev pub invariant-loop-name : goal.invariant-loop-name
invariant-loop-name l = All (IsAsked l.at.cluster.now l.at.groups.now l.job) l.asked
