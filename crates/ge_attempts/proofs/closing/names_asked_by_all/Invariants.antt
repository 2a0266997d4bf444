use Rattle.std.proofs.Common.{◌≡◌, true}
use Rattle.std.specs.List.{list_all}
use Rattle.ge_attempts.specs.Closing.{asked_by_all}
use Rattle.ge_attempts.proofs.closing.names_asked_by_all.Given as goal

abbrev pub invariant-loop-name : goal.invariant-loop-name
invariant-loop-name l = list_all (asked_by_all l.at.cluster.now) l.names ≡ true
