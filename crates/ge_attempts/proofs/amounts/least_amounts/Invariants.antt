use Rattle.ge_attempts.specs.Amounts.{AreLeast}
use Rattle.ge_attempts.proofs.amounts.least_amounts.Given as goal

abbrev pub invariant-loop-name : goal.invariant-loop-name
invariant-loop-name l = AreLeast l.at.cluster.now l.amounts
