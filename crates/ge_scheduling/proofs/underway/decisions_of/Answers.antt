use Rattle.ge_scheduling.proofs.PartByPart.{run_made}
use Rattle.ge_scheduling.proofs.underway.decisions_of.Goals as goal

pub returns-clause-computed : goal.returns-clause-computed
returns-clause-computed c = λ C is. run_made C c.args.run is
