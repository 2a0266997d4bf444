use Rattle.ge_laws.proofs.PlannedEntries.{plan_keeps}
use Rattle.ge_laws.proofs.plans.only_an_accepted_stop_stops.Goals as goal

pub returns : goal.returns
returns c = λ cluster e. (plan_keeps cluster e).stop
