use Rattle.ge_laws.proofs.ToldPlans.{plan_told}
use Rattle.ge_laws.proofs.plans.plans_never_want_memory.Goals as goal

pub returns : goal.returns
returns c = λ cluster e. (plan_told cluster e).other
