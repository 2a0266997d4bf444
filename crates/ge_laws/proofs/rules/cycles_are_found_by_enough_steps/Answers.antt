use Rattle.ge_model_core.proofs.ReachingSteps.{any_steps}
use Rattle.ge_laws.proofs.rules.cycles_are_found_by_enough_steps.Goals as goal

pub returns : goal.returns
returns c = any_steps
