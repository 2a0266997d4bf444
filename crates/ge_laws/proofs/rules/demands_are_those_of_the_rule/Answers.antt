use Rattle.ge_model_place.proofs.Whole.{demands_each}
use Rattle.ge_laws.proofs.rules.demands_are_those_of_the_rule.Goals as goal

pub returns : goal.returns
returns c = demands_each
