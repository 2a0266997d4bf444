use Rattle.ge_model_place.proofs.Sooner.{earliest}
use Rattle.ge_laws.proofs.runs.reservations_are_at_the_first_moment.Goals as goal

pub returns : goal.returns
returns c = earliest
