use Rattle.ge_model_place.proofs.Granted.{grants_keep}
use Rattle.ge_laws.proofs.runs.advances_keep_limits.Goals as goal

pub returns : goal.returns
returns c = grants_keep
