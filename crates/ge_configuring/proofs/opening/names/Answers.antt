use Rattle.std.proofs.Common.{refl}
use Rattle.ge_model_rows.specs.Complexes.{opening_complexes}
use Rattle.ge_configuring.proofs.opening.names.Goals as goal

pub returns : goal.returns
unfolding opening_complexes
returns c = refl
