use Rattle.ge_model_rows.proofs.OverrideLaws.{attr_at-looked_up}
use Rattle.ge_laws.proofs.rules.overrides_are_looked_up.Goals as goal

pub returns : goal.returns
returns g c = attr_at-looked_up
