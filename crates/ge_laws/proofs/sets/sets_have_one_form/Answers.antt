use Rattle.ge_model_rows.proofs.Unique.{one_form}
use Rattle.ge_laws.proofs.sets.sets_have_one_form.Goals as goal

pub returns : goal.returns
returns c = one_form
