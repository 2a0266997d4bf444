use Rattle.ge_laws.proofs.ReadAgain.{names_reached}
use Rattle.ge_laws.proofs.printed.tables_have_names.Goals as goal

pub returns : goal.returns
returns c = names_reached
