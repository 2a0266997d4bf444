use Rattle.ge_model_jobs.proofs.WalkedSerials.{first_met}
use Rattle.ge_laws.proofs.rules.serials_are_the_first_met.Goals as goal

pub returns : goal.returns
returns c = first_met
