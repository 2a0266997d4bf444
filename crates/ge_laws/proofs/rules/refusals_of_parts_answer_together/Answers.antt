use Rattle.ge_model_rows.proofs.FaultLaws.{first_fault-append}
use Rattle.ge_laws.proofs.rules.refusals_of_parts_answer_together.Goals as goal

pub returns : goal.returns
returns c = first_fault-append
