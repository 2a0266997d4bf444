use Rattle.ge_model_rows.proofs.Limits.{count_numbers}
use Rattle.ge_model_rows.proofs.Walks.{first_numbers_take}
use Rattle.ge_laws.proofs.sets.sets_are_counted_and_walked.Goals as goal

pub returns-clause-counted : goal.returns-clause-counted
returns-clause-counted c = count_numbers

pub returns-clause-walked : goal.returns-clause-walked
returns-clause-walked c = first_numbers_take
