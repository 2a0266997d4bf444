use Rattle.ge_model_rows.proofs.Sets.{with_number_form, with_number_has, without_number_form, without_number_has}
use Rattle.ge_laws.proofs.sets.sets_gain_and_lose_one_number.Goals as goal

pub returns-clause-put_in : goal.returns-clause-put_in
returns-clause-put_in c = with_number_form

pub returns-clause-has_it : goal.returns-clause-has_it
returns-clause-has_it c = with_number_has

pub returns-clause-taken_out : goal.returns-clause-taken_out
returns-clause-taken_out c = without_number_form

pub returns-clause-lost_it : goal.returns-clause-lost_it
returns-clause-lost_it c = without_number_has
