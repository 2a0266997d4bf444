use Rattle.ge_model_order.proofs.OrderOnce.{rows_of_candidates, rows_distinct}
use Rattle.ge_laws.proofs.order.candidates_have_one_priority.Goals as goal

pub returns-clause-rows : goal.returns-clause-rows
returns-clause-rows c = rows_of_candidates

pub returns-clause-one : goal.returns-clause-one
returns-clause-one c = rows_distinct
