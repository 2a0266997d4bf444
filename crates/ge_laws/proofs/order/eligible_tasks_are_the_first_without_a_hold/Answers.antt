use Rattle.ge_model_order.proofs.EligibleTasks.{eligible_first}
use Rattle.ge_laws.proofs.order.eligible_tasks_are_the_first_without_a_hold.Goals as goal

pub returns : goal.returns
returns c = eligible_first
