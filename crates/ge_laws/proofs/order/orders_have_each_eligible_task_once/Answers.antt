use Rattle.ge_model_order.proofs.OrderOnce.{each_once_if_eligible}
use Rattle.ge_laws.proofs.order.orders_have_each_eligible_task_once.Goals as goal

pub returns : goal.returns
returns c = each_once_if_eligible
