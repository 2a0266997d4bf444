use Rattle.ge_model_order.proofs.OrderSorted.{order_sorted}
use Rattle.ge_laws.proofs.order.orders_go_by_priority_then_number.Goals as goal

pub returns : goal.returns
returns c = order_sorted
