use Rattle.ge_world_laws.proofs.ProductLaws.{product_laws}
use Rattle.ge_world_laws.proofs.orders_name_what_runs.Goals as goal

pub returns : goal.returns
returns c = product_laws.orders
