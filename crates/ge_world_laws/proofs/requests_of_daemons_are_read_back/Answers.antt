use Rattle.ge_world_laws.proofs.Texts.{orders_back, end_back}
use Rattle.ge_world_laws.proofs.requests_of_daemons_are_read_back.Goals as goal

pub returns-clause-orders : goal.returns-clause-orders
returns-clause-orders c = orders_back

pub returns-clause-ends : goal.returns-clause-ends
returns-clause-ends c = end_back
