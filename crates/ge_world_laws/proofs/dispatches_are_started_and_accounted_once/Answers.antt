use Rattle.ge_world_laws.proofs.ProductLaws.{product_once}
use Rattle.ge_world_laws.proofs.dispatches_are_started_and_accounted_once.Goals as goal

pub returns : goal.returns
returns c = product_once
