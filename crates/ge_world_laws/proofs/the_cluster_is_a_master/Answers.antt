use Rattle.ge_world_laws.proofs.ProductLaws.{product_laws}
use Rattle.ge_world_laws.proofs.the_cluster_is_a_master.Goals as goal

pub returns : goal.returns
returns c = product_laws
