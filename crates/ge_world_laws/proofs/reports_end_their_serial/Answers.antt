use Rattle.ge_world_laws.proofs.ProductLaws.{product_laws}
use Rattle.ge_world_laws.proofs.reports_end_their_serial.Goals as goal

pub returns : goal.returns
returns c = product_laws.ends
