use Rattle.ge_world_laws.proofs.ProductLaws.{opening_ready, entry_ready}
use Rattle.ge_world_laws.proofs.clusters_stay_ready.Goals as goal

pub returns-clause-opening : goal.returns-clause-opening
returns-clause-opening c = opening_ready

pub returns-clause-entries : goal.returns-clause-entries
returns-clause-entries c = entry_ready
