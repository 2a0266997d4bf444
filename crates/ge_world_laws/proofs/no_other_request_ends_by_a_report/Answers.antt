use Rattle.ge_world_laws.proofs.Others.{other_entry}
use Rattle.ge_world_laws.proofs.no_other_request_ends_by_a_report.Goals as goal

pub returns : goal.returns
returns c = other_entry
