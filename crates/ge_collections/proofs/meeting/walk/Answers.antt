use Rattle.ge_collections.proofs.Walked.{all_found}
use Rattle.ge_collections.proofs.meeting.walk.Goals as goal

pub returns : goal.returns
returns g c = all_found _ _ c.iter.ensures.rest c.iter.ensures.found
