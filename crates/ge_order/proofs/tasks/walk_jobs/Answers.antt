use Rattle.ge_collections.proofs.Walked.{rising_found}
use Rattle.ge_order.proofs.tasks.walk_jobs.Goals as goal

pub returns : goal.returns
returns c = rising_found _ _ c.iter.ensures.rest c.iter.ensures.rising
