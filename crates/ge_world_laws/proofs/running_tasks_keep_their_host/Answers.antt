use Rattle.ge_world_laws.proofs.ProductLaws.{entry_goes_on}
use Rattle.ge_world_laws.proofs.running_tasks_keep_their_host.Goals as goal

pub returns-clause-posts : goal.returns-clause-posts
returns-clause-posts c = λ cluster e entry s h is p. (entry_goes_on cluster e entry is).stays (s, h) p

pub returns-clause-next : goal.returns-clause-next
returns-clause-next c = λ cluster e entry is. (entry_goes_on cluster e entry is).grows
