use Rattle.ge_laws.proofs.PlannedEntries.{plan_keeps}
use Rattle.ge_laws.proofs.plans.accepted_changes_have_entries.Goals as goal

pub returns-clause-entries : goal.returns-clause-entries
returns-clause-entries c = λ cluster e. (plan_keeps cluster e).entry

pub returns-clause-moments : goal.returns-clause-moments
returns-clause-moments c = λ cluster e. (plan_keeps cluster e).at
