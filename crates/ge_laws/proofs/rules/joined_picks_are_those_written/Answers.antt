use Rattle.ge_model_jobs.proofs.JoinedPicks.{joined_names, deleted_twice}
use Rattle.ge_laws.proofs.rules.joined_picks_are_those_written.Goals as goal

pub returns-clause-names : goal.returns-clause-names
returns-clause-names c = joined_names

pub returns-clause-twice : goal.returns-clause-twice
returns-clause-twice c = deleted_twice
