use Rattle.ge_model_jobs.proofs.HeldTasks.{held_has, free_has}
use Rattle.ge_laws.proofs.rules.held_tasks_are_held_one_by_one.Goals as goal

pub returns-clause-held : goal.returns-clause-held
returns-clause-held c = held_has

pub returns-clause-free : goal.returns-clause-free
returns-clause-free c = free_has
