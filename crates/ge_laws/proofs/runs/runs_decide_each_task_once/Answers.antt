use Rattle.ge_model_place.proofs.Decided.{run_of_is_run}
use Rattle.ge_model_place.proofs.Laws.{decides_each, run_is_run_of}
use Rattle.ge_laws.proofs.runs.runs_decide_each_task_once.Goals as goal

pub returns-clause-there : goal.returns-clause-there
returns-clause-there c = λ cluster tasks now. run_of_is_run cluster now tasks

pub returns-clause-one : goal.returns-clause-one
returns-clause-one c = λ cluster tasks now decisions. run_is_run_of cluster now tasks decisions

pub returns-clause-each : goal.returns-clause-each
returns-clause-each c = λ cluster tasks now decisions. decides_each cluster now tasks decisions
