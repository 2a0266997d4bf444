use Rattle.ge_model_core.specs.Plan.{plan_of}
use Rattle.ge_model_core.proofs.Refused.{IsAnswer, plan_answers, refused_leaves}
use Rattle.ge_soundness.proofs.refused_events_change_nothing.Goals as goal

pub returns-clause-answers : goal.returns-clause-answers
unfolding IsAnswer
returns-clause-answers c = plan_answers

pub returns-clause-traces : goal.returns-clause-traces
returns-clause-traces c = refused_leaves plan_of plan_answers
