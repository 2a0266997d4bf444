use Rattle.ge_model_core.specs.Plan.{plan_of}
use Rattle.ge_laws.proofs.GrowingLines.{entry_grows, trace_grows, first_stay}
use Rattle.ge_laws.proofs.plans.accounting_lines_only_grow.Goals as goal

pub returns-clause-entry : goal.returns-clause-entry
returns-clause-entry c = entry_grows

pub returns-clause-traces : goal.returns-clause-traces
returns-clause-traces c = λ cluster events marks. trace_grows plan_of marks cluster events

pub returns-clause-fronts : goal.returns-clause-fronts
returns-clause-fronts c = λ cluster events marks n within. first_stay n cluster.lines _ within (trace_grows plan_of marks cluster events)
