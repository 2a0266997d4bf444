use Rattle.ge_model_rows.proofs.Together.{union_form, union_has, meet_form, meet_has, difference_form, difference_has}
use Rattle.ge_laws.proofs.sets.sets_join_meet_and_differ.Goals as goal

pub returns-clause-joined : goal.returns-clause-joined
returns-clause-joined c = union_form

pub returns-clause-either : goal.returns-clause-either
returns-clause-either c = union_has

pub returns-clause-met : goal.returns-clause-met
returns-clause-met c = meet_form

pub returns-clause-both : goal.returns-clause-both
returns-clause-both c = meet_has

pub returns-clause-differed : goal.returns-clause-differed
returns-clause-differed c = difference_form

pub returns-clause-alone : goal.returns-clause-alone
returns-clause-alone c = difference_has
