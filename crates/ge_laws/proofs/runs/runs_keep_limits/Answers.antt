use Rattle.ge_model_place.proofs.Laws.{bookings_grow}
use Rattle.ge_model_place.proofs.Sums.{each_run_keeps_limits}
use Rattle.ge_laws.proofs.runs.runs_keep_limits.Goals as goal

pub returns-clause-grows : goal.returns-clause-grows
returns-clause-grows c = bookings_grow

pub returns-clause-kept : goal.returns-clause-kept
returns-clause-kept c = each_run_keeps_limits
