use Rattle.ge_model_place.proofs.Moments.{admissible_is, is_admissible}
use Rattle.ge_model_place.proofs.Placed.{places_task}
use Rattle.ge_laws.proofs.runs.placements_follow_their_rule.Goals as goal

pub returns-clause-rule : goal.returns-clause-rule
returns-clause-rule c = places_task

pub returns-clause-admissible : goal.returns-clause-admissible
returns-clause-admissible c cluster groups job bookings from grants = (admissible_is cluster groups job bookings from grants, is_admissible cluster groups job bookings from grants)
