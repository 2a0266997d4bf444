use Rattle.ge_soundness.proofs.Plans.{booked_keeps}
use Rattle.ge_soundness.proofs.granted_reservations_keep_limits.Goals as goal

pub returns : goal.returns
returns c = booked_keeps
