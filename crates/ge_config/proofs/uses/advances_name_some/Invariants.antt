use Rattle.std.proofs.Common.{◌≡◌}
use Rattle.std.specs.List.{list_any}
use Rattle.ge_config.specs.Uses.{has_some}
use Rattle.ge_config.proofs.uses.advances_name_some.Given as goal

abbrev pub invariant-loop-booked : goal.invariant-loop-booked
invariant-loop-booked l = list_any (λ booked. has_some l.names booked.1.request.asked) l.booked-iterator ≡ list_any (λ booked. has_some l.names booked.1.request.asked) l.advances
