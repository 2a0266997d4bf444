use Rattle.std.proofs.Common.{◌≡◌}
use Rattle.std.specs.List.{list_any}
use Rattle.ge_model_config.specs.Cited.{has_name}
use Rattle.ge_configuring.proofs.jobs.complex_in_advances.Given as goal

abbrev pub invariant-loop-booked : goal.invariant-loop-booked
invariant-loop-booked l = list_any (λ booked. has_name booked.1.request.asked l.name) l.booked-iterator ≡ list_any (λ booked. has_name booked.1.request.asked l.name) l.c.advances
