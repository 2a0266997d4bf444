use Rattle.std.proofs.Common.{◌≡◌}
use Rattle.std.specs.List.{list_any}
use Rattle.ge_model_config.specs.Used as used
use Rattle.ge_configuring.proofs.jobs.pe_in_advances.Given as goal

abbrev pub invariant-loop-booked : goal.invariant-loop-booked
invariant-loop-booked l = list_any (λ booked. used.asks_pe l.name booked.1.request.pe) l.booked-iterator ≡ list_any (λ booked. used.asks_pe l.name booked.1.request.pe) l.c.advances
