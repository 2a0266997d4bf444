use Rattle.std.proofs.Common.{◌≡◌}
use Rattle.std.specs.List.{list_any}
use Rattle.ge_collections.specs.Keyed.{text_eq}
use Rattle.ge_configuring.proofs.granted.advance_on_host.Given as goal

abbrev pub invariant-loop-booked : goal.invariant-loop-booked
invariant-loop-booked l = list_any (λ booked. list_any (λ grant. text_eq l.name grant.at.host) booked.1.grants) l.booked-iterator ≡ list_any (λ booked. list_any (λ grant. text_eq l.name grant.at.host) booked.1.grants) l.advances
