use Rattle.std.proofs.Common.{◌≡◌}
use Rattle.std.specs.List.{list_any}
use Rattle.ge_model_place.specs.Opening.{is_forced}
use Rattle.ge_opening.proofs.offering.any_forced.Given as goal

abbrev pub invariant-loop-complex : goal.invariant-loop-complex
invariant-loop-complex l =
    list_any (λ complex. is_forced complex.1.requestable) l.complex-iterator
    ≡ list_any (λ complex. is_forced complex.1.requestable) l.cluster.complexes
