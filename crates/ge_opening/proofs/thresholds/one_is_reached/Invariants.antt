use Rattle.std.proofs.Common.{◌≡◌}
use Rattle.std.specs.List.{list_any}
use Rattle.std.specs.Option.{option_copied}
use Rattle.ge_model_rows.specs.Complexes.{complex_at}
use Rattle.ge_model_place.specs.Opening.{reaches, reported_load}
use Rattle.ge_opening.proofs.thresholds.one_is_reached.Given as goal

abbrev pub invariant-loop-name : goal.invariant-loop-name
invariant-loop-name l =
    list_any (λ threshold. reaches threshold.1 (complex_at l.cluster threshold.0) (reported_load (option_copied l.row) threshold.0)) l.name-iterator
    ≡ list_any (λ threshold. reaches threshold.1 (complex_at l.cluster threshold.0) (reported_load (option_copied l.row) threshold.0)) l.thresholds
