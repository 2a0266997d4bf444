-- Whether anything is kept for jobs that ask for it.
use Rattle.std.specs.Prelude.{Bool}
use Rattle.std.specs.List.{list_any}
use Rattle.ge_model_rows.specs.ClusterRows.{Cluster}
use Rattle.ge_model_place.specs.Opening.{is_forced}

-- whether any complex is FORCED: complex, requestable
abbrev pub is_any_forced : Cluster → Bool
is_any_forced c = list_any (λ complex. is_forced complex.1.requestable) c.complexes
