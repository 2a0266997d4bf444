-- Which complexes a list of name=value may name.
use Rattle.ge_model_rows.specs.ClusterRows.{Cluster}
use Rattle.ge_model_config.specs.Pairs.{Fits, any_fits, number_fits}
use Rattle.ge_model_config.specs.Quotas.{consumable_fits}
use Rattle.ge_config.specs.declared.pairs.Fitting.{Fitting}
use Rattle.ge_config.specs.declared.pairs.Fitting.TheVariants.{Any, Numbers, Consumables}

abbrev pub fits_by : Cluster → Fitting → Fits
fits_by c Any = any_fits
fits_by c Numbers = number_fits
fits_by c Consumables = consumable_fits c
