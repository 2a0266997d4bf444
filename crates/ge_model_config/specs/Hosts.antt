-- Hosts read from a body (host_conf).
use Rattle.std.specs.Prelude.{ℕ, Bool, List, [], ◌++◌, codes}
use Rattle.ge_limits.specs.Limits as limit
use Rattle.ge_model_rows.specs.ClusterRows.{Cluster}
use Rattle.ge_model_rows.specs.EntryRows.{Item, ObjectKind}
use Rattle.ge_model_config.specs.Cited.{Read, given, none_text}
use Rattle.ge_model_config.specs.Pairs.{values_read, any_fits}
use Rattle.ge_model_config.specs.Named.{name_faults, absent_faults}

-- a host and its complex_values (host_conf); there are at most 4,096
unfoldable pub host_item : Cluster → Bool → List (List ℕ × List ℕ) → Read Item
host_item c adding values =
    let name = given values (codes "hostname") [] in
    let amounts = values_read c any_fits (given values (codes "complex_values") none_text) in
    (Item.Host name amounts.0, name_faults ObjectKind.Host limit.hosts c.hosts adding name ++ absent_faults ObjectKind.Host values ++ amounts.1)
