-- The table of hosts with the complex_values of one put.
use Rattle.std.specs.Prelude.{ℕ, List}
use Rattle.ge_collections.specs.Keyed.{at_text, put_text}
use Rattle.ge_model_rows.specs.HostRows.{HostRow}
use Rattle.ge_model_rows.specs.ValueRows.{Value}
use Rattle.ge_model_jobs.specs.Configuring.{load_of}

-- what the host reported stays
abbrev pub host_with_values : List (List ℕ × HostRow) → List ℕ → List (List ℕ × Value) → List (List ℕ × HostRow)
host_with_values hosts name values = put_text hosts name (record { values = values; load = load_of (at_text hosts name) })
