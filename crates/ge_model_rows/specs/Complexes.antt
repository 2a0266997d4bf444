-- The complexes: the opening table, and how they are looked up.
use Rattle.std.specs.Prelude.{ℕ, Bool, true, false, ◌||◌, List, ◌++◌, find, Option, Some, None, codes}
use Rattle.ge_collections.specs.Keyed.{text_eq, at_text}
use Rattle.ge_model_rows.specs.ClusterRows.{Cluster, opening_cluster, default_queue, default_sched}
use Rattle.ge_model_rows.specs.ValueRows.{Value, Kind, Consumable, ComplexDef}
use Rattle.ge_model_rows.specs.Values.{value_text}
pub use Rattle.ge_model_rows.specs.OpeningComplexes.{time_limits, memory_limits}
unfoldable pub use Rattle.ge_model_rows.specs.OpeningComplexes.{opening_complexes}

-- the cluster before the first command, opened whole by this one name
unfoldable pub opening : Cluster
unfolding opening_cluster default_queue default_sched opening_complexes
opening = opening_cluster

-- what the table of complexes has under a name
abbrev pub complex_at : Cluster → List ℕ → Option ComplexDef
complex_at c name = at_text c.complexes name

-- the first row that has a word as its shortcut, with its name
abbrev pub complex_by_shortcut : Cluster → List ℕ → Option (List ℕ × ComplexDef)
complex_by_shortcut c word = find (λ row. text_eq row.1.shortcut word) c.complexes

-- the complex that a word names, by its name or else its shortcut: its name and its row
abbrev pub complex_named : Cluster → List ℕ → Option (List ℕ × ComplexDef)
complex_named c word = elim (complex_at c word) [ Some row ↦ Some (word, row) | None ↦ complex_by_shortcut c word ]

abbrev pub is_consumed : Consumable → Bool
is_consumed Consumable.No = false
is_consumed Consumable.Yes = true
is_consumed Consumable.Job = true

-- whether the table has a name as that of a consumable
abbrev pub has_consumable : Option ComplexDef → Bool
has_consumable None = false
has_consumable (Some row) = is_consumed row.consumable

-- whether a name is a consumable: slots always, a name that is no complex never
abbrev pub is_consumable : Cluster → List ℕ → Bool
is_consumable c name = text_eq name (codes "slots") || has_consumable (complex_at c name)

-- the kind under which a value of a name is printed: a name that is no complex has values by their form
abbrev pub kind_for : Cluster → List ℕ → Kind
kind_for c name = elim (complex_at c name) [ None ↦ Kind.Int | Some complex ↦ complex.kind ]

-- name=value
abbrev pub pair_text : Cluster → List ℕ × Value → List ℕ
pair_text c pair = pair.0 ++ codes "=" ++ value_text (kind_for c pair.0) pair.1
