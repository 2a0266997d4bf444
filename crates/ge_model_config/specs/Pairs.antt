-- Lists of name=value over the complexes: complex_values, load_thresholds, the resources of a rule.
use Rattle.std.specs.Prelude.{ℕ, Bool, true, not, if◌then◌else◌, List, [], ◌∷◌, ◌++◌, fold, Option, Some, None, is_none, map}
use Rattle.ge_collections.specs.Keyed.{put_text}
use Rattle.ge_base.specs.declared.refusal.Refusal.TheVariants.{NoSuchObject, BadValue}
use Rattle.ge_model_rows.specs.ClusterRows.{Cluster}
use Rattle.ge_model_rows.specs.ValueRows.{Value, ComplexDef}
use Rattle.ge_model_rows.specs.Faults.{when}
use Rattle.ge_model_rows.specs.Pieces.{list_items, has_byte, before_byte, behind_byte, list_text}
use Rattle.ge_model_rows.specs.Values.{value_of, is_number_kind}
use Rattle.ge_model_rows.specs.Complexes.{complex_at, pair_text}
use Rattle.ge_model_config.specs.Cited.{Read}

-- which complexes fit, by name and row
abbrev pub Fits : Type 0
Fits = List ℕ → ComplexDef → Bool

-- every complex may be given a value
abbrev pub any_fits : Fits
any_fits name complex = true

-- a threshold needs a number (queue_conf, load_thresholds)
abbrev pub number_fits : Fits
number_fits name complex = is_number_kind complex.kind

-- a name beside its value, if there is one
abbrev pub beside : List ℕ → Option Value → Option (List ℕ × Value)
beside name None = None
beside name (Some value) = Some (name, value)

-- the value of a name, whose complex has to be there and to fit, and whose text has to have a value of its kind
abbrev pub value_for : Fits → List ℕ → List ℕ → Option ComplexDef → Read (Option (List ℕ × Value))
value_for fits name text None = (None, NoSuchObject ∷ [])
value_for fits name text (Some complex) =
    (beside name (value_of complex.kind text), when (not (fits name complex)) BadValue ++ when (is_none (value_of complex.kind text)) BadValue)

-- a name and the text of its value
abbrev pub pair_read : Cluster → Fits → List ℕ × List ℕ → Read (Option (List ℕ × Value))
pair_read c fits pair = value_for fits pair.0 pair.1 (complex_at c pair.0)

-- an item of a list: name=value
abbrev pub item_read : Cluster → Fits → List ℕ → Read (Option (List ℕ × Value))
item_read c fits item = if has_byte 61 item then pair_read c fits (before_byte 61 item, behind_byte 61 item) else (None, BadValue ∷ [])

-- a table with the value of a name, where there is one: of a name that comes twice the last counts
abbrev pub put_value : List (List ℕ × Value) → Option (List ℕ × Value) → List (List ℕ × Value)
put_value table None = table
put_value table (Some pair) = put_text table pair.0 pair.1

-- one more value beside those that were read
abbrev pub with_value : Read (List (List ℕ × Value)) → Read (Option (List ℕ × Value)) → Read (List (List ℕ × Value))
with_value values value = (put_value values.0 value.0, values.1 ++ value.1)

-- one more item of a list
abbrev pub with_pair : Cluster → Fits → Read (List (List ℕ × Value)) → List ℕ → Read (List (List ℕ × Value))
with_pair c fits values item = with_value values (item_read c fits item)

-- a list of name=value
abbrev pub values_read : Cluster → Fits → List ℕ → Read (List (List ℕ × Value))
values_read c fits text = fold (with_pair c fits) ([], []) (list_items text)

-- a list of name=value, by name
abbrev pub values_text : Cluster → List (List ℕ × Value) → List ℕ
values_text c table = list_text (map (pair_text c) table)
