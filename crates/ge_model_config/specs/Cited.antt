-- Values of a body as they are read, each beside the refusals whose conditions hold, and as they are printed. Every part is read, also where another one is refused.
use Rattle.std.specs.Prelude.{ℕ, Bool, not, ◌||◌, List, [], ◌∷◌, Option, Some, None, Result, Ok, Err, is_some, unwrap_or, if◌then◌else◌, codes, ◌++◌}
use Rattle.std.specs.List.{list_all}
use Rattle.std.specs.Int.{is_in_range}
use Rattle.ge_collections.specs.Keyed.{at_text}
use Rattle.ge_base.specs.declared.refusal.Refusal.{Refusal}
use Rattle.ge_base.specs.declared.refusal.Refusal.TheVariants.{NoSuchObject, BadValue}
use Rattle.ge_model_rows.specs.ClusterRows.{Cluster}
use Rattle.ge_model_rows.specs.ValueRows.{Value, Kind, Amount}
use Rattle.ge_model_rows.specs.Faults.{when, first_fault}
use Rattle.ge_model_rows.specs.Pieces.{list_items}
use Rattle.ge_model_rows.specs.Values.{value_of, amount_in, value_text}
use Rattle.ge_model_grammar.specs.Bodies.{attribute_in}

-- a value, and the refusals whose conditions hold: where there is one, nothing comes of the value
abbrev pub Read : Type 0 → Type 0
Read T = T × List Refusal

-- what is answered with a value that was read: the value, or the first of the refusals
abbrev pub answered : {T : Type 0} → Read T → Result T Refusal
answered read = elim (first_fault read.1) [ None ↦ Ok read.0 | Some refusal ↦ Err refusal ]

-- what a body gives an attribute, or its default
abbrev pub given : List (List ℕ × List ℕ) → List ℕ → List ℕ → List ℕ
given values attribute fallback = unwrap_or (attribute_in values attribute) fallback

-- NONE, the empty list
abbrev pub none_text : List ℕ
none_text = codes "NONE"

-- an amount from low to high, where the text has a value
abbrev pub amount_within : ℕ → ℕ → Option Value → Read ℕ
amount_within low high None = (low, BadValue ∷ [])
amount_within low high (Some value) = if is_in_range low high (amount_in value) then (amount_in value, []) else (low, BadValue ∷ [])

-- an amount of a kind, from low to high
abbrev pub number_read : Kind → ℕ → ℕ → List ℕ → Read ℕ
number_read kind low high text = amount_within low high (value_of kind text)

-- whether a table has a name
abbrev pub has_name : {X : Type 0} → List (List ℕ × X) → List ℕ → Bool
has_name table name = is_some (at_text table name)

-- each name that a body cites has to be there
abbrev pub cited : (List ℕ → Bool) → List (List ℕ) → List Refusal
cited is_known names = when (not (list_all is_known names)) NoSuchObject

-- a list of names that have to be there
abbrev pub names_read : (List ℕ → Bool) → List ℕ → Read (List (List ℕ))
names_read is_known text = (list_items text, cited is_known (list_items text))

-- what a hostlist may name: a host, or a group by its name with the at sign (hostgroup)
abbrev pub is_host_or_group : Cluster → List ℕ → Bool
is_host_or_group c name = has_name c.hosts name || has_name c.groups name

-- an attribute, a blank and its value
abbrev pub printed_attribute : List ℕ → List ℕ → List ℕ
printed_attribute attribute value = attribute ++ codes " " ++ value

-- an amount as its kind prints it
abbrev pub number_text : Kind → ℕ → List ℕ
number_text k n = value_text k (Amount n)
