-- The name of an object that a body configures.
use Rattle.std.specs.Prelude.{ℕ, Bool, not, ◌&&◌, if◌then◌else◌, nat_le, List, ◌++◌, length}
use Rattle.std.specs.List.{list_all}
use Rattle.ge_collections.specs.Keyed.{text_eq}
use Rattle.ge_base.specs.declared.refusal.Refusal.{Refusal}
use Rattle.ge_base.specs.declared.refusal.Refusal.TheVariants.{NoSuchObject, Exists, BadValue, Limit}
use Rattle.ge_model_rows.specs.EntryRows.{ObjectKind}
use Rattle.ge_model_grammar.specs.Attributes.{none_attributes}
use Rattle.ge_model_grammar.specs.Configuring.{is_name_of}
use Rattle.ge_model_rows.specs.Faults.{when}
use Rattle.ge_model_config.specs.Cited.{given, has_name, none_text}

-- a new object takes a name that is free, and a place where its table has one
abbrev pub added_faults : {X : Type 0} → ℕ → List (List ℕ × X) → List ℕ → List Refusal
added_faults most table name = when (has_name table name) Exists ++ when (not (has_name table name) && nat_le most (length table)) Limit

-- an object to be changed has to be there
abbrev pub changed_faults : {X : Type 0} → List (List ℕ × X) → List ℕ → List Refusal
changed_faults table name = when (not (has_name table name)) NoSuchObject

-- the name of an object, of the form that its kind has, in a table that holds so many
abbrev pub name_faults : {X : Type 0} → ObjectKind → ℕ → List (List ℕ × X) → Bool → List ℕ → List Refusal
name_faults kind most table adding name =
    when (not (is_name_of kind name)) BadValue ++ (if adding then added_faults most table name else changed_faults table name)

-- whether a body has an attribute, if at all, as NONE
abbrev pub is_left_out : List (List ℕ × List ℕ) → List ℕ → Bool
is_left_out values attribute = text_eq (given values attribute none_text) none_text

-- what this system doesn't have may be NONE alone
abbrev pub absent_faults : ObjectKind → List (List ℕ × List ℕ) → List Refusal
absent_faults kind values = when (not (list_all (is_left_out values) (none_attributes kind))) BadValue
