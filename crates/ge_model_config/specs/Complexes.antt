-- The table of complexes read from a body and printed (complex).
use Rattle.std.specs.Prelude.{ℕ, Bool, true, false, not, ◌&&◌, ◌||◌, nat_lt, if◌then◌else◌, List, [], ◌∷◌, ◌++◌, length, fold, map, flat_map, Option, Some, None, is_none, unwrap_or, codes}
use Rattle.ge_collections.specs.Keyed.{text_eq, at_text, put_text}
use Rattle.ge_base.specs.declared.refusal.Refusal.{Refusal}
use Rattle.ge_base.specs.declared.refusal.Refusal.TheVariants.{InUse, BadValue, Limit}
use Rattle.ge_limits.specs.Limits as limit
use Rattle.ge_model_rows.specs.ClusterRows.{Cluster}
use Rattle.ge_model_rows.specs.EntryRows.{Item}
use Rattle.ge_model_rows.specs.ValueRows.{Amount, Kind, Relop, Requestable, Consumable, ComplexDef}
use Rattle.ge_model_rows.specs.ValueRows.{infinity}
use Rattle.ge_model_grammar.specs.Names.{is_name}
use Rattle.ge_model_rows.specs.Faults.{when}
use Rattle.ge_model_rows.specs.Pieces.{is_one_of, joined_by}
use Rattle.ge_model_rows.specs.Values.{value_of, is_number_kind, value_text, fixed_text}
use Rattle.ge_model_rows.specs.Complexes.{complex_at, is_consumed}
use Rattle.ge_model_grammar.specs.declared.ComplexLine.{ComplexLine}
use Rattle.ge_model_config.specs.Cited.{Read, number_read, has_name}
use Rattle.ge_model_config.specs.Columns.{kind_of, is_same_kind, relop_of, is_relop, requestable_of, consumable_of, kind_text, relop_text, requestable_text, consumable_text}
use Rattle.ge_model_config.specs.Used.{is_complex_used, rule_where}

-- a complex that nothing is known of
abbrev pub unknown_complex : ComplexDef
unknown_complex = record {
  shortcut = [];
  kind = Kind.Int;
  relop = Relop.Eq;
  requestable = Requestable.No;
  consumable = Consumable.Yes;
  fallback = Amount 0;
  urgency = 0;
}

-- flags and words are compared by == and != alone, and a consumable is an amount that is compared by <=
abbrev pub fits_relop : Kind → Relop → Consumable → Bool
fits_relop k r Consumable.No = is_number_kind k || is_relop r Relop.Eq || is_relop r Relop.Ne
fits_relop k r Consumable.Yes = is_number_kind k && is_relop r Relop.Le
fits_relop k r Consumable.Job = is_number_kind k && is_relop r Relop.Le

-- whether a complex is consumed once for each job
abbrev pub is_for_jobs : Consumable → Bool
is_for_jobs Consumable.No = false
is_for_jobs Consumable.Yes = false
is_for_jobs Consumable.Job = true

-- a row's use fits its kind, operator and name: slots are counted by themselves, never once for each job
abbrev pub fits_use : List ℕ → Kind → Relop → Consumable → Bool
fits_use name k r consumed = fits_relop k r consumed && not (text_eq name (codes "slots") && is_for_jobs consumed)

-- what is known of a complex before its row is read
abbrev pub older_complex : Cluster → ComplexLine → ComplexDef
older_complex c line = unwrap_or (complex_at c line.name) unknown_complex

-- the kind that a row gives: a word that can't be read changes nothing
abbrev pub kind_in : Cluster → ComplexLine → Kind
kind_in c line = unwrap_or (kind_of line.kind) (older_complex c line).kind

-- the operator that a row gives, in the same way
abbrev pub relop_in : Cluster → ComplexLine → Relop
relop_in c line = unwrap_or (relop_of line.relop) (older_complex c line).relop

-- whether a row is consumed: a word that can't be read ends no use
abbrev pub consumable_in : ComplexLine → Consumable
consumable_in line = unwrap_or (consumable_of line.consumable) Consumable.Yes

-- the urgency of a row, a DOUBLE
abbrev pub urgency_read : ComplexLine → Read ℕ
urgency_read line = number_read Kind.Double 0 infinity line.urgency

-- the complex of a row
abbrev pub complex_row : Cluster → ComplexLine → ComplexDef
complex_row c line = record {
  shortcut = line.shortcut;
  kind = kind_in c line;
  relop = relop_in c line;
  requestable = unwrap_or (requestable_of line.requestable) (older_complex c line).requestable;
  consumable = consumable_in line;
  fallback = unwrap_or (value_of (kind_in c line) line.fallback) (older_complex c line).fallback;
  urgency = (urgency_read line).0;
}

-- what refuses a row: its names, a word of its columns, its values, or a use that its kind, operator or name doesn't have
abbrev pub row_faults : Cluster → ComplexLine → List Refusal
row_faults c line =
    when (not (is_name line.name && is_name line.shortcut)) BadValue
    ++ when (is_none (kind_of line.kind) || is_none (relop_of line.relop)) BadValue
    ++ when (is_none (requestable_of line.requestable) || is_none (consumable_of line.consumable)) BadValue
    ++ when (is_none (value_of (kind_in c line) line.fallback)) BadValue
    ++ when (not (fits_use line.name (kind_in c line) (relop_in c line) (consumable_in line))) BadValue
    ++ (urgency_read line).1

-- a table with the complex of a row
abbrev pub put_complex : Cluster → List (List ℕ × ComplexDef) → ComplexLine → List (List ℕ × ComplexDef)
put_complex c table line = put_text table line.name (complex_row c line)

-- whether no text comes twice
abbrev pub are_distinct : List (List ℕ) → Bool
are_distinct [] = true
are_distinct (text ∷ texts) = not (is_one_of text texts) && are_distinct texts

-- the words that name a complex: its name, and its shortcut where that is another
abbrev pub names_of_complex : List ℕ × ComplexDef → List (List ℕ)
names_of_complex row = if text_eq row.0 row.1.shortcut then row.0 ∷ [] else row.0 ∷ row.1.shortcut ∷ []

-- whether a complex is taken away, changes in type, or stops being a consumable while a rule limits it
abbrev pub breaks_use : Cluster → List ℕ → ComplexDef → Option ComplexDef → Bool
breaks_use c name old None = true
breaks_use c name old (Some new) =
    not (is_same_kind old.kind new.kind)
    || is_consumed old.consumable && not (is_consumed new.consumable) && rule_where c (λ rule. has_name rule.limits name)

-- a used complex may do none of these
abbrev pub use_faults : Cluster → List (List ℕ × ComplexDef) → List ℕ × ComplexDef → List Refusal
use_faults c table old = when (breaks_use c old.0 old.1 (at_text table old.0) && is_complex_used c old.0) InUse

-- the table of complexes: rows added or put in place of others, or the whole table anew; there are at most 1,024
unfoldable pub complexes_item : Cluster → Bool → List ComplexLine → Read Item
complexes_item c adding lines =
    let table = fold (put_complex c) (if adding then c.complexes else []) lines in (
      Item.Complexes table,
      flat_map (row_faults c) lines
          ++ when (not (are_distinct (map (λ line. line.name) lines))) BadValue
          ++ when (not (are_distinct (flat_map names_of_complex table))) BadValue
          ++ flat_map (use_faults c table) c.complexes
          ++ when (nat_lt limit.complexes (length table)) Limit,
    )

-- a row of the table of complexes: eight words (complex)
abbrev pub printed_complex : List ℕ × ComplexDef → List ℕ
printed_complex row =
    joined_by (codes " ") (row.0 ∷ row.1.shortcut ∷ kind_text row.1.kind ∷ relop_text row.1.relop ∷ requestable_text row.1.requestable
    ∷ consumable_text row.1.consumable ∷ value_text row.1.kind row.1.fallback ∷ fixed_text row.1.urgency ∷ [])
