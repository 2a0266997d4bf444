-- What refuses rows of complexes: the names and words of one, and all of them with the table that they make.
use Rattle.std.specs.Prelude.{ℕ, not, ◌&&◌, ◌||◌, nat_lt, List, ◌++◌, length, map, flat_map, is_none}
use Rattle.ge_base.specs.declared.refusal.Refusal.{Refusal}
use Rattle.ge_base.specs.declared.refusal.Refusal.TheVariants.{BadValue, Limit}
use Rattle.ge_limits.specs.Limits as limit
use Rattle.ge_model_rows.specs.ClusterRows.{Cluster}
use Rattle.ge_model_rows.specs.ValueRows.{ComplexDef}
use Rattle.ge_model_grammar.specs.Names.{is_name}
use Rattle.ge_model_rows.specs.Faults.{when}
use Rattle.ge_model_grammar.specs.declared.ComplexLine.{ComplexLine}
use Rattle.ge_model_config.specs.Columns.{kind_of, relop_of, requestable_of, consumable_of}
use Rattle.ge_model_config.specs.Complexes.{row_faults, are_distinct, names_of_complex, use_faults}

-- what needs no look at the cluster
abbrev pub word_faults : ComplexLine → List Refusal
word_faults line =
    when (not (is_name line.name && is_name line.shortcut)) BadValue
    ++ when (is_none (kind_of line.kind) || is_none (relop_of line.relop)) BadValue
    ++ when (is_none (requestable_of line.requestable) || is_none (consumable_of line.consumable)) BadValue

-- rows, and the table that they make
abbrev pub table_faults : Cluster → List ComplexLine → List (List ℕ × ComplexDef) → List Refusal
table_faults c lines table =
    flat_map (row_faults c) lines
    ++ when (not (are_distinct (map (λ line. line.name) lines))) BadValue
    ++ when (not (are_distinct (flat_map names_of_complex table))) BadValue
    ++ flat_map (use_faults c table) c.complexes
    ++ when (nat_lt limit.complexes (length table)) Limit
