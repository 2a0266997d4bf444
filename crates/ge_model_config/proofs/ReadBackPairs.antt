-- Lists of name=value that are printed are read to their table, and what is read is such a table.
use Rattle.std.proofs.Common.{◌≡◌, ℕ, Bool, true, false, if◌then◌else◌, List, [], ◌∷◌, fold, Option, Some, None, IfSome, refl, sym, ap, ◌∙◌, subst, Ordering, Less, Equal, Greater}
use Rattle.std.specs.Ordering.{match_ordering, ordering_reverse}
use Rattle.std.proofs.lemmas.Cmp.{nat_list_cmp_total}
use Rattle.std.proofs.lemmas.Map.Lookups.{exact_bytes}
use Rattle.ge_base.specs.declared.refusal.Refusal.TheVariants.{BadValue}
use Rattle.ge_collections.specs.Keyed.{text_cmp, put_text}
use Rattle.ge_model_rows.specs.ClusterRows.{Cluster}
use Rattle.ge_model_rows.specs.ValueRows.{Value, ComplexDef}
use Rattle.ge_model_rows.specs.Pieces.{has_byte, before_byte, behind_byte, list_items}
use Rattle.ge_model_rows.specs.Values.{value_of}
use Rattle.ge_model_rows.specs.Complexes.{complex_at}
use Rattle.ge_model_config.specs.Cited.{Read}
use Rattle.ge_model_config.specs.Pairs.{any_fits, beside, value_for, pair_read, item_read, put_value, with_pair, values_read}
use Rattle.ge_model_config.proofs.ReadBackTables.{AllAbove, above_put, above_more}
use Rattle.ge_model_config.proofs.ReadBackValues.{FitsKind, value_fits}

-- ---- tables of values

-- a value of a complex that is there
abbrev pub RowFits : Option ComplexDef → Value → Type 0
RowFits None value = ⊥
RowFits (Some complex) value = FitsKind complex.kind value

-- values of complexes that are there, by rising name
abbrev pub AreValues : Cluster → List (List ℕ × Value) → Type 0
AreValues c [] = Unit {0}
AreValues c (row ∷ rows) = RowFits (complex_at c row.0) row.1 × AllAbove row.0 rows × AreValues c rows

-- ---- what is read

-- a value put in
put_values : (c : Cluster) (name : List ℕ) (value : Value) (rows : List (List ℕ × Value)) → RowFits (complex_at c name) value → AreValues c rows → AreValues c (put_text rows name value)
put_values c name value [] fits all = (fits, tt, tt)
put_values c name value (row ∷ rows) fits (first, above, all) = by (text_cmp name row.0) refl (put_values c name value rows fits all)
  where
    by : (order : Ordering) → text_cmp name row.0 ≡ order → AreValues c (put_text rows name value)
        → AreValues c (match_ordering order ((name, value) ∷ row ∷ rows) ((row.0, value) ∷ rows) (row ∷ put_text rows name value))
    by Less is again = (fits, (is, above_more name row.0 rows is above), (first, above, all))
    by Equal is again = (subst (λ z. RowFits (complex_at c z) value) (exact_bytes name row.0 is) fits, above, all)
    by Greater is again = (first, above_put row.0 name value rows (nat_list_cmp_total.antisymm row.0 name ∙ ap ordering_reverse is) above, again)

-- what an item gives is a value of a complex that is there
abbrev IsRow : Cluster → Option (List ℕ × Value) → Type 0
IsRow c row = IfSome row (λ pair. RowFits (complex_at c pair.0) pair.1)

value_row : (c : Cluster) (name text : List ℕ) (found : Option ComplexDef) → complex_at c name ≡ found → IsRow c (value_for any_fits name text found).0
value_row c name text None is = tt
value_row c name text (Some complex) is = by (value_of complex.kind text) (value_fits complex.kind text)
  where
    by : (value : Option Value) → IfSome value (FitsKind complex.kind) → IsRow c (beside name value)
    by None fits = tt
    by (Some value) fits = subst (λ z. RowFits z value) (sym is) fits

item_row : (c : Cluster) (item : List ℕ) → IsRow c (item_read c any_fits item).0
item_row c item = by (has_byte 61 item)
  where
    Fits : Read (Option (List ℕ × Value)) → Type 0
    Fits read = IsRow c read.0

    by : (parted : Bool) → Fits (if parted then pair_read c any_fits (before_byte 61 item, behind_byte 61 item) else (None, BadValue ∷ []))
    by true = value_row c (before_byte 61 item) (behind_byte 61 item) (complex_at c (before_byte 61 item)) refl
    by false = tt

put_row : (c : Cluster) (table : List (List ℕ × Value)) (row : Option (List ℕ × Value)) → IsRow c row → AreValues c table → AreValues c (put_value table row)
put_row c table None fits all = all
put_row c table (Some row) fits all = put_values c row.0 row.1 table fits all

items_values : (c : Cluster) (read : Read (List (List ℕ × Value))) (items : List (List ℕ)) → AreValues c read.0 → AreValues c (fold (with_pair c any_fits) read items).0
items_values c read [] all = all
items_values c read (item ∷ items) all = items_values c (with_pair c any_fits read item) items (put_row c read.0 (item_read c any_fits item).0 (item_row c item) all)

-- what is read is a table of values
pub values_are : (c : Cluster) (text : List ℕ) → AreValues c (values_read c any_fits text).0
values_are c text = items_values c ([], []) (list_items text) tt
