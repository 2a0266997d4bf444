-- A printed table of complexes reads back, in place of the whole table.
use Rattle.std.proofs.Common.{◌≡◌, ℕ, ◌&&◌, ◌||◌, Bool, true, false, not, if◌then◌else◌, nat_lt, List, [], ◌∷◌, ◌++◌, length, map, flat_map, fold, Option, Some, None, is_none, unwrap_or, option_map, IfSome, refl, sym, ap, ◌∙◌, subst, append_assoc, append-nil, Ordering, Less, Equal, Greater}
use Rattle.std.specs.List.{list_all}
use Rattle.std.specs.Ordering.{match_ordering, ordering_reverse, is_eq}
use Rattle.std.proofs.lemmas.Bool.{and_parts}
use Rattle.std.proofs.lemmas.Cmp.{nat_list_cmp_total}
use Rattle.std.proofs.lemmas.Map.Lookups.{exact_bytes}
use Rattle.std.proofs.lemmas.Map.Text.{is_eq-slice_cmp}
use Rattle.ge_base.specs.declared.refusal.Refusal.{Refusal}
use Rattle.ge_base.specs.declared.refusal.Refusal.TheVariants.{BadValue, Limit}
use Rattle.ge_collections.specs.Keyed.{text_cmp, text_eq, put_text}
use Rattle.ge_model_rows.specs.ClusterRows.{Cluster}
use Rattle.ge_model_rows.specs.EntryRows.{Item, ObjectKind}
use Rattle.ge_model_rows.specs.ValueRows.{Value, Kind, ComplexDef, infinity}
use Rattle.ge_model_grammar.specs.Names.{is_name}
use Rattle.ge_model_rows.specs.Faults.{when}
use Rattle.ge_model_rows.specs.Pieces.{is_one_of}
use Rattle.ge_model_rows.specs.Values.{value_of}
use Rattle.ge_model_grammar.specs.Lines.{is_plain_line, text_lines, read_after, read_each}
use Rattle.ge_model_grammar.specs.declared.Body.{Body}
use Rattle.ge_model_grammar.specs.declared.ComplexLine.{ComplexLine}
use Rattle.ge_model_grammar.specs.declared.Body.TheVariants.{ComplexRows}
use Rattle.ge_model_grammar.specs.Bodies.{complex_line, complex_body, body_lines, body_of}
use Rattle.ge_model_config.specs.Complexes.{fits_use, older_complex, kind_in, relop_in, consumable_in, urgency_read, complex_row, row_faults, put_complex, are_distinct, names_of_complex, use_faults, complexes_item, printed_complex as printed_line}
use Rattle.ge_model_config.specs.Printing.{printed}
use Rattle.ge_model_config.specs.Reading.{item_of}
use Rattle.ge_model_config.proofs.ReadBackTables.{AllAbove, Rises, above_put, above_more, put_behind}
use Rattle.ge_model_config.proofs.ReadBackBodies.{AreLines, AreWhole, text_of_lines, lines_back}
use Rattle.ge_model_config.proofs.ReadBackNames.{both_empty, holds_unless}
use Rattle.ge_model_config.proofs.ReadBackNumbers.{in_range}
use Rattle.ge_model_config.proofs.ReadBackValues.{FitsKind, value_fits}
use Rattle.ge_model_config.proofs.ReadBackRows.{IsComplex, words_of, row_line_back, row_back, row_accepted}
use Rattle.ge_model_config.proofs.ReadBackRowLines.{row_line, row_whole}

-- rows by rising name
abbrev pub AreComplexes : List (List ℕ × ComplexDef) → Type 0
AreComplexes [] = Unit {0}
AreComplexes (row ∷ rows) = IsComplex row.0 row.1 × AllAbove row.0 rows × AreComplexes rows

-- ---- the body

rows_read : (so_far : List ComplexLine) (rows : List (List ℕ × ComplexDef)) → AreComplexes rows → read_after complex_line so_far (map printed_line rows) ≡ Some (so_far ++ map words_of rows)
rows_read so_far [] all = ap (λ z. Some z) (sym (append-nil so_far))
rows_read so_far (row ∷ rows) (is, above, all) =
    ap (λ (z : Option ComplexLine). elim z as (λ x. Option (List ComplexLine)) [ None ↦ None | Some y ↦ read_after complex_line (so_far ++ y ∷ []) (map printed_line rows) ]) (row_line_back row is)
    ∙ rows_read (so_far ++ words_of row ∷ []) rows all
    ∙ ap (λ z. Some z) (append_assoc so_far (words_of row ∷ []) (map words_of rows))

lines_are : (rows : List (List ℕ × ComplexDef)) → AreComplexes rows → AreLines (map printed_line rows)
lines_are [] all = tt
lines_are (row ∷ rows) (is, above, all) = (row_line row is, lines_are rows all)

lines_whole : (ended : Bool) (rows : List (List ℕ × ComplexDef)) → AreWhole ended (map printed_line rows)
lines_whole ended [] = tt
lines_whole ended (row ∷ []) = λ h. row_whole row
lines_whole ended (row ∷ next ∷ rows) = (row_whole row, lines_whole ended (next ∷ rows))

-- the printed lines of a table are read to its words
pub table_parsed : (rows : List (List ℕ × ComplexDef)) (ended : Bool) → AreComplexes rows → body_of ObjectKind.Complexes (text_of_lines ended (map printed_line rows)) ≡ Some (ComplexRows (map words_of rows))
unfolding body_of complex_body
table_parsed [] true all = refl
table_parsed [] false all = refl
table_parsed (row ∷ rows) ended all =
    lines_back ObjectKind.Complexes (printed_line row) (map printed_line rows) ended (lines_are (row ∷ rows) all) (lines_whole ended (row ∷ rows))
    ∙ ap (option_map ComplexRows) (rows_read [] (row ∷ rows) all)

-- ---- the table

pub complexes_rise : (table : List (List ℕ × ComplexDef)) → AreComplexes table → Rises table
complexes_rise [] all = tt
complexes_rise (row ∷ rows) (is, above, all) = (above, complexes_rise rows all)

middle_is : (front : List (List ℕ × ComplexDef)) (row : List ℕ × ComplexDef) (rows : List (List ℕ × ComplexDef)) → AreComplexes (front ++ row ∷ rows) → IsComplex row.0 row.1
middle_is [] row rows all = all.0
middle_is (first ∷ front) row rows all = middle_is front row rows all.2

rows_put : (c : Cluster) (front rows : List (List ℕ × ComplexDef)) → AreComplexes (front ++ rows) → fold (put_complex c) front (map words_of rows) ≡ front ++ rows
rows_put c front [] all = sym (append-nil front)
rows_put c front (row ∷ rows) all =
    ap (λ d. fold (put_complex c) (put_text front row.0 d) (map words_of rows)) (row_back c row (middle_is front row rows all))
    ∙ ap (λ table. fold (put_complex c) table (map words_of rows)) (put_behind front row rows (complexes_rise (front ++ row ∷ rows) all))
    ∙ rows_put c (front ++ row ∷ []) rows (subst AreComplexes (sym (append_assoc front (row ∷ []) rows)) all)
    ∙ append_assoc front (row ∷ []) rows

rows_accepted : (c : Cluster) (rows : List (List ℕ × ComplexDef)) → AreComplexes rows → flat_map (row_faults c) (map words_of rows) ≡ []
rows_accepted c [] all = refl
rows_accepted c (row ∷ rows) (is, above, all) = λ i. row_accepted c row is i ++ rows_accepted c rows all i

-- names that rise are distinct
less_differs : (low high : List ℕ) → text_cmp low high ≡ Less → text_eq low high ≡ false
less_differs low high less = sym (is_eq-slice_cmp low high) ∙ ap is_eq less

above_differs : (low : List ℕ) (rows : List (List ℕ × ComplexDef)) → AllAbove low rows → is_one_of low (map (λ line. line.name) (map words_of rows)) ≡ false
above_differs low [] all = refl
above_differs low (row ∷ rows) (first, all) = λ i. less_differs low row.0 first i || above_differs low rows all i

names_differ : (rows : List (List ℕ × ComplexDef)) → AreComplexes rows → are_distinct (map (λ line. line.name) (map words_of rows)) ≡ true
names_differ [] all = refl
names_differ (row ∷ rows) (is, above, all) = λ i. not (above_differs row.0 rows above i) && names_differ rows all i

-- ---- the law

-- a table that is read without a refusal
pub record IsTable (c : Cluster) (table : List (List ℕ × ComplexDef)) : Type 0 where
  pub rows : AreComplexes table
  pub words : when (not (are_distinct (flat_map names_of_complex table))) BadValue ≡ []
  pub used : flat_map (use_faults c table) c.complexes ≡ []
  pub few : when (nat_lt 1024 (length table)) Limit ≡ []

-- a table is printed as it is read, and given in place of the whole table it is refused for nothing
pub record TableReadsBack (c : Cluster) (table : List (List ℕ × ComplexDef)) (ended : Bool) : Type 0 where
  pub body : Body
  pub parsed : body_of ObjectKind.Complexes (text_of_lines ended (printed c (Item.Complexes table))) ≡ Some body
  pub again : item_of c ObjectKind.Complexes false body ≡ (Item.Complexes table, [])

pub table_back : (c : Cluster) (table : List (List ℕ × ComplexDef)) → IsTable c table → (ended : Bool) → TableReadsBack c table ended
unfolding printed item_of complexes_item
table_back c table is ended = record {
  body = ComplexRows (map words_of table);
  parsed = table_parsed table ended is.rows;
  again =
      ap (λ rows. (
        Item.Complexes rows,
        flat_map (row_faults c) lines ++ when (not (are_distinct (map (λ line. line.name) lines))) BadValue ++ when (not (are_distinct (flat_map names_of_complex rows))) BadValue
            ++ flat_map (use_faults c rows) c.complexes ++ when (nat_lt 1024 (length rows)) Limit,
      )) (rows_put c [] table is.rows)
      ∙ (λ i. (Item.Complexes table, rows_accepted c table is.rows i ++ when (not (names_differ table is.rows i)) BadValue ++ is.words i ++ is.used i ++ is.few i));
}
  where
    lines : List ComplexLine
    lines = map words_of table

-- ---- what is read

-- a value that is there fits its kind
fallback_fits : (k : Kind) (found : Option Value) (old : Value) → IfSome found (FitsKind k) → when (is_none found) BadValue ≡ [] → FitsKind k (unwrap_or found old)
fallback_fits k None old fits some = absurd (let h : BadValue ∷ [] ≡ [] = some in cc)
fallback_fits k (Some value) old fits some = fits

-- a row that is read without a refusal
row_read : (c : Cluster) (line : ComplexLine) → row_faults c line ≡ [] → IsComplex line.name (complex_row c line)
row_read c line none =
    let five = both_empty _ (urgency_read line).1 none in
    let four = both_empty _ (when (not (fits_use line.name (kind_in c line) (relop_in c line) (consumable_in line))) BadValue) five.0 in
    let three = both_empty _ (when (is_none (value_of (kind_in c line) line.fallback)) BadValue) four.0 in
    let two = both_empty _ _ three.0 in
    let one = both_empty (when (not (is_name line.name && is_name line.shortcut)) BadValue) _ two.0 in
    let names = and_parts (is_name line.name) (is_name line.shortcut) (holds_unless (is_name line.name && is_name line.shortcut) BadValue one.0) in
    record {
      named = names.0;
      short = names.1;
      fallback = fallback_fits (kind_in c line) (value_of (kind_in c line) line.fallback) (older_complex c line).fallback (value_fits (kind_in c line) line.fallback) three.1;
      urgency = in_range 0 infinity (value_of Kind.Double line.urgency) five.1;
      compared = holds_unless (fits_use line.name (kind_in c line) (relop_in c line) (consumable_in line)) BadValue four.1;
    }

put_complexes : (name : List ℕ) (d : ComplexDef) (rows : List (List ℕ × ComplexDef)) → IsComplex name d → AreComplexes rows → AreComplexes (put_text rows name d)
put_complexes name d [] is all = (is, tt, tt)
put_complexes name d (row ∷ rows) is (first, above, all) = by (text_cmp name row.0) refl (put_complexes name d rows is all)
  where
    by : (order : Ordering) → text_cmp name row.0 ≡ order → AreComplexes (put_text rows name d)
        → AreComplexes (match_ordering order ((name, d) ∷ row ∷ rows) ((row.0, d) ∷ rows) (row ∷ put_text rows name d))
    by Less less again = (is, (less, above_more name row.0 rows less above), (first, above, all))
    by Equal same again = (subst (λ z. IsComplex z d) (exact_bytes name row.0 same) is, above, all)
    by Greater more again = (first, above_put row.0 name d rows (nat_list_cmp_total.antisymm row.0 name ∙ ap ordering_reverse more) above, again)

pub rows_are : (c : Cluster) (table : List (List ℕ × ComplexDef)) (lines : List ComplexLine) → AreComplexes table → flat_map (row_faults c) lines ≡ [] → AreComplexes (fold (put_complex c) table lines)
rows_are c table [] all none = all
rows_are c table (line ∷ lines) all none =
    let parts = both_empty (row_faults c line) (flat_map (row_faults c) lines) none in
    rows_are c (put_complex c table line) lines (put_complexes line.name (complex_row c line) table (row_read c line parts.0) all) parts.1

abbrev pub IsTableItem : Cluster → Item → Type 0
IsTableItem c (Item.Complexes table) = IsTable c table
IsTableItem c _ = ⊥

-- that a body is rows, where there is one
abbrev AreRows : Option Body → Type 0
AreRows None = Unit {0}
AreRows (Some (ComplexRows rows)) = Unit {0}
AreRows (Some _) = ⊥

are_rows : (text : List ℕ) → AreRows (body_of ObjectKind.Complexes text)
unfolding body_of complex_body
are_rows text = by (list_all is_plain_line (text_lines text))
  where
    read : (lines : Option (List ComplexLine)) → AreRows (option_map ComplexRows lines)
    read None = tt
    read (Some lines) = tt

    by : (plain : Bool) → AreRows (if plain then complex_body (body_lines text) else None)
    by true = read (read_each complex_line (body_lines text))
    by false = tt

-- what is read without a refusal is a table, where the table that it is added to is one; in place of the whole table it always is
pub complexes_read : (c : Cluster) (adding : Bool) (text : List ℕ) (body : Body) (thing : Item) → (adding ≡ true → AreComplexes c.complexes) → body_of ObjectKind.Complexes text ≡ Some body
    → item_of c ObjectKind.Complexes adding body ≡ (thing, []) → IsTableItem c thing
unfolding item_of complexes_item
complexes_read c adding text body thing known parsed is = subst TableFrom is (by body (subst AreRows parsed (are_rows text))) refl
  where
    TableFrom : Item × List Refusal → Type 0
    TableFrom read = read.1 ≡ [] → IsTableItem c read.0

    before : (adding : Bool) → (adding ≡ true → AreComplexes c.complexes) → AreComplexes (if adding then c.complexes else [])
    before true known = known refl
    before false known = tt

    rows : (lines : List ComplexLine) → TableFrom (item_of c ObjectKind.Complexes adding (ComplexRows lines))
    rows lines none =
        let table = fold (put_complex c) (if adding then c.complexes else []) lines in
        let five = both_empty _ (when (nat_lt 1024 (length table)) Limit) none in
        let four = both_empty _ (flat_map (use_faults c table) c.complexes) five.0 in
        let three = both_empty _ (when (not (are_distinct (flat_map names_of_complex table))) BadValue) four.0 in
        let two = both_empty (flat_map (row_faults c) lines) _ three.0 in
        record { rows = rows_are c (if adding then c.complexes else []) lines (before adding known) two.0; words = three.1; used = four.1; few = five.1 }

    by : (body : Body) → AreRows (Some body) → TableFrom (item_of c ObjectKind.Complexes adding body)
    by (ComplexRows lines) fits = rows lines
    by _ fits = absurd fits

-- a table of complexes that was read without a refusal reads back
pub complexes_read_back : (c : Cluster) (adding : Bool) (text : List ℕ) (body : Body) (table : List (List ℕ × ComplexDef)) → (adding ≡ true → AreComplexes c.complexes) → body_of ObjectKind.Complexes text ≡ Some body
    → item_of c ObjectKind.Complexes adding body ≡ (Item.Complexes table, []) → (ended : Bool) → TableReadsBack c table ended
complexes_read_back c adding text body table known parsed is = table_back c table (complexes_read c adding text body (Item.Complexes table) known parsed is)
