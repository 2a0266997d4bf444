-- A table of values is printed as a list of name=value that is read to it.
use Rattle.std.proofs.Common.{◌≡◌, ℕ, ◌&&◌, ◌||◌, ◌==◌, Bool, true, false, not, if◌then◌else◌, List, [], ◌∷◌, ◌++◌, map, fold, Option, Some, None, is_none, is_some, refl, sym, ap, ◌∙◌, arith, append_assoc, append-nil, subst, codes}
use Rattle.std.specs.List.{list_all}
use Rattle.std.proofs.lemmas.Bool.{and_parts, and_from, eqb-true, true≢false}
use Rattle.std.proofs.lemmas.List.Folds.{list_all-append}
use Rattle.std.proofs.lemmas.Slice.Eq.{bytes_eq-Decides}
use Rattle.ge_base.specs.declared.refusal.Refusal.TheVariants.{BadValue}
use Rattle.ge_collections.specs.Keyed.{text_eq}
use Rattle.ge_model_rows.specs.ClusterRows.{Cluster}
use Rattle.ge_model_rows.specs.ValueRows.{Value, Amount, Flag, Word, Kind, ComplexDef}
use Rattle.ge_model_grammar.specs.Names.{is_name_byte, is_name}
use Rattle.ge_model_rows.specs.Faults.{when}
use Rattle.ge_model_rows.specs.Pieces.{is_empty, has_byte, before_byte, behind_byte}
use Rattle.ge_model_rows.specs.Values.{is_word_byte, value_text}
use Rattle.ge_model_rows.specs.Complexes.{complex_at, pair_text, kind_for}
use Rattle.ge_model_rows.proofs.Digits.{before_it, behind_it, it_is_there}
use Rattle.ge_model_config.specs.Pairs.{any_fits, beside, value_for, pair_read, item_read, put_value, with_pair, values_read, values_text}
use Rattle.ge_model_config.proofs.ReadBackTables.{Rises, put_behind}
use Rattle.ge_model_config.proofs.ReadBackTexts.{is_printing, all_weaker}
use Rattle.ge_model_config.proofs.ReadBackLists.{is_piece_byte, is_piece, is_only_none, item_piece, pieces_back, list_printing}
use Rattle.ge_model_config.proofs.ReadBackNames.{HasNames, name_item, known_passes}
use Rattle.ge_model_config.proofs.ReadBackPrinted.{number_item}
use Rattle.ge_model_config.proofs.ReadBackValues.{FitsKind, FitsText, FitsWord, value_back}
use Rattle.ge_model_config.proofs.ReadBackPairs.{RowFits, AreValues}

-- ---- the bytes of a value

word_byte : (b : ℕ) → is_word_byte b ≡ true → is_piece_byte b ≡ true
word_byte b h = grind arith

pub piece_bytes : (text : List ℕ) → is_piece text ≡ true → list_all is_piece_byte text ≡ true
piece_bytes [] none = refl
piece_bytes (b ∷ text) all = all

amount_piece : (k : Kind) (n : ℕ) → list_all is_piece_byte (value_text k (Amount n)) ≡ true
amount_piece k n = piece_bytes (value_text k (Amount n)) (item_piece (value_text k (Amount n)) (number_item k n))

word_piece : (word : List ℕ) → FitsWord word → list_all is_piece_byte (if is_empty word then codes "NONE" else word) ≡ true
word_piece [] fits = refl
word_piece (b ∷ word) fits =
    ap (λ z. list_all is_piece_byte (if z then codes "NONE" else b ∷ word)) (let some : is_empty (b ∷ word) ≡ false = grind arith in some)
    ∙ all_weaker is_word_byte is_piece_byte word_byte (b ∷ word) (and_parts _ (list_all is_word_byte (b ∷ word)) fits.0).1

text_piece : (k : Kind) (value : Value) → FitsText value → list_all is_piece_byte (value_text k value) ≡ true
text_piece k (Amount n) fits = absurd fits
text_piece k (Flag flag) fits = absurd fits
text_piece k (Word word) fits = word_piece word fits

flag_piece : (flag : Bool) → list_all is_piece_byte (if flag then codes "TRUE" else codes "FALSE") ≡ true
flag_piece true = refl
flag_piece false = refl

pub value_piece : (k : Kind) (value : Value) → FitsKind k value → list_all is_piece_byte (value_text k value) ≡ true
value_piece Kind.Str value fits = text_piece Kind.Str value fits
value_piece Kind.CStr value fits = text_piece Kind.CStr value fits
value_piece Kind.ReStr value fits = text_piece Kind.ReStr value fits
value_piece Kind.Host value fits = text_piece Kind.Host value fits
value_piece Kind.Int (Amount n) fits = amount_piece Kind.Int n
value_piece Kind.Time (Amount n) fits = amount_piece Kind.Time n
value_piece Kind.Memory (Amount n) fits = amount_piece Kind.Memory n
value_piece Kind.Double (Amount n) fits = amount_piece Kind.Double n
value_piece Kind.Bool (Flag flag) fits = flag_piece flag
value_piece _ _ fits = absurd fits

-- ---- a name and its value

-- the kind of a complex that is there
abbrev kind_in : Option ComplexDef → Kind
kind_in None = Kind.Int
kind_in (Some complex) = complex.kind

row_kind : (c : Cluster) (name : List ℕ) → kind_for c name ≡ kind_in (complex_at c name)
row_kind c name = by (complex_at c name)
  where
    by : (found : Option ComplexDef) → elim found as (λ x. Kind) [ None ↦ Kind.Int | Some complex ↦ complex.kind ] ≡ kind_in found
    by None = refl
    by (Some complex) = refl

row_piece : (found : Option ComplexDef) (value : Value) → RowFits found value → list_all is_piece_byte (value_text (kind_in found) value) ≡ true
row_piece None value fits = absurd fits
row_piece (Some complex) value fits = value_piece complex.kind value fits

-- a name that has a value is that of a complex
row_named : (c : Cluster) (row : List ℕ × Value) → HasNames c → RowFits (complex_at c row.0) row.1 → is_name row.0 ≡ true
row_named c row names fits = known_passes is_name c.complexes row.0 names.complexes (by (complex_at c row.0) fits)
  where
    by : (found : Option ComplexDef) → RowFits found row.1 → is_some found ≡ true
    by None fits = absurd fits
    by (Some complex) fits = refl

-- its name, an equals sign and its value
pair_joined : (c : Cluster) (row : List ℕ × Value) → pair_text c row ≡ row.0 ++ 61 ∷ value_text (kind_in (complex_at c row.0)) row.1
pair_joined c row = append_assoc row.0 (codes "=") (value_text (kind_for c row.0) row.1) ∙ ap (λ k. row.0 ++ 61 ∷ value_text k row.1) (row_kind c row.0)

pair_piece : (c : Cluster) (row : List ℕ × Value) → HasNames c → RowFits (complex_at c row.0) row.1 → is_piece (pair_text c row) ≡ true
pair_piece c row names fits = ap is_piece (pair_joined c row) ∙ by row.0 (item_piece row.0 (name_item row.0 (row_named c row names fits)))
  where
    text : List ℕ
    text = value_text (kind_in (complex_at c row.0)) row.1

    by : (name : List ℕ) → is_piece name ≡ true → is_piece (name ++ 61 ∷ text) ≡ true
    by [] none = absurd (true≢false (sym none))
    by (b ∷ name) all = list_all-append is_piece_byte (b ∷ name) (61 ∷ text) ∙ and_from _ _ all (row_piece (complex_at c row.0) row.1 fits)

no_equals : (b : ℕ) → is_name_byte b ≡ true → (b == 61) ≡ false
no_equals b is = by (b == 61) refl
  where
    by : (same : Bool) → (b == 61) ≡ same → same ≡ false
    by true h = absurd (true≢false (sym is ∙ ap is_name_byte (eqb-true b 61 h)))
    by false h = refl

-- a name has no equals sign
name_without : (name : List ℕ) → list_all is_name_byte name ≡ true → has_byte 61 name ≡ false
name_without [] all = refl
name_without (b ∷ name) all =
    let parts = and_parts (is_name_byte b) (list_all is_name_byte name) all in λ i. no_equals b parts.0 i || name_without name parts.1 i

-- the item is read to its name and value
value_read : (found : Option ComplexDef) (name : List ℕ) (value : Value) → RowFits found value → value_for any_fits name (value_text (kind_in found) value) found ≡ (Some (name, value), [])
value_read None name value fits = absurd fits
value_read (Some complex) name value fits = ap (λ z. (beside name z, when (not (any_fits name complex)) BadValue ++ when (is_none z) BadValue)) (value_back complex.kind value fits)

item_back : (c : Cluster) (row : List ℕ × Value) → HasNames c → RowFits (complex_at c row.0) row.1 → item_read c any_fits (pair_text c row) ≡ (Some row, [])
item_back c row names fits =
    ap (item_read c any_fits) (pair_joined c row)
    ∙ ap (λ z. if z then pair_read c any_fits (before_byte 61 whole, behind_byte 61 whole) else (None, BadValue ∷ [])) (it_is_there 61 row.0 text)
    ∙ (λ i. pair_read c any_fits (before_it 61 row.0 text apart i, behind_it 61 row.0 text apart i))
    ∙ value_read (complex_at c row.0) row.0 row.1 fits
  where
    text : List ℕ
    text = value_text (kind_in (complex_at c row.0)) row.1

    whole : List ℕ
    whole = row.0 ++ 61 ∷ text

    apart : has_byte 61 row.0 ≡ false
    apart = name_without row.0 (and_parts _ (list_all is_name_byte row.0) (row_named c row names fits)).1

-- ---- tables

values_rise : (c : Cluster) (table : List (List ℕ × Value)) → AreValues c table → Rises table
values_rise c [] all = tt
values_rise c (row ∷ rows) (fits, above, all) = (above, values_rise c rows all)

middle_fits : (c : Cluster) (front : List (List ℕ × Value)) (row : List ℕ × Value) (rows : List (List ℕ × Value)) → AreValues c (front ++ row ∷ rows) → RowFits (complex_at c row.0) row.1
middle_fits c [] row rows all = all.0
middle_fits c (first ∷ front) row rows all = middle_fits c front row rows all.2

-- the items of a table are read to it, one behind the other
items_back : (c : Cluster) (front rows : List (List ℕ × Value)) → HasNames c → AreValues c (front ++ rows) → fold (with_pair c any_fits) (front, []) (map (pair_text c) rows) ≡ (front ++ rows, [])
items_back c front [] names all = ap (λ z. (z, [])) (sym (append-nil front))
items_back c front (row ∷ rows) names all =
    ap (λ read. fold (with_pair c any_fits) (put_value front read.0, [] ++ read.1) (map (pair_text c) rows)) (item_back c row names (middle_fits c front row rows all))
    ∙ ap (λ table. fold (with_pair c any_fits) (table, []) (map (pair_text c) rows)) (put_behind front row rows (values_rise c (front ++ row ∷ rows) all))
    ∙ items_back c (front ++ row ∷ []) rows names (subst (AreValues c) (sym (append_assoc front (row ∷ []) rows)) all)
    ∙ ap (λ z. (z, [])) (append_assoc front (row ∷ []) rows)

-- ---- lists

pairs_pass : (c : Cluster) (table : List (List ℕ × Value)) → HasNames c → AreValues c table → list_all is_piece (map (pair_text c) table) ≡ true
pairs_pass c [] names all = refl
pairs_pass c (row ∷ rows) names (fits, above, all) = λ i. pair_piece c row names fits i && pairs_pass c rows names all i

-- a pair isn't NONE
pairs_others : (c : Cluster) (table : List (List ℕ × Value)) → is_only_none (map (pair_text c) table) ≡ false
pairs_others c [] = refl
pairs_others c (row ∷ []) = by (text_eq (pair_text c row) (codes "NONE")) refl
  where
    by : (same : Bool) → text_eq (pair_text c row) (codes "NONE") ≡ same → same ≡ false
    by true is = absurd (true≢false (sym (it_is_there 61 row.0 (value_text (kind_in (complex_at c row.0)) row.1)) ∙ ap (has_byte 61) (sym (pair_joined c row) ∙ (bytes_eq-Decides (pair_text c row) (codes "NONE")).0 is)))
    by false is = refl
pairs_others c (row ∷ other ∷ rows) = refl

-- the text of a table of values is read to it
pub values_back : (c : Cluster) (table : List (List ℕ × Value)) → HasNames c → AreValues c table → values_read c any_fits (values_text c table) ≡ (table, [])
values_back c table names all =
    ap (fold (with_pair c any_fits) ([], [])) (pieces_back (map (pair_text c) table) (record { pass = pairs_pass c table names all; others = pairs_others c table })) ∙ items_back c [] table names all

pub values_printing : (c : Cluster) (table : List (List ℕ × Value)) → HasNames c → AreValues c table → is_printing (values_text c table) ≡ true
values_printing c table names all = list_printing (map (pair_text c) table) (pairs_pass c table names all)
