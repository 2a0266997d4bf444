-- A row of the table of complexes is printed as it is read.
use Rattle.std.proofs.Common.{◌≡◌, ℕ, ◌&&◌, ◌||◌, ◌==◌, Bool, true, false, not, cond, if◌then◌else◌, List, [], ◌∷◌, ◌++◌, get_or, flat_map, filter, Some, is_none, unwrap_or, refl, sym, ap, ◌∙◌, arith, append-nil, codes}
use Rattle.std.specs.List.{All, list_all, slice_split}
use Rattle.std.proofs.lemmas.Bool.{and_parts, true≢false}
use Rattle.std.proofs.lemmas.List.Splits.{slice_split_none, slice_split_at}
use Rattle.std.proofs.lemmas.List.Sums.{AllPass-from_list_all}
use Rattle.ge_base.specs.declared.refusal.Refusal.TheVariants.{BadValue}
use Rattle.ge_model_rows.specs.ClusterRows.{Cluster}
use Rattle.ge_model_rows.specs.ValueRows.{Value, Amount, Flag, Word, Kind, Relop, Requestable}
use Rattle.ge_model_rows.specs.ValueRows.{Consumable, ComplexDef, infinity}
use Rattle.ge_model_text.specs.Words.{is_blank}
use Rattle.ge_model_grammar.specs.Names.{is_name}
use Rattle.ge_model_rows.specs.Faults.{when}
use Rattle.ge_model_rows.specs.Pieces.{is_empty, blank_pieces, joined_by}
use Rattle.ge_model_rows.specs.Values.{value_of, value_text, fixed_text}
use Rattle.ge_model_grammar.specs.declared.ComplexLine.{ComplexLine}
use Rattle.ge_model_grammar.specs.Bodies.{complex_with, complex_line}
use Rattle.ge_model_config.specs.Columns.{kind_text, kind_of, relop_text, relop_of, requestable_text, requestable_of, consumable_text, consumable_of}
use Rattle.ge_model_config.specs.Complexes.{fits_use, older_complex, kind_in, relop_in, consumable_in, urgency_read, complex_row, row_faults, printed_complex as printed_line}
use Rattle.ge_model_config.specs.Cited.{number_text}
use Rattle.ge_model_config.proofs.ReadBackTexts.{is_printing_byte, is_printing, all_weaker, no_blank, shown_printing}
use Rattle.ge_model_config.proofs.ReadBackLists.{is_piece_byte}
use Rattle.ge_model_config.proofs.ReadBackNames.{name_item, item_shown}
use Rattle.ge_model_config.proofs.ReadBackPrinted.{number_shown}
use Rattle.ge_model_config.proofs.ReadBackSettings.{is_up_to, amount_back, up_to_small}
use Rattle.ge_model_config.proofs.ReadBackValues.{FitsKind, value_back}
use Rattle.ge_model_config.proofs.ReadBackValueLists.{value_piece}

-- ---- words between blanks

-- texts that print and have no blank
abbrev pub ArePrinted : List (List ℕ) → Type 0
ArePrinted [] = Unit {0}
ArePrinted (word ∷ words) = (is_printing word ≡ true) × ArePrinted words

apart : (word : List ℕ) → is_printing word ≡ true → All (λ b. is_blank b ≡ false) word
apart [] none k d small = absurd (true≢false (sym none))
apart (b ∷ word) all k d small = no_blank (get_or (b ∷ word) k d) (AllPass-from_list_all is_printing_byte (b ∷ word) all k d small)

words_split : (word : List ℕ) (words : List (List ℕ)) → is_printing word ≡ true → ArePrinted words → slice_split is_blank (joined_by (codes " ") (word ∷ words)) ≡ word ∷ words
words_split word [] first all = ap (slice_split is_blank) (append-nil word) ∙ slice_split_none is_blank word (apart word first)
words_split word (next ∷ words) first (second, all) =
    slice_split_at is_blank word 32 (next ++ flat_map (λ x. codes " " ++ x) words) (apart word first) refl ∙ ap (λ z. word ∷ z) (words_split next words second all)

some_word : (word : List ℕ) → is_printing word ≡ true → not (is_empty word) ≡ true
some_word [] none = absurd (true≢false (sym none))
some_word (b ∷ word) all = grind arith

words_kept : (words : List (List ℕ)) → ArePrinted words → filter (λ piece. not (is_empty piece)) words ≡ words
words_kept [] all = refl
words_kept (word ∷ words) (first, all) =
    ap (λ z. cond z (word ∷ filter (λ piece. not (is_empty piece)) words) (filter (λ piece. not (is_empty piece)) words)) (some_word word first) ∙ ap (λ z. word ∷ z) (words_kept words all)

-- words that blanks join are parted again
pub words_back : (word : List ℕ) (words : List (List ℕ)) → ArePrinted (word ∷ words) → blank_pieces (joined_by (codes " ") (word ∷ words)) ≡ word ∷ words
words_back word words (first, all) = ap (filter (λ piece. not (is_empty piece))) (words_split word words first all) ∙ words_kept (word ∷ words) (first, all)

-- ---- the words of columns

kind_back : (k : Kind) → kind_of (kind_text k) ≡ Some k
kind_back Kind.Int = refl
kind_back Kind.Time = refl
kind_back Kind.Memory = refl
kind_back Kind.Double = refl
kind_back Kind.Bool = refl
kind_back Kind.Str = refl
kind_back Kind.CStr = refl
kind_back Kind.ReStr = refl
kind_back Kind.Host = refl

relop_back : (r : Relop) → relop_of (relop_text r) ≡ Some r
relop_back Relop.Eq = refl
relop_back Relop.Ne = refl
relop_back Relop.Lt = refl
relop_back Relop.Le = refl
relop_back Relop.Gt = refl
relop_back Relop.Ge = refl

requestable_back : (r : Requestable) → requestable_of (requestable_text r) ≡ Some r
requestable_back Requestable.No = refl
requestable_back Requestable.Yes = refl
requestable_back Requestable.Forced = refl

consumable_back : (r : Consumable) → consumable_of (consumable_text r) ≡ Some r
consumable_back Consumable.No = refl
consumable_back Consumable.Yes = refl
consumable_back Consumable.Job = refl

kind_printing : (k : Kind) → is_printing (kind_text k) ≡ true
kind_printing Kind.Int = refl
kind_printing Kind.Time = refl
kind_printing Kind.Memory = refl
kind_printing Kind.Double = refl
kind_printing Kind.Bool = refl
kind_printing Kind.Str = refl
kind_printing Kind.CStr = refl
kind_printing Kind.ReStr = refl
kind_printing Kind.Host = refl

relop_printing : (r : Relop) → is_printing (relop_text r) ≡ true
relop_printing Relop.Eq = refl
relop_printing Relop.Ne = refl
relop_printing Relop.Lt = refl
relop_printing Relop.Le = refl
relop_printing Relop.Gt = refl
relop_printing Relop.Ge = refl

requestable_printing : (r : Requestable) → is_printing (requestable_text r) ≡ true
requestable_printing Requestable.No = refl
requestable_printing Requestable.Yes = refl
requestable_printing Requestable.Forced = refl

consumable_printing : (r : Consumable) → is_printing (consumable_text r) ≡ true
consumable_printing Consumable.No = refl
consumable_printing Consumable.Yes = refl
consumable_printing Consumable.Job = refl

-- ---- rows

-- a row of the table
pub record IsComplex (name : List ℕ) (d : ComplexDef) : Type 0 where
  pub named : is_name name ≡ true
  pub short : is_name d.shortcut ≡ true
  pub fallback : FitsKind d.kind d.fallback
  pub urgency : is_up_to infinity d.urgency ≡ true
  pub compared : fits_use name d.kind d.relop d.consumable ≡ true

-- the words of a row
abbrev pub words_of : List ℕ × ComplexDef → ComplexLine
words_of row = record {
  name = row.0;
  shortcut = row.1.shortcut;
  kind = kind_text row.1.kind;
  relop = relop_text row.1.relop;
  requestable = requestable_text row.1.requestable;
  consumable = consumable_text row.1.consumable;
  fallback = value_text row.1.kind row.1.fallback;
  urgency = fixed_text row.1.urgency;
}

piece_prints : (text : List ℕ) → list_all is_piece_byte text ≡ true → is_empty text ≡ false → is_printing text ≡ true
piece_prints [] all some = absurd (true≢false some)
piece_prints (b ∷ text) all some = all_weaker is_piece_byte is_printing_byte (λ c h. (and_parts (is_printing_byte c) (not (c == 44)) h).0) (b ∷ text) all

some_flag : (flag : Bool) → is_empty (if flag then codes "TRUE" else codes "FALSE") ≡ false
some_flag true = refl
some_flag false = refl

some_text : (word : List ℕ) → is_empty (if is_empty word then codes "NONE" else word) ≡ false
some_text word = by (is_empty word) refl
  where
    by : (none : Bool) → is_empty word ≡ none → is_empty (if none then codes "NONE" else word) ≡ false
    by true is = refl
    by false is = is

some_printing : (text : List ℕ) → is_printing text ≡ true → is_empty text ≡ false
some_printing [] none = absurd (true≢false (sym none))
some_printing (b ∷ text) all = grind arith

value_some : (k : Kind) (value : Value) → is_empty (value_text k value) ≡ false
value_some k (Amount n) = some_printing (number_text k n) (shown_printing (number_text k n) (number_shown k n))
value_some k (Flag flag) = some_flag flag
value_some k (Word word) = some_text word

-- the words behind the name
abbrev pub words_behind : ComplexDef → List (List ℕ)
words_behind d =
    d.shortcut ∷ kind_text d.kind ∷ relop_text d.relop ∷ requestable_text d.requestable ∷ consumable_text d.consumable ∷ value_text d.kind d.fallback ∷ fixed_text d.urgency ∷ []

pub words_print : (row : List ℕ × ComplexDef) → IsComplex row.0 row.1 → ArePrinted (row.0 ∷ words_behind row.1)
words_print row is = (
  name_prints row.0 is.named,
  (
    name_prints row.1.shortcut is.short,
    (
      kind_printing row.1.kind,
      (
        relop_printing row.1.relop,
        (
          requestable_printing row.1.requestable,
          (
            consumable_printing row.1.consumable,
            (piece_prints _ (value_piece row.1.kind row.1.fallback is.fallback) (value_some row.1.kind row.1.fallback), (shown_printing (fixed_text row.1.urgency) (number_shown Kind.Double row.1.urgency), tt)),
          ),
        ),
      ),
    ),
  ),
)
  where
    name_prints : (name : List ℕ) → is_name name ≡ true → is_printing name ≡ true
    name_prints name named = shown_printing name (item_shown name (name_item name named))

-- the line of a row is read to its words
pub row_line_back : (row : List ℕ × ComplexDef) → IsComplex row.0 row.1 → complex_line (printed_line row) ≡ Some (words_of row)
row_line_back row is = ap complex_with (words_back row.0 (words_behind row.1) (words_print row is))

-- and they to the row
row_with : Cluster → ComplexLine → Kind → Relop → Requestable → Consumable → Value → ℕ → ComplexDef
row_with c line k r q u v n = record { shortcut = line.shortcut; kind = k; relop = r; requestable = q; consumable = u; fallback = v; urgency = n }

pub row_back : (c : Cluster) (row : List ℕ × ComplexDef) → IsComplex row.0 row.1 → complex_row c (words_of row) ≡ row.1
unfolding row_with
row_back c row is =
    λ i. row_with c (words_of row) (unwrap_or (kind_back row.1.kind i) old.kind) (unwrap_or (relop_back row.1.relop i) old.relop) (unwrap_or (requestable_back row.1.requestable i) old.requestable)
    (unwrap_or (consumable_back row.1.consumable i) Consumable.Yes) (fallback i) (urgency i)
  where
    old : ComplexDef
    old = older_complex c (words_of row)

    fallback : unwrap_or (value_of (kind_in c (words_of row)) (value_text row.1.kind row.1.fallback)) old.fallback ≡ row.1.fallback
    fallback = ap (λ k. unwrap_or (value_of (unwrap_or k old.kind) (value_text row.1.kind row.1.fallback)) old.fallback) (kind_back row.1.kind) ∙ ap (λ v. unwrap_or v old.fallback) (value_back row.1.kind row.1.fallback is.fallback)

    urgency : (urgency_read (words_of row)).0 ≡ row.1.urgency
    urgency = ap (λ r. r.0) (amount_back Kind.Double infinity row.1.urgency (up_to_small infinity row.1.urgency (omega arith) is.urgency) is.urgency)

-- without a refusal
pub row_accepted : (c : Cluster) (row : List ℕ × ComplexDef) → IsComplex row.0 row.1 → row_faults c (words_of row) ≡ []
row_accepted c row is =
    λ i. when (not (is.named i && is.short i)) BadValue
    ++ when (is_none (kind_back row.1.kind i) || is_none (relop_back row.1.relop i)) BadValue
    ++ when (is_none (requestable_back row.1.requestable i) || is_none (consumable_back row.1.consumable i)) BadValue
    ++ when (is_none (value i)) BadValue
    ++ when (not (compared i)) BadValue
    ++ (urgency i).1
  where
    old : ComplexDef
    old = older_complex c (words_of row)

    value : value_of (kind_in c (words_of row)) (value_text row.1.kind row.1.fallback) ≡ Some row.1.fallback
    value = ap (λ k. value_of (unwrap_or k old.kind) (value_text row.1.kind row.1.fallback)) (kind_back row.1.kind) ∙ value_back row.1.kind row.1.fallback is.fallback

    compared : fits_use row.0 (kind_in c (words_of row)) (relop_in c (words_of row)) (consumable_in (words_of row)) ≡ true
    compared =
        (λ i. fits_use row.0 (unwrap_or (kind_back row.1.kind i) old.kind) (unwrap_or (relop_back row.1.relop i) old.relop) (unwrap_or (consumable_back row.1.consumable i) Consumable.Yes)) ∙ is.compared

    urgency : urgency_read (words_of row) ≡ (row.1.urgency, [])
    urgency = amount_back Kind.Double infinity row.1.urgency (up_to_small infinity row.1.urgency (omega arith) is.urgency) is.urgency
