-- A body of lines `attribute value` that is printed is read to these attributes.
use Rattle.std.proofs.Common.{◌≡◌, ℕ, ◌-◌, arith, ◌&&◌, Bool, true, false, not, cond, if◌then◌else◌, List, [], ◌∷◌, ◌++◌, length, take, map, filter, Option, Some, None, refl, sym, ap, ◌∙◌, append_assoc, append-nil, codes}
use Rattle.std.specs.List.{list_all, before_first, after_first}
use Rattle.std.proofs.lemmas.Bool.{and_parts, and_from, not-true, true≢false}
use Rattle.std.proofs.lemmas.List.Folds.{list_all-append}
use Rattle.ge_model_rows.specs.EntryRows.{ObjectKind}
use Rattle.ge_model_text.specs.Words.{is_blank}
use Rattle.ge_model_rows.specs.Pieces.{is_empty, trimmed, is_one_of, joined_by}
use Rattle.ge_model_rows.proofs.Digits.{AreWithout, pieces_joined}
use Rattle.ge_model_grammar.specs.Lines.{is_plain_byte, is_plain_line, text_lines, begins_with, ends_in}
use Rattle.ge_model_grammar.specs.Attributes.{known_attributes, naming_attributes}
use Rattle.ge_model_grammar.specs.declared.Body.{Body}
use Rattle.ge_model_grammar.specs.declared.Body.TheVariants.{Attributes}
use Rattle.ge_model_grammar.specs.Bodies.{counts, joined_lines, body_lines, attribute_line, has_attribute, with_attribute, attributes_after, if_named, attribute_body, body_of_lines, body_of}
use Rattle.ge_model_config.specs.Cited.{printed_attribute as printed_line}
use Rattle.ge_model_config.proofs.ReadBackTexts.{is_printing_byte, is_printing, is_shown, shown_bytes, all_weaker, shown_plain, plain_without_feed, not_joined, shown_printing, shown_whole, trimmed_between, trimmed_shown, word_before, text_behind}

-- ---- lines

-- a line that counts
pub record IsLine (line : List ℕ) : Type 0 where
  pub plain : is_plain_line line ≡ true
  pub counted : counts line ≡ true

abbrev pub AreLines : List (List ℕ) → Type 0
AreLines [] = Unit {0}
AreLines (line ∷ lines) = IsLine line × AreLines lines

-- no line is joined with the next; the last one has a next where a line feed ends it
abbrev pub AreWhole : Bool → List (List ℕ) → Type 0
AreWhole ended [] = Unit {0}
AreWhole ended (line ∷ []) = ended ≡ true → ends_in (codes "\\") line ≡ false
AreWhole ended (line ∷ next ∷ lines) = (ends_in (codes "\\") line ≡ false) × AreWhole ended (next ∷ lines)

-- what stands behind the last line feed, where one ends the last line
abbrev pub closing : Bool → List (List ℕ)
closing true = [] ∷ []
closing false = []

-- the text of lines that line feeds part, with or without one that ends the last line
abbrev pub text_of_lines : Bool → List (List ℕ) → List ℕ
text_of_lines ended lines = joined_by (codes "\n") (lines ++ closing ended)

without_feeds : (lines : List (List ℕ)) (ended : Bool) → AreLines lines → AreWithout 10 (lines ++ closing ended)
without_feeds [] true all = (refl, tt)
without_feeds [] false all = tt
without_feeds (line ∷ lines) ended all = (plain_without_feed line all.0.plain, without_feeds lines ended all.1)

all_plain : (lines : List (List ℕ)) (ended : Bool) → AreLines lines → list_all is_plain_line (lines ++ closing ended) ≡ true
all_plain [] true all = refl
all_plain [] false all = refl
all_plain (line ∷ lines) ended all = λ i. all.0.plain i && all_plain lines ended all.1 i

none_joined : (line : List ℕ) (lines : List (List ℕ)) (ended : Bool) → AreWhole ended (line ∷ lines)
    → joined_lines line (lines ++ closing ended) ≡ line ∷ (lines ++ closing ended)
none_joined line [] false whole = refl
none_joined line [] true whole = ap (λ (z : Bool). elim z as (λ x. List (List ℕ)) [ true ↦ joined_lines (take (length line - 1) line ++ []) [] | false ↦ line ∷ joined_lines [] [] ]) (whole refl)
none_joined line (next ∷ lines) ended whole =
    ap (λ (z : Bool). elim z as (λ x. List (List ℕ)) [ true ↦ joined_lines (take (length line - 1) line ++ next) (lines ++ closing ended) | false ↦ line ∷ joined_lines next (lines ++ closing ended) ]) whole.0
    ∙ ap (λ z. line ∷ z) (none_joined next lines ended whole.1)

all_counted : (lines : List (List ℕ)) (ended : Bool) → AreLines lines → filter counts (lines ++ closing ended) ≡ lines
all_counted [] true all = refl
all_counted [] false all = refl
all_counted (line ∷ lines) ended all =
    ap (λ z. cond z (line ∷ filter counts (lines ++ closing ended)) (filter counts (lines ++ closing ended))) all.0.counted
    ∙ ap (λ z. line ∷ z) (all_counted lines ended all.1)

-- lines that are put together are cut again
pub lines_back : (kind : ObjectKind) (line : List ℕ) (lines : List (List ℕ)) (ended : Bool) → AreLines (line ∷ lines) → AreWhole ended (line ∷ lines)
    → body_of kind (text_of_lines ended (line ∷ lines)) ≡ body_of_lines kind (line ∷ lines)
unfolding body_of
lines_back kind line lines ended all whole =
    ap (λ z. if list_all is_plain_line z then body_of_lines kind (filter counts (joined_lines [] z)) else None) cut
    ∙ ap (λ z. if z then body_of_lines kind (filter counts (joined_lines [] (line ∷ (lines ++ closing ended)))) else None) (all_plain (line ∷ lines) ended all)
    ∙ ap (λ z. body_of_lines kind (filter counts z)) (none_joined [] (line ∷ lines) ended (refl, whole))
    ∙ ap (body_of_lines kind) (all_counted (line ∷ lines) ended all)
  where
    cut : text_lines (text_of_lines ended (line ∷ lines)) ≡ line ∷ (lines ++ closing ended)
    cut = pieces_joined 10 line (lines ++ closing ended) (plain_without_feed line all.0.plain) (without_feeds lines ended all.1)

-- ---- attributes

-- attributes that may be given beside those that are given: words that are known, each once, none that begins a comment
abbrev pub may_follow : List (List ℕ) → List (List ℕ × List ℕ) → List (List ℕ × List ℕ) → Bool
may_follow known values [] = true
may_follow known values (pair ∷ pairs) =
    (is_printing pair.0 && not (begins_with (codes "#") pair.0)) && (is_one_of pair.0 known && not (has_attribute values pair.0))
    && may_follow known (values ++ pair ∷ []) pairs

-- values that print without blanks
abbrev pub ArePrinting : List (List ℕ × List ℕ) → Type 0
ArePrinting [] = Unit {0}
ArePrinting (pair ∷ pairs) = (is_printing pair.1 ≡ true) × ArePrinting pairs

-- and of which none joins its line with the next
abbrev pub AreWholeValues : Bool → List (List ℕ × List ℕ) → Type 0
AreWholeValues ended [] = Unit {0}
AreWholeValues ended (pair ∷ []) = ended ≡ true → ends_in (codes "\\") pair.1 ≡ false
AreWholeValues ended (pair ∷ next ∷ pairs) = (ends_in (codes "\\") pair.1 ≡ false) × AreWholeValues ended (next ∷ pairs)

-- both, of values without a backslash
abbrev pub AreShown : List (List ℕ × List ℕ) → Type 0
AreShown [] = Unit {0}
AreShown (pair ∷ pairs) = (is_shown pair.1 ≡ true) × AreShown pairs

abbrev pub line_of : List ℕ × List ℕ → List ℕ
line_of pair = printed_line pair.0 pair.1

shown_some : (text : List ℕ) → is_printing text ≡ true → is_empty text ≡ false
shown_some [] none = absurd (true≢false (sym none))
shown_some (b ∷ text) all = grind arith

-- a printed line is read to its attribute and value
line_back : (name value : List ℕ) → is_printing name ≡ true → is_printing value ≡ true → attribute_line (printed_line name value) ≡ (name, value)
line_back name value first second =
    ap attribute_line (append_assoc name (codes " ") value)
    ∙ ap (λ z. (before_first is_blank z, trimmed (after_first is_blank z))) (trimmed_between name value first second)
    ∙ (λ i. (word_before name value first i, trimmed (text_behind name value first i)))
    ∙ ap (λ z. (name, z)) (trimmed_shown value second)

plain_text : (text : List ℕ) → is_printing text ≡ true → is_plain_line text ≡ true
plain_text text all = all_weaker is_printing_byte is_plain_byte shown_plain text (shown_bytes text all)

line_fits : (name value : List ℕ) → is_printing name ≡ true → begins_with (codes "#") name ≡ false → is_printing value ≡ true → IsLine (printed_line name value)
line_fits [] value none plain second = absurd (true≢false (sym none))
line_fits (b ∷ name) value first plain second = record {
  plain = list_all-append is_plain_byte ((b ∷ name) ++ 32 ∷ []) value ∙ both _ _ (list_all-append is_plain_byte (b ∷ name) (32 ∷ []) ∙ both _ _ (plain_text (b ∷ name) first) refl) (plain_text value second);
  counted = ap counts (append_assoc (b ∷ name) (32 ∷ []) value)
      ∙ ap (λ z. not (is_empty z) && not (begins_with (codes "#") (b ∷ (name ++ 32 ∷ value)))) (trimmed_between (b ∷ name) value first second)
      ∙ both _ _ (some (name ++ 32 ∷ value)) (ap not plain);
}
  where
    both : (u v : Bool) → u ≡ true → v ≡ true → (u && v) ≡ true
    both = and_from

    some : (rest : List ℕ) → not (is_empty (b ∷ rest)) ≡ true
    some rest = grind arith

-- lines of attributes that may be given are read to them
attributes_back : (known : List (List ℕ)) (values pairs : List (List ℕ × List ℕ)) → may_follow known values pairs ≡ true → ArePrinting pairs
    → attributes_after known values (map line_of pairs) ≡ Some (values ++ pairs)
attributes_back known values [] fits shown = ap (λ z. Some z) (sym (append-nil values))
attributes_back known values (pair ∷ pairs) fits shown =
    let parts = and_parts _ (may_follow known (values ++ pair ∷ []) pairs) fits in
    let front = and_parts _ (is_one_of pair.0 known && not (has_attribute values pair.0)) parts.0 in
    let word = and_parts (is_printing pair.0) _ front.0 in
    ap (λ (z : Option (List (List ℕ × List ℕ))). elim z as (λ x. Option (List (List ℕ × List ℕ))) [ None ↦ None | Some more ↦ attributes_after known more (map line_of pairs) ])
    (ap (with_attribute known values) (line_back pair.0 pair.1 word.0 shown.0)
    ∙ ap (λ z. if z then Some (values ++ pair ∷ []) else None) (and_from _ _ front.1 (ap not (shown_some pair.1 shown.0))))
    ∙ attributes_back known (values ++ pair ∷ []) pairs parts.1 shown.1
    ∙ ap (λ z. Some z) (append_assoc values (pair ∷ []) pairs)

lines_fit : (known : List (List ℕ)) (values pairs : List (List ℕ × List ℕ)) → may_follow known values pairs ≡ true → ArePrinting pairs → AreLines (map line_of pairs)
lines_fit known values [] fits shown = tt
lines_fit known values (pair ∷ pairs) fits shown =
    let parts = and_parts _ (may_follow known (values ++ pair ∷ []) pairs) fits in
    let front = and_parts _ (is_one_of pair.0 known && not (has_attribute values pair.0)) parts.0 in
    let word = and_parts (is_printing pair.0) _ front.0 in
    (line_fits pair.0 pair.1 word.0 (not-true _ word.1) shown.0, lines_fit known (values ++ pair ∷ []) pairs parts.1 shown.1)

-- the kinds of objects whose bodies are attributes
abbrev pub HasAttributes : ObjectKind → Type 0
HasAttributes kind = (lines : List (List ℕ)) → body_of_lines kind lines ≡ attribute_body kind lines

lines_whole : (ended : Bool) (pairs : List (List ℕ × List ℕ)) → ArePrinting pairs → AreWholeValues ended pairs → AreWhole ended (map line_of pairs)
lines_whole ended [] shown whole = tt
lines_whole ended (pair ∷ []) shown whole = λ h. not_joined (pair.0 ++ codes " ") pair.1 shown.0 (whole h)
lines_whole ended (pair ∷ next ∷ pairs) shown whole = (not_joined (pair.0 ++ codes " ") pair.1 shown.0 whole.0, lines_whole ended (next ∷ pairs) shown.1 whole.1)

-- attributes whose lines are put together are read again
pub printing_back : (kind : ObjectKind) (pair : List ℕ × List ℕ) (pairs : List (List ℕ × List ℕ)) (ended : Bool) → HasAttributes kind
    → may_follow (known_attributes kind) [] (pair ∷ pairs) ≡ true → list_all (has_attribute (pair ∷ pairs)) (naming_attributes kind) ≡ true → ArePrinting (pair ∷ pairs)
    → AreWholeValues ended (pair ∷ pairs) → body_of kind (text_of_lines ended (map line_of (pair ∷ pairs))) ≡ Some (Attributes (pair ∷ pairs))
unfolding attribute_body
printing_back kind pair pairs ended has fits named shown whole =
    lines_back kind (line_of pair) (map line_of pairs) ended (lines_fit (known_attributes kind) [] (pair ∷ pairs) fits shown) (lines_whole ended (pair ∷ pairs) shown whole)
    ∙ has (map line_of (pair ∷ pairs))
    ∙ ap (λ (z : Option (List (List ℕ × List ℕ))). elim z as (λ x. Option Body) [ None ↦ None | Some values ↦ if_named kind values ]) (attributes_back (known_attributes kind) [] (pair ∷ pairs) fits shown)
    ∙ ap (λ z. if z then Some (Attributes (pair ∷ pairs)) else None) named

printing_values : (pairs : List (List ℕ × List ℕ)) → AreShown pairs → ArePrinting pairs
printing_values [] shown = tt
printing_values (pair ∷ pairs) shown = (shown_printing pair.1 shown.0, printing_values pairs shown.1)

whole_values : (ended : Bool) (pairs : List (List ℕ × List ℕ)) → AreShown pairs → AreWholeValues ended pairs
whole_values ended [] shown = tt
whole_values ended (pair ∷ []) shown = λ h. shown_whole pair.1 shown.0
whole_values ended (pair ∷ next ∷ pairs) shown = (shown_whole pair.1 shown.0, whole_values ended (next ∷ pairs) shown.1)

-- also of values without a backslash
pub body_back : (kind : ObjectKind) (pair : List ℕ × List ℕ) (pairs : List (List ℕ × List ℕ)) (ended : Bool) → HasAttributes kind
    → may_follow (known_attributes kind) [] (pair ∷ pairs) ≡ true → list_all (has_attribute (pair ∷ pairs)) (naming_attributes kind) ≡ true → AreShown (pair ∷ pairs)
    → body_of kind (text_of_lines ended (map line_of (pair ∷ pairs))) ≡ Some (Attributes (pair ∷ pairs))
body_back kind pair pairs ended has fits named shown =
    printing_back kind pair pairs ended has fits named (printing_values (pair ∷ pairs) shown) (whole_values ended (pair ∷ pairs) shown)

-- ---- bodies of these kinds

-- that a body is attributes, where there is one
abbrev pub IsAttributes : Option Body → Type 0
IsAttributes None = Unit {0}
IsAttributes (Some (Attributes values)) = Unit {0}
IsAttributes (Some other) = ⊥

-- a body of such a kind is attributes
pub are_attributes : (kind : ObjectKind) (text : List ℕ) → HasAttributes kind → IsAttributes (body_of kind text)
unfolding body_of attribute_body
are_attributes kind text has = by (list_all is_plain_line (text_lines text))
  where
    named : (fits : Bool) (values : List (List ℕ × List ℕ)) → IsAttributes (if fits then Some (Attributes values) else None)
    named true values = tt
    named false values = tt

    read : (values : Option (List (List ℕ × List ℕ))) → IsAttributes (elim values as (λ x. Option Body) [ None ↦ None | Some values ↦ if_named kind values ])
    read None = tt
    read (Some values) = named (list_all (has_attribute values) (naming_attributes kind)) values

    by : (plain : Bool) → IsAttributes (if plain then body_of_lines kind (body_lines text) else None)
    by true = rw (has (body_lines text)) (read (attributes_after (known_attributes kind) [] (body_lines text)))
    by false = tt
