-- The lines of rows of words are cut as they were put together.
use Rattle.std.proofs.Common.{◌≡◌, ℕ, ◌&&◌, Bool, true, false, not, nat_eq, List, [], ◌∷◌, ◌++◌, flat_map, refl, sym, ap, ◌∙◌, arith, append_assoc, append-nil, codes}
use Rattle.std.specs.List.{list_all, suffix_len}
use Rattle.std.proofs.lemmas.Bool.{and_parts, and_from, eqb-true, true≢false}
use Rattle.std.proofs.lemmas.List.Folds.{list_all-append}
use Rattle.ge_model_rows.specs.ValueRows.{Kind, ComplexDef}
use Rattle.ge_model_text.specs.Words.{is_blank}
use Rattle.ge_model_grammar.specs.Names.{is_name_byte, is_name}
use Rattle.ge_model_rows.specs.Pieces.{is_empty, trimmed, joined_by, without_last_blanks}
use Rattle.ge_model_grammar.specs.Lines.{is_plain_byte, is_plain_line, begins_with, ends_in}
use Rattle.ge_model_config.specs.Complexes.{printed_complex as printed_line}
use Rattle.ge_model_config.proofs.ReadBackTexts.{is_printing_byte, is_printing, is_shown, all_weaker, shown_plain, no_blank, no_blank_behind, not_joined, shown_printing, shown_whole, first_stays, last_stays}
use Rattle.ge_model_config.proofs.ReadBackBodies.{IsLine}
use Rattle.ge_model_config.proofs.ReadBackPrinted.{number_shown}
use Rattle.ge_model_config.proofs.ReadBackRows.{ArePrinted, IsComplex, words_behind, words_print}

-- ---- words that blanks join

-- the last word has no backslash
abbrev LastShown : List ℕ → List (List ℕ) → Type 0
LastShown word [] = is_shown word ≡ true
LastShown word (next ∷ words) = LastShown next words

-- a text that ends with a word without a backslash
record EndsShown (text : List ℕ) : Type 0 where
  front : List ℕ
  last : List ℕ
  shown : is_shown last ≡ true
  whole : text ≡ front ++ last

ends_shown : (word : List ℕ) (words : List (List ℕ)) → LastShown word words → EndsShown (joined_by (codes " ") (word ∷ words))
ends_shown word [] last = record { front = []; last = word; shown = last; whole = append-nil word }
ends_shown word (next ∷ words) last =
    let more = ends_shown next words last in
    record {
      front = word ++ 32 ∷ more.front;
      last = more.last;
      shown = more.shown;
      whole = ap (λ z. word ++ 32 ∷ z) more.whole ∙ sym (append_assoc word (32 ∷ more.front) more.last);
    }

plain_word : (word : List ℕ) → is_printing word ≡ true → is_plain_line word ≡ true
plain_word [] none = refl
plain_word (b ∷ word) all = all_weaker is_printing_byte is_plain_byte shown_plain (b ∷ word) all

plain_words : (words : List (List ℕ)) → ArePrinted words → is_plain_line (flat_map (λ next. codes " " ++ next) words) ≡ true
plain_words [] all = refl
plain_words (word ∷ words) (first, all) = list_all-append is_plain_byte word (flat_map (λ next. codes " " ++ next) words) ∙ and_from _ _ (plain_word word first) (plain_words words all)

-- ---- lines of rows

no_hash : (b : ℕ) → is_name_byte b ≡ true → nat_eq 35 b ≡ false
no_hash b is = by (nat_eq 35 b) refl
  where
    by : (same : Bool) → nat_eq 35 b ≡ same → same ≡ false
    by true h = absurd (true≢false (sym is ∙ ap is_name_byte (sym (eqb-true 35 b h))))
    by false h = refl

line_of_words : (name : List ℕ) (words : List (List ℕ)) → is_name name ≡ true → ArePrinted (name ∷ words) → LastShown name words → IsLine (joined_by (codes " ") (name ∷ words))
line_of_words [] words none all last = absurd (true≢false (sym none))
line_of_words (b ∷ name) words is all last = record {
  plain = list_all-append is_plain_byte (b ∷ name) rest ∙ and_from _ _ (plain_word (b ∷ name) all.0) (plain_words words all.1);
  counted = ap (λ z. not (is_empty z) && not (begins_with (codes "#") (b ∷ (name ++ rest)))) stays ∙ and_from _ _ some (ap not (ap (λ z. z && true) (no_hash b first)));
}
  where
    rest : List ℕ
    rest = flat_map (λ next. codes " " ++ next) words

    first : is_name_byte b ≡ true
    first = (and_parts (is_name_byte b) (list_all is_name_byte name) (and_parts _ (list_all is_name_byte (b ∷ name)) is).1).0

    ends : EndsShown (joined_by (codes " ") ((b ∷ name) ∷ words))
    ends = ends_shown (b ∷ name) words last

    stays : trimmed (b ∷ (name ++ rest)) ≡ b ∷ (name ++ rest)
    stays =
        ap without_last_blanks (first_stays b (name ++ rest) (no_blank b (and_parts (is_printing_byte b) (list_all is_printing_byte name) all.0).0))
        ∙ last_stays (b ∷ (name ++ rest)) (ap (suffix_len is_blank) ends.whole ∙ no_blank_behind ends.front ends.last (shown_printing ends.last ends.shown))

    some : not (is_empty (b ∷ (name ++ rest))) ≡ true
    some = grind arith

whole_words : (name : List ℕ) (words : List (List ℕ)) → LastShown name words → ends_in (codes "\\") (joined_by (codes " ") (name ∷ words)) ≡ false
whole_words name words last =
    let ends = ends_shown name words last in
    ap (ends_in (codes "\\")) ends.whole ∙ not_joined ends.front ends.last (shown_printing ends.last ends.shown) (shown_whole ends.last ends.shown)

-- the line of a row
pub row_line : (row : List ℕ × ComplexDef) → IsComplex row.0 row.1 → IsLine (printed_line row)
row_line row is = line_of_words row.0 (words_behind row.1) is.named (words_print row is) (number_shown Kind.Double row.1.urgency)

pub row_whole : (row : List ℕ × ComplexDef) → ends_in (codes "\\") (printed_line row) ≡ false
row_whole row = whole_words row.0 (words_behind row.1) (number_shown Kind.Double row.1.urgency)
