-- Texts that print and have no blanks, as printed values are: they are trimmed, and stay a line's end.
use Rattle.std.proofs.Common.{◌≡◌, ℕ, suc, ◌+◌, ◌-◌, ◌==◌, ◌&&◌, ◌||◌, Bool, true, false, not, cond, nat_eq, List, [], ◌∷◌, ◌++◌, length, take, drop, reverse, refl, sym, ap, ◌∙◌, arith, append_assoc, length-append, take_at, drop_at, drop-drop, take_all, codes}
use Rattle.std.specs.Cmp.Lexicographic.{pointwise}
use Rattle.std.specs.Int.{is_in_range}
use Rattle.std.specs.List.{list_all, prefix_len, suffix_len, position_or_len, before_first, after_first}
use Rattle.std.proofs.lemmas.Bool.{and_parts, true≢false}
use Rattle.std.proofs.lemmas.List.{reverse-append}
use Rattle.std.proofs.lemmas.List.Elements.{All-weaker}
use Rattle.std.proofs.lemmas.List.Sums.{AllPass-from_list_all, list_all-from_AllPass}
use Rattle.ge_model_text.specs.Words.{is_blank}
use Rattle.ge_model_rows.specs.Pieces.{has_byte, without_first_blanks, without_last_blanks, trimmed}
use Rattle.ge_model_grammar.specs.Lines.{is_plain_byte, is_plain_line, ends_in}

-- a byte that prints and isn't blank
abbrev pub is_printing_byte : ℕ → Bool
is_printing_byte b = is_in_range 33 126 b

-- one such byte or more
abbrev pub is_printing : List ℕ → Bool
is_printing [] = false
is_printing (b ∷ text) = list_all is_printing_byte (b ∷ text)

-- such a byte that joins no lines
abbrev pub is_shown_byte : ℕ → Bool
is_shown_byte b = is_printing_byte b && not (b == 92)

-- one such byte or more
abbrev pub is_shown : List ℕ → Bool
is_shown [] = false
is_shown (b ∷ text) = list_all is_shown_byte (b ∷ text)

-- where each element that passes one test passes another, so does each list
pub all_weaker : {X : Type 0} (p q : X → Bool) → ((x : X) → p x ≡ true → q x ≡ true) → (xs : List X) → list_all p xs ≡ true → list_all q xs ≡ true
all_weaker p q more xs all = list_all-from_AllPass q xs (All-weaker (λ x. p x ≡ true) (λ x. q x ≡ true) more xs (AllPass-from_list_all p xs all))

-- ---- bytes

pub no_blank : (b : ℕ) → is_printing_byte b ≡ true → is_blank b ≡ false
no_blank b h = grind arith

pub shown_plain : (b : ℕ) → is_printing_byte b ≡ true → is_plain_byte b ≡ true
shown_plain b h = grind arith

pub no_backslash : (b : ℕ) → is_shown_byte b ≡ true → nat_eq 92 b ≡ false
no_backslash b h = grind arith

no_feed : (b : ℕ) → is_plain_byte b ≡ true → (b == 10) ≡ false
no_feed b h = grind arith

-- a line of plain bytes has no line feed
pub plain_without_feed : (text : List ℕ) → is_plain_line text ≡ true → has_byte 10 text ≡ false
plain_without_feed [] all = refl
plain_without_feed (b ∷ text) all =
    let parts = and_parts (is_plain_byte b) (is_plain_line text) all in
    λ i. no_feed b parts.0 i || plain_without_feed text parts.1 i

-- ---- the ends of a text

-- what holds of every text by its last byte holds of every text that ends with shown bytes
by_last : (P : List ℕ → Type 0) → ((front : List ℕ) (b : ℕ) → is_printing_byte b ≡ true → P (front ++ b ∷ [])) → (front : List ℕ) (b : ℕ) (rest : List ℕ)
    → list_all is_printing_byte (b ∷ rest) ≡ true → P (front ++ b ∷ rest)
by_last P last front b [] all = last front b (and_parts (is_printing_byte b) true all).0
by_last P last front b (c ∷ rest) all =
    rw (← append_assoc front (b ∷ []) (c ∷ rest)) (by_last P last (front ++ b ∷ []) c rest (and_parts (is_printing_byte b) (list_all is_printing_byte (c ∷ rest)) all).1)

ends_shown : (front : List ℕ) (b : ℕ) → is_printing_byte b ≡ true → suffix_len is_blank (front ++ b ∷ []) ≡ 0
ends_shown front b h =
    ap (prefix_len is_blank) (reverse-append front (b ∷ []))
    ∙ ap (λ z. cond z (1 + prefix_len is_blank (reverse front)) 0) (no_blank b h)

-- a text that ends with shown bytes has no blanks at its end
pub no_blank_behind : (front text : List ℕ) → is_printing text ≡ true → suffix_len is_blank (front ++ text) ≡ 0
no_blank_behind front [] none = absurd (true≢false (sym none))
no_blank_behind front (b ∷ rest) all = by_last (λ text. suffix_len is_blank text ≡ 0) ends_shown front b rest all

-- a line is joined with the next where its last text is
pub not_joined : (front text : List ℕ) → is_printing text ≡ true → ends_in (codes "\\") text ≡ false → ends_in (codes "\\") (front ++ text) ≡ false
not_joined front [] none whole = absurd (true≢false (sym none))
not_joined front (b ∷ rest) all whole =
    ap (λ z. pointwise nat_eq (92 ∷ []) (drop z (front ++ b ∷ rest))) size
    ∙ ap (pointwise nat_eq (92 ∷ [])) (sym (drop-drop (length rest) (length front) (front ++ b ∷ rest)))
    ∙ ap (λ z. pointwise nat_eq (92 ∷ []) (drop (length rest) z)) (drop_at front (b ∷ rest) (length front) refl)
    ∙ ap (λ z. pointwise nat_eq (92 ∷ []) (drop z (b ∷ rest))) last
    ∙ whole
  where
    size : length (front ++ b ∷ rest) - 1 ≡ length front + length rest
    size = let e = length-append front (b ∷ rest) in omega arith

    last : length rest ≡ length (b ∷ rest) - 1
    last = omega arith

pub first_stays : (b : ℕ) (rest : List ℕ) → is_blank b ≡ false → without_first_blanks (b ∷ rest) ≡ b ∷ rest
first_stays b rest h = ap (λ z. drop (cond z (1 + prefix_len is_blank rest) 0) (b ∷ rest)) h

pub last_stays : (text : List ℕ) → suffix_len is_blank text ≡ 0 → without_last_blanks text ≡ text
last_stays text none = ap (λ z. take (length text - z) text) none ∙ take_all (length text - 0) text (omega arith)

-- a text between two that have no blanks at their ends is trimmed
pub trimmed_between : (front text : List ℕ) → is_printing front ≡ true → is_printing text ≡ true → trimmed (front ++ 32 ∷ text) ≡ front ++ 32 ∷ text
trimmed_between [] text none all = absurd (true≢false (sym none))
trimmed_between (b ∷ rest) text first all =
    ap without_last_blanks (first_stays b (rest ++ 32 ∷ text) (no_blank b (and_parts (is_printing_byte b) (list_all is_printing_byte rest) first).0))
    ∙ last_stays (b ∷ rest ++ 32 ∷ text)
    (ap (suffix_len is_blank) (sym (append_assoc (b ∷ rest) (32 ∷ []) text)) ∙ no_blank_behind ((b ∷ rest) ++ 32 ∷ []) text all)

pub trimmed_shown : (text : List ℕ) → is_printing text ≡ true → trimmed text ≡ text
trimmed_shown [] none = absurd (true≢false (sym none))
trimmed_shown (b ∷ rest) all =
    ap without_last_blanks (first_stays b rest (no_blank b (and_parts (is_printing_byte b) (list_all is_printing_byte rest) all).0))
    ∙ last_stays (b ∷ rest) (no_blank_behind [] (b ∷ rest) all)

-- ---- the first word of a line

pub shown_bytes : (text : List ℕ) → is_printing text ≡ true → list_all is_printing_byte text ≡ true
shown_bytes [] none = refl
shown_bytes (b ∷ rest) all = all

first_blank : (front text : List ℕ) → list_all is_printing_byte front ≡ true → position_or_len is_blank (front ++ 32 ∷ text) ≡ length front
first_blank [] text all = refl
first_blank (b ∷ front) text all =
    let parts = and_parts (is_printing_byte b) (list_all is_printing_byte front) all in
    ap (λ z. cond (not z) (1 + position_or_len is_blank (front ++ 32 ∷ text)) 0) (no_blank b parts.0) ∙ ap (λ z. 1 + z) (first_blank front text parts.1) ∙ omega arith

-- what stands before the first blank, and behind it
pub word_before : (front text : List ℕ) → is_printing front ≡ true → before_first is_blank (front ++ 32 ∷ text) ≡ front
word_before front text all = ap (λ z. take z (front ++ 32 ∷ text)) (first_blank front text (shown_bytes front all)) ∙ take_at front (32 ∷ text) (length front) refl

pub text_behind : (front text : List ℕ) → is_printing front ≡ true → after_first is_blank (front ++ 32 ∷ text) ≡ text
text_behind front text all =
    ap (λ z. drop (z + 1) (front ++ 32 ∷ text)) (first_blank front text (shown_bytes front all))
    ∙ ap (drop (length front + 1)) (sym (append_assoc front (32 ∷ []) text))
    ∙ drop_at (front ++ 32 ∷ []) text (length front + 1) (length-append front (32 ∷ []))

-- ---- texts that join no lines

shown_prints : (b : ℕ) → is_shown_byte b ≡ true → is_printing_byte b ≡ true
shown_prints b h = (and_parts (is_printing_byte b) (not (b == 92)) h).0

-- a text that is shown prints, and its line isn't joined with the next
pub shown_printing : (text : List ℕ) → is_shown text ≡ true → is_printing text ≡ true
shown_printing [] none = none
shown_printing (b ∷ text) all = all_weaker is_shown_byte is_printing_byte shown_prints (b ∷ text) all

pub shown_whole : (text : List ℕ) → is_shown text ≡ true → ends_in (codes "\\") text ≡ false
shown_whole [] none = absurd (true≢false (sym none))
shown_whole (b ∷ []) all = ap (λ z. z && true) (no_backslash b (and_parts (is_shown_byte b) true all).0)
shown_whole (b ∷ c ∷ text) all =
    ap (λ z. pointwise nat_eq (92 ∷ []) (drop z (b ∷ c ∷ text))) (let e : length (b ∷ c ∷ text) - 1 ≡ suc (length (c ∷ text) - 1) = omega arith in e)
    ∙ shown_whole (c ∷ text) (and_parts (is_shown_byte b) (list_all is_shown_byte (c ∷ text)) all).1
