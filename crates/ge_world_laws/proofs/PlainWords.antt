-- Plain words, joined by blanks, are the words of their line, and the line is the whole text.
use Rattle.std.proofs.Common.{◌≡◌, ℕ, suc, ◌+◌, ◌-◌, Bool, true, false, cond, if◌then◌else◌, List, [], ◌∷◌, ◌++◌, length, map, take, drop, Option, Some, None, Result, Ok, Err, refl, ap, sym, ◌∙◌, subst, arith, append_assoc, append-nil, length-append, true≢false, unwrap_or, decimal, codes}
use Rattle.std.specs.Prelude.{◌==◌, ◌&&◌, ◌||◌, nat_le, not}
use Rattle.std.specs.List.{list_all, position, position_or_len}
use Rattle.std.proofs.lemmas.Bool.{and_parts}
use Rattle.std.proofs.lemmas.Grind.{common_steps}
use Rattle.std.proofs.lemmas.List.{take_at, drop_at}
use Rattle.std.proofs.lemmas.List.Sums.{prefix_len-le-length}
use Rattle.ge_model_text.specs.declared.Span.{Span}
use Rattle.ge_model_text.specs.Value.{is_digit}
use Rattle.ge_model_text.specs.Words.{is_blank, is_quote, ends_word, before_blank, quoted_word, quoted_taken, word_here, taken_here, joined, words_from, text_at, texts_of}
use Rattle.ge_model_rows.specs.Pieces.{before_byte, behind_byte, is_digits, joined_by}
use Rattle.ge_model_rows.proofs.Digits.{decimal_digits, all_digits}
use Rattle.ge_model_grammar.specs.Lines.{is_plain_byte}
use Rattle.ge_model_grammar.specs.Commands.{line_words}

-- a byte that prints and is no blank
abbrev pub is_shown : ℕ → Bool
is_shown b = nat_le 33 b && nat_le b 126

-- a byte that is no blank
abbrev is_free : ℕ → Bool
is_free b = not (is_blank b)

-- a word of bytes that print, without blanks, that doesn't begin with a quote
abbrev pub IsPlain : List ℕ → Type 0
IsPlain [] = ⊥
IsPlain (b ∷ bs) = (is_quote b ≡ false) × (list_all is_shown (b ∷ bs) ≡ true)

abbrev pub ArePlain : List (List ℕ) → Type 0
ArePlain [] = Unit {0}
ArePlain (w ∷ ws) = IsPlain w × ArePlain ws

-- words with one blank between each two
abbrev pub line_of : List (List ℕ) → List ℕ
line_of words = joined_by (codes " ") words

-- ---- bytes

pub weaker : (p q : ℕ → Bool) → ((b : ℕ) → p b ≡ true → q b ≡ true) → (bs : List ℕ) → list_all p bs ≡ true → list_all q bs ≡ true
weaker p q step [] all = refl
weaker p q step (b ∷ bs) all = let parts = and_parts (p b) (list_all p bs) all in λ i. step b parts.0 i && weaker p q step bs parts.1 i

shown_free : (b : ℕ) → is_shown b ≡ true → is_free b ≡ true
shown_free b shown = grind arith

free_is : (b : ℕ) → is_free b ≡ true → is_blank b ≡ false
free_is b is = by (is_blank b) is
  where
    by : (x : Bool) → not x ≡ true → x ≡ false
    by true is = absurd (true≢false (sym is))
    by false is = refl

-- ---- the words of a line

unwrap_position : {X : Type 0} (p : X → Bool) (xs : List X) → unwrap_or (position p xs) (length xs) ≡ position_or_len p xs
unwrap_position p xs = grind (arith, common_steps, prefix_len-le-length)

-- no blank stands in a word, and one behind it, or the end
first_end : (bs tail : List ℕ) → list_all is_free bs ≡ true → ends_word tail ≡ true → position_or_len is_blank (bs ++ tail) ≡ length bs
first_end [] [] all end = refl
first_end [] (t ∷ tail) all end = ap (λ b. cond (not b) (1 + position_or_len is_blank tail) 0) end
first_end (b ∷ bs) tail all end =
    let parts = and_parts (is_free b) (list_all is_free bs) all in
    ap (λ z. cond (not z) (1 + position_or_len is_blank (bs ++ tail)) 0) (free_is b parts.0) ∙ ap (λ n. 1 + n) (first_end bs tail parts.1 end) ∙ omega arith

before_end : (bs tail : List ℕ) → list_all is_free bs ≡ true → ends_word tail ≡ true → before_blank (bs ++ tail) ≡ length bs
before_end bs tail all end = unwrap_position is_blank (bs ++ tail) ∙ first_end bs tail all end

-- bytes of a word that is listed are passed by
passed : (place : ℕ) (bs tail : List ℕ) → words_from place (length bs) (bs ++ tail) ≡ words_from (place + length bs) 0 tail
passed place [] tail = ap (λ p. words_from p 0 tail) (omega arith)
passed place (b ∷ bs) tail = passed (place + 1) bs tail ∙ ap (λ p. words_from p 0 tail) (omega arith)

-- the words of a line behind others
record Reads (front line : List ℕ) (words : List (List ℕ)) : Type 0 where
  spans : List Span
  is : words_from (length front) 0 line ≡ Ok spans
  texts : map (text_at (front ++ line)) spans ≡ words

-- one word before a tail
module _ (front : List ℕ) (b : ℕ) (bs tail : List ℕ) (plain : IsPlain (b ∷ bs)) (end : ends_word tail ≡ true) where
  all_free : list_all is_free (b ∷ bs) ≡ true
  all_free = weaker is_shown is_free shown_free (b ∷ bs) plain.1

  free : list_all is_free bs ≡ true
  free = (and_parts (is_free b) (list_all is_free bs) all_free).1

  first : is_blank b ≡ false
  first = free_is b (and_parts (is_free b) (list_all is_free bs) all_free).0

  here : word_here (length front) b (bs ++ tail) ≡ Ok (record { from = length front; to = length front + 1 + length bs } ∷ [])
  here =
      ap (λ z. if z then Ok [] else (if is_quote b then quoted_word (length front) (bs ++ tail) (position (λ c. c == b) (bs ++ tail)) else Ok (record { from = length front; to = length front + 1 + before_blank (bs ++ tail) } ∷ []))) first
      ∙ ap (λ z. if z then quoted_word (length front) (bs ++ tail) (position (λ c. c == b) (bs ++ tail)) else Ok (record { from = length front; to = length front + 1 + before_blank (bs ++ tail) } ∷ [])) plain.0
      ∙ ap (λ n. Ok (record { from = length front; to = length front + 1 + n } ∷ [])) (before_end bs tail free end)

  taken : taken_here b (bs ++ tail) ≡ length bs
  taken =
      ap (λ z. if z then 0 else (if is_quote b then quoted_taken (position (λ c. c == b) (bs ++ tail)) else before_blank (bs ++ tail))) first
      ∙ ap (λ z. if z then quoted_taken (position (λ c. c == b) (bs ++ tail)) else before_blank (bs ++ tail)) plain.0
      ∙ before_end bs tail free end

  -- the word, and then those of the tail
  word_then : (spans : List Span) → words_from (length front + 1 + length bs) 0 tail ≡ Ok spans → words_from (length front) 0 ((b ∷ bs) ++ tail) ≡ Ok (record { from = length front; to = length front + 1 + length bs } ∷ spans)
  word_then spans rest =
      (λ i. joined (here i) (words_from (length front + 1) (taken i) (bs ++ tail)))
      ∙ ap (λ r. joined (Ok (record { from = length front; to = length front + 1 + length bs } ∷ [])) r) (passed (length front + 1) bs tail ∙ rest)

  -- its text is the word
  word_text : text_at (front ++ ((b ∷ bs) ++ tail)) (record { from = length front; to = length front + 1 + length bs }) ≡ b ∷ bs
  word_text =
      let size : length front + 1 + length bs - length front ≡ length (b ∷ bs) = omega arith in
      ap (λ n. take n (drop (length front) (front ++ ((b ∷ bs) ++ tail)))) size
      ∙ ap (λ xs. take (length (b ∷ bs)) xs) (drop_at front ((b ∷ bs) ++ tail) (length front) refl)
      ∙ take_at (b ∷ bs) tail (length (b ∷ bs)) refl

reads : (front : List ℕ) (words : List (List ℕ)) → ArePlain words → Reads front (line_of words) words
reads front [] plain = record { spans = []; is = refl; texts = refl }
reads front ([] ∷ more) plain = absurd plain.0
reads front ((b ∷ bs) ∷ []) plain = record {
  spans = record { from = length front; to = length front + 1 + length bs } ∷ [];
  is = word_then front b bs [] plain.0 refl [] refl;
  texts = ap (λ t. t ∷ []) (word_text front b bs [] plain.0 refl);
}
reads front ((b ∷ bs) ∷ v ∷ more) plain = by (reads (front ++ ((b ∷ bs) ++ 32 ∷ [])) (v ∷ more) plain.1)
  where
    by : Reads (front ++ ((b ∷ bs) ++ 32 ∷ [])) (line_of (v ∷ more)) (v ∷ more) → Reads front ((b ∷ bs) ++ 32 ∷ line_of (v ∷ more)) ((b ∷ bs) ∷ v ∷ more)
    by rest =
        let size : length (front ++ ((b ∷ bs) ++ 32 ∷ [])) ≡ length front + 1 + length bs + 1 = length-append front ((b ∷ bs) ++ 32 ∷ []) ∙ ap (λ n. length front + n) (length-append (b ∷ bs) (32 ∷ [])) ∙ omega arith in
        let next : words_from (length front + 1 + length bs) 0 (32 ∷ line_of (v ∷ more)) ≡ Ok rest.spans = ap (λ r. joined (Ok []) r) (ap (λ p. words_from p 0 (line_of (v ∷ more))) (sym size) ∙ rest.is) in
        let whole : (front ++ ((b ∷ bs) ++ 32 ∷ [])) ++ line_of (v ∷ more) ≡ front ++ ((b ∷ bs) ++ 32 ∷ line_of (v ∷ more)) =
        append_assoc front ((b ∷ bs) ++ 32 ∷ []) (line_of (v ∷ more)) ∙ ap (λ l. front ++ l) (append_assoc (b ∷ bs) (32 ∷ []) (line_of (v ∷ more))) in
        record {
          spans = record { from = length front; to = length front + 1 + length bs } ∷ rest.spans;
          is = word_then front b bs (32 ∷ line_of (v ∷ more)) plain.0 refl rest.spans next;
          texts = λ i. word_text front b bs (32 ∷ line_of (v ∷ more)) plain.0 refl i ∷ (ap (λ l. map (text_at l) rest.spans) (sym whole) ∙ rest.texts) i;
        }

-- plain words, joined by blanks, are the words of their line
pub words_back : (words : List (List ℕ)) → ArePlain words → texts_of (line_of words) ≡ Some words
words_back words plain =
    let r = reads [] words plain in
    ap (λ (found : Result (List Span) ℕ). elim found as (λ x. Option (List (List ℕ))) [ Ok spans ↦ Some (map (text_at (line_of words)) spans) | Err place ↦ None ]) r.is ∙ ap (λ x. Some x) r.texts

-- ---- the line is plain, and the whole text

-- a byte of a line of words is shown, or the blank between two
abbrev is_line_byte : ℕ → Bool
is_line_byte b = is_shown b || b == 32

shown_line : (b : ℕ) → is_shown b ≡ true → is_line_byte b ≡ true
shown_line b shown = grind arith

line_plain : (b : ℕ) → is_line_byte b ≡ true → is_plain_byte b ≡ true
line_plain b is = grind arith

line_feed : (b : ℕ) → is_line_byte b ≡ true → (b == 10) ≡ false
line_feed b is = grind arith

word_bytes : (w : List ℕ) → IsPlain w → list_all is_line_byte w ≡ true
word_bytes [] plain = absurd plain
word_bytes (b ∷ bs) plain = weaker is_shown is_line_byte shown_line (b ∷ bs) plain.1

line_bytes : (words : List (List ℕ)) → ArePlain words → list_all is_line_byte (line_of words) ≡ true
line_bytes [] all = refl
line_bytes (w ∷ []) all = subst (λ l. list_all is_line_byte l ≡ true) (sym (append-nil w)) (word_bytes w all.0)
line_bytes (w ∷ v ∷ more) all = behind w (word_bytes w all.0) (line_bytes (v ∷ more) all.1)
  where
    behind : (w : List ℕ) → list_all is_line_byte w ≡ true → list_all is_line_byte (line_of (v ∷ more)) ≡ true → list_all is_line_byte (w ++ 32 ∷ line_of (v ∷ more)) ≡ true
    behind [] here_is rest = rest
    behind (b ∷ w) here_is rest = let parts = and_parts (is_line_byte b) (list_all is_line_byte w) here_is in λ i. parts.0 i && behind w parts.1 rest i

no_feed : (bs : List ℕ) → list_all is_line_byte bs ≡ true → position_or_len (λ b. b == 10) bs ≡ length bs
no_feed [] all = refl
no_feed (b ∷ bs) all =
    let parts = and_parts (is_line_byte b) (list_all is_line_byte bs) all in
    ap (λ z. cond (not z) (1 + position_or_len (λ b. b == 10) bs) 0) (line_feed b parts.0) ∙ ap (λ n. 1 + n) (no_feed bs parts.1) ∙ omega arith

-- the line of plain words is the first line of its text, and nothing stands behind it
line_before : (words : List (List ℕ)) → ArePlain words → before_byte 10 (line_of words) ≡ line_of words
line_before words all =
    ap (λ n. take n (line_of words)) (no_feed (line_of words) (line_bytes words all))
    ∙ ap (λ xs. take (length (line_of words)) xs) (sym (append-nil (line_of words))) ∙ take_at (line_of words) [] (length (line_of words)) refl

pub line_behind : (words : List (List ℕ)) → ArePlain words → behind_byte 10 (line_of words) ≡ []
line_behind words all = ap (λ n. drop (n + 1) (line_of words)) (no_feed (line_of words) (line_bytes words all)) ∙ past (line_of words)
  where
    past : (xs : List ℕ) → drop (length xs + 1) xs ≡ []
    past [] = refl
    past (x ∷ xs) = let size : suc (length xs) + 1 ≡ suc (length xs + 1) = omega arith in ap (λ n. drop n (x ∷ xs)) size ∙ past xs

-- so these are the words of its first line
pub line_words_back : (words : List (List ℕ)) → ArePlain words → line_words (before_byte 10 (line_of words)) ≡ Some words
line_words_back words all =
    ap line_words (line_before words all)
    ∙ ap (λ b. if b then texts_of (line_of words) else None) (weaker is_line_byte is_plain_byte line_plain (line_of words) (line_bytes words all))
    ∙ words_back words all

-- ---- numbers

digit_shown : (b : ℕ) → is_digit b ≡ true → is_shown b ≡ true
digit_shown b digit = grind arith

digit_no_quote : (b : ℕ) → is_digit b ≡ true → is_quote b ≡ false
digit_no_quote b digit = grind arith

-- a number is a plain word
pub decimal_plain : (n : ℕ) → IsPlain (decimal n)
decimal_plain n = by (decimal n) (decimal_digits n)
  where
    by : (ds : List ℕ) → is_digits ds ≡ true → IsPlain ds
    by [] some = absurd (true≢false (sym some))
    by (b ∷ bs) some =
        let all = all_digits (b ∷ bs) some in
        (digit_no_quote b (and_parts (is_digit b) (list_all is_digit bs) all).0, weaker is_digit is_shown digit_shown (b ∷ bs) all)
