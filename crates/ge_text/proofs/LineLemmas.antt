-- The words that are found are the words of the line.
use Rattle.std.proofs.Common.{◌≡◌, ℕ, suc, zero, ◌+◌, ◌<◌, ◌≤◌, ◌==◌, Bool, true, false, cond, not, ◌||◌, nat_lt, List, [], ◌∷◌, ◌++◌, length, get_or, drop, refl, ap, sym, subst, ◌∙◌, arith, add-one, drop-cons, length-drop, Option, Some, None, Result, Ok, Err, ◌⊎◌, inl, inr, IfOk, unwrap_or, map, Vec}
use Rattle.std.specs.List.{position, position_or_len}
use Rattle.std.proofs.lemmas.Bool.{cond-true, cond-false, eqb-true, eq-eqb, ltb-false, both_ways, cases_order}
use Rattle.std.proofs.lemmas.List.Quantifiers.{position-Some}
use Rattle.std.proofs.Math.ListN.{drop_of_length-le}
use Rattle.ge_model_text.specs.declared.Span.{Span}
use Rattle.ge_model_text.specs.Words.{is_blank, is_quote, ends_word, before_blank, quoted_word, quoted_taken, word_here, taken_here, joined, words_from, words_of, text_at, texts_of}
use Rattle.ge_model_text.specs.Line.{Encloses, GoesOn, HasWords, NoMore, Blank, Plain, Quoted, HasOpenQuote, Here, BehindBlank, BehindPlain, BehindQuoted}
use Rattle.std.specs.declared.alloc.Global.{Global}
use Rattle.std.specs.Borrow.{Bor}
use Rattle.ge_text.specs.Lending.{lent_texts, texts_at, SplitsInto, Lends, AreItsWords}
use Rattle.ge_text.specs.declared.splitting.TextFault.{TextFault}
use Rattle.ge_text.specs.declared.splitting.TextFault.TheVariants.{Quote, NoMemory}
use Rattle.ge_text.proofs.WordsLemmas.{words_from-turn}

-- where a test passes nowhere

before_by : (test : ℕ → Bool) (x : ℕ) (xs : List ℕ) (t : Bool) (k : ℕ) → test x ≡ t → k < cond (not t) (1 + position_or_len test xs) 0
    → ((j : ℕ) → j < position_or_len test xs → test (get_or xs j 0) ≡ false) → test (get_or (x ∷ xs) k 0) ≡ false
before_by test x xs true k is below later = absurd (omega arith)
before_by test x xs false zero is below later = is
before_by test x xs false (suc k) is below later = later k (omega arith)

before_place : (test : ℕ → Bool) (xs : List ℕ) (k : ℕ) → k < position_or_len test xs → test (get_or xs k 0) ≡ false
before_place test [] k below = absurd (omega arith)
before_place test (x ∷ xs) k below = before_by test x xs (test x) k refl below (before_place test xs)

none_by : (t : Bool) (n : ℕ) → cond t (Some n) None ≡ None → t ≡ false
none_by true n is = absurd (cc)
none_by false n is = refl

nowhere : (test : ℕ → Bool) (xs : List ℕ) (k : ℕ) → position test xs ≡ None → k < length xs → test (get_or xs k 0) ≡ false
nowhere test xs k is below =
    let past : length xs ≤ position_or_len test xs = ltb-false (position_or_len test xs) (length xs) (none_by (nat_lt (position_or_len test xs) (length xs)) (position_or_len test xs) is) in
    before_place test xs k (omega arith)

-- what the words of the bytes are found to be is what they are
abbrev pub Says : ℕ → List ℕ → Result (List Span) ℕ → Type 0
Says place bytes (Ok spans) = HasWords place bytes spans
Says place bytes (Err there) = HasOpenQuote place bytes there

says_behind : (place next : ℕ) (bytes rest : List ℕ) (found : List Span) (others : Result (List Span) ℕ) → Says next rest others
    → ((spans : List Span) → HasWords next rest spans → HasWords place bytes (found ++ spans))
    → ((there : ℕ) → HasOpenQuote next rest there → HasOpenQuote place bytes there)
    → Says place bytes (joined (Ok found) others)
says_behind place next bytes rest found (Ok spans) says words opened = words spans says
says_behind place next bytes rest found (Err there) says words opened = opened there says

-- a place with what stands behind it
pub at_drop : (bytes : List ℕ) (size b : ℕ) (rest : List ℕ) → drop size bytes ≡ b ∷ rest → (size < length bytes) × (get_or bytes size 0 ≡ b)
at_drop [] zero b rest is = absurd (cc)
at_drop [] (suc size) b rest is = absurd (cc)
at_drop (c ∷ bytes) zero b rest is = let same : c ≡ b = cc in (omega arith, same)
at_drop (c ∷ bytes) (suc size) b rest is = let found = at_drop bytes size b rest is in let below : size < length bytes = found.0 in (omega arith, found.1)

pub from_place : (bytes : List ℕ) (k b : ℕ) → k < length bytes → get_or bytes k 0 ≡ b → drop k bytes ≡ b ∷ drop (k + 1) bytes
from_place bytes k b below is = rw add-one (drop-cons bytes k 0 below ∙ ap (λ c. c ∷ drop (suc k) bytes) is)

-- blanks

shorter : (size : ℕ) (bytes : List ℕ) → length (drop size bytes) ≤ length bytes
shorter size bytes = omega (arith, length-drop size bytes)

-- all shorter lists of bytes are said to be what they are
abbrev SaysShorter : List ℕ → Type 0
SaysShorter bytes = (next : ℕ) (rest : List ℕ) → length rest ≤ length bytes → Says next rest (words_from next 0 rest)

says_blank : (place b : ℕ) (bytes : List ℕ) → is_blank b ≡ true → SaysShorter bytes → Says place (b ∷ bytes) (words_from place 0 (b ∷ bytes))
says_blank place b bytes blank later =
    let next : place + 1 + 0 ≡ place + 1 = omega arith in
    let turn = words_from-turn place b 0 bytes [] (cond-true (is_blank b) (Ok []) _ blank) (sym (cond-true (is_blank b) 0 _ blank)) in
    subst (λ (r : Result (List Span) ℕ). Says place (b ∷ bytes) r) (sym turn)
    (says_behind place (place + 1 + 0) (b ∷ bytes) bytes [] (words_from (place + 1 + 0) 0 bytes) (later (place + 1 + 0) bytes (omega arith))
    (λ spans words. Blank place b bytes spans blank (subst (λ (n : ℕ). HasWords n bytes spans) next words))
    (λ there opened. BehindBlank place b bytes there blank (subst (λ (n : ℕ). HasOpenQuote n bytes there) next opened)))

-- words without quotes

goes_on_by : (bytes : List ℕ) (o : Option ℕ) → position is_blank bytes ≡ o → GoesOn bytes (unwrap_or o (length bytes))
goes_on_by bytes None is = record {
  within = omega arith;
  others = λ k below. nowhere is_blank bytes k is below;
  ends = subst (λ (rest : List ℕ). ends_word rest ≡ true) (sym (drop_of_length-le bytes (omega arith))) refl;
}
goes_on_by bytes (Some size) is =
    let found = position-Some is_blank bytes size 0 is in
    let below : size < length bytes = found.0 in
    record {
      within = omega arith;
      others = found.2;
      ends = subst (λ (rest : List ℕ). ends_word rest ≡ true) (sym (from_place bytes size (get_or bytes size 0) below refl)) found.1;
    }

says_plain : (place b : ℕ) (bytes : List ℕ) → is_blank b ≡ false → is_quote b ≡ false → SaysShorter bytes → Says place (b ∷ bytes) (words_from place 0 (b ∷ bytes))
says_plain place b bytes blank quote later =
    let size : ℕ = before_blank bytes in
    let span : Span = record { from = place; to = place + 1 + size } in
    let goes : GoesOn bytes size = goes_on_by bytes (position is_blank bytes) refl in
    let word : word_here place b bytes ≡ Ok (span ∷ []) = cond-false (is_blank b) (Ok []) _ blank ∙ cond-false (is_quote b) _ (Ok (span ∷ [])) quote in
    let more : size ≡ taken_here b bytes = sym (cond-false (is_blank b) 0 _ blank ∙ cond-false (is_quote b) _ size quote) in
    subst (λ (r : Result (List Span) ℕ). Says place (b ∷ bytes) r) (sym (words_from-turn place b size bytes (span ∷ []) word more))
    (says_behind place (place + 1 + size) (b ∷ bytes) (drop size bytes) (span ∷ []) (words_from (place + 1 + size) 0 (drop size bytes))
    (later (place + 1 + size) (drop size bytes) (shorter size bytes))
    (λ spans words. Plain place b bytes size spans blank quote goes words)
    (λ there opened. BehindPlain place b bytes size there blank quote goes opened))

-- words in quotes

no_blank_by : (t : Bool) (b : ℕ) → (b == 39) ≡ t → (t || (b == 34)) ≡ true → is_blank b ≡ false
no_blank_by true b is quote = subst (λ (c : ℕ). is_blank c ≡ false) (sym (eqb-true b 39 is)) refl
no_blank_by false b is quote = subst (λ (c : ℕ). is_blank c ≡ false) (sym (eqb-true b 34 quote)) refl

quote_no_blank : (b : ℕ) → is_quote b ≡ true → is_blank b ≡ false
quote_no_blank b quote = no_blank_by (b == 39) b refl quote

pub word_quoted : (place b : ℕ) (bytes : List ℕ) (o : Option ℕ) → is_quote b ≡ true → position (λ c. c == b) bytes ≡ o → word_here place b bytes ≡ quoted_word place bytes o
word_quoted place b bytes o quote is =
    cond-false (is_blank b) (Ok []) _ (quote_no_blank b quote) ∙ (cond-true (is_quote b) (quoted_word place bytes (position (λ c. c == b) bytes)) _ quote
    ∙ ap (λ p. quoted_word place bytes p) is)

pub taken_quoted : (b : ℕ) (bytes : List ℕ) (o : Option ℕ) → is_quote b ≡ true → position (λ c. c == b) bytes ≡ o → quoted_taken o ≡ taken_here b bytes
taken_quoted b bytes o quote is =
    sym (cond-false (is_blank b) 0 _ (quote_no_blank b quote) ∙ (cond-true (is_quote b) (quoted_taken (position (λ c. c == b) bytes)) _ quote ∙ ap quoted_taken is))

says_open : (place b : ℕ) (bytes : List ℕ) → is_quote b ≡ true → word_here place b bytes ≡ Err place → ((size : ℕ) (rest : List ℕ) → Encloses b bytes size rest → ⊥)
    → Says place (b ∷ bytes) (words_from place 0 (b ∷ bytes))
says_open place b bytes quote word none =
    subst (λ (r : Result (List Span) ℕ). Says place (b ∷ bytes) r)
    (sym (ap (λ w. joined w (words_from (place + 1) (taken_here b bytes) bytes)) word))
    (Here place b bytes quote none)

not_enclosed : (b : ℕ) (bytes : List ℕ) → position (λ c. c == b) bytes ≡ None → (size : ℕ) (rest : List ℕ) → Encloses b bytes size rest → ⊥
not_enclosed b bytes is size rest encloses =
    let found = at_drop bytes size b rest encloses.closed in
    both_ways (get_or bytes size 0 == b) (nowhere (λ c. c == b) bytes size is found.0) (eq-eqb (get_or bytes size 0) b found.1)

not_ended_by : (b : ℕ) (bytes : List ℕ) (k : ℕ) → position (λ c. c == b) bytes ≡ Some k → ends_word (drop (k + 1) bytes) ≡ false
    → (size : ℕ) (rest : List ℕ) → Encloses b bytes size rest → (size ≡ k) ⊎ ((size < k) ⊎ (k < size)) → ⊥
not_ended_by b bytes k is goes_on size rest encloses (inl same) =
    let found = position-Some (λ c. c == b) bytes k 0 is in
    let here : drop k bytes ≡ b ∷ drop (k + 1) bytes = from_place bytes k b found.0 (eqb-true (get_or bytes k 0) b found.1) in
    let there : drop k bytes ≡ b ∷ rest = subst (λ (n : ℕ). drop n bytes ≡ b ∷ rest) same encloses.closed in
    let rests : rest ≡ drop (k + 1) bytes = cc in
    both_ways (ends_word (drop (k + 1) bytes)) goes_on (subst (λ (r : List ℕ). ends_word r ≡ true) rests encloses.ends)
not_ended_by b bytes k is goes_on size rest encloses (inr (inl below)) =
    let found = at_drop bytes size b rest encloses.closed in
    both_ways (get_or bytes size 0 == b) ((position-Some (λ c. c == b) bytes k 0 is).2 size below) (eq-eqb (get_or bytes size 0) b found.1)
not_ended_by b bytes k is goes_on size rest encloses (inr (inr above)) =
    encloses.others k above (eqb-true (get_or bytes k 0) b (position-Some (λ c. c == b) bytes k 0 is).1)

pub encloses_at : (b : ℕ) (bytes : List ℕ) (k : ℕ) → position (λ c. c == b) bytes ≡ Some k → ends_word (drop (k + 1) bytes) ≡ true → Encloses b bytes k (drop (k + 1) bytes)
encloses_at b bytes k is ends =
    let found = position-Some (λ c. c == b) bytes k 0 is in
    record {
      others = λ j below same. both_ways (get_or bytes j 0 == b) (found.2 j below) (eq-eqb (get_or bytes j 0) b same);
      closed = from_place bytes k b found.0 (eqb-true (get_or bytes k 0) b found.1);
      ends = ends;
    }

says_closed : (place b : ℕ) (bytes : List ℕ) (k : ℕ) (ends : Bool) → is_quote b ≡ true → position (λ c. c == b) bytes ≡ Some k → ends_word (drop (k + 1) bytes) ≡ ends
    → SaysShorter bytes → Says place (b ∷ bytes) (words_from place 0 (b ∷ bytes))
says_closed place b bytes k false quote is ends later =
    says_open place b bytes quote
    (word_quoted place b bytes (Some k) quote is ∙ cond-false (ends_word (drop (k + 1) bytes)) _ (Err place) ends)
    (λ size rest encloses. not_ended_by b bytes k is ends size rest encloses (cases_order size k))
says_closed place b bytes k true quote is ends later =
    let span : Span = record { from = place + 1; to = place + 1 + k } in
    let word : word_here place b bytes ≡ Ok (span ∷ []) = word_quoted place b bytes (Some k) quote is ∙ cond-true (ends_word (drop (k + 1) bytes)) (Ok (span ∷ [])) (Err place) ends in
    let encloses : Encloses b bytes k (drop (k + 1) bytes) = encloses_at b bytes k is ends in
    subst (λ (r : Result (List Span) ℕ). Says place (b ∷ bytes) r) (sym (words_from-turn place b (k + 1) bytes (span ∷ []) word (taken_quoted b bytes (Some k) quote is)))
    (says_behind place (place + 1 + (k + 1)) (b ∷ bytes) (drop (k + 1) bytes) (span ∷ []) (words_from (place + 1 + (k + 1)) 0 (drop (k + 1) bytes))
    (later (place + 1 + (k + 1)) (drop (k + 1) bytes) (shorter (k + 1) bytes))
    (λ spans words. Quoted place b bytes k (drop (k + 1) bytes) spans quote encloses words)
    (λ there opened. BehindQuoted place b bytes k (drop (k + 1) bytes) there quote encloses opened))

says_quoted : (place b : ℕ) (bytes : List ℕ) (o : Option ℕ) → is_quote b ≡ true → position (λ c. c == b) bytes ≡ o → SaysShorter bytes → Says place (b ∷ bytes) (words_from place 0 (b ∷ bytes))
says_quoted place b bytes None quote is later = says_open place b bytes quote (word_quoted place b bytes None quote is) (not_enclosed b bytes is)
says_quoted place b bytes (Some k) quote is later = says_closed place b bytes k (ends_word (drop (k + 1) bytes)) quote is refl later

says_byte : (place b : ℕ) (bytes : List ℕ) (blank quote : Bool) → is_blank b ≡ blank → is_quote b ≡ quote → SaysShorter bytes → Says place (b ∷ bytes) (words_from place 0 (b ∷ bytes))
says_byte place b bytes true quote is_b is_q later = says_blank place b bytes is_b later
says_byte place b bytes false true is_b is_q later = says_quoted place b bytes (position (λ c. c == b) bytes) is_q refl later
says_byte place b bytes false false is_b is_q later = says_plain place b bytes is_b is_q later

says : (bound place : ℕ) (bytes : List ℕ) → length bytes ≤ bound → Says place bytes (words_from place 0 bytes)
says bound place [] few = NoMore place
says zero place (b ∷ bytes) few = absurd (omega arith)
says (suc bound) place (b ∷ bytes) few =
    says_byte place b bytes (is_blank b) (is_quote b) refl refl (λ next rest less. says bound next rest (omega arith))

-- what the words of a line are found to be is what they are
pub words_of_says : (line : List ℕ) → Says 0 line (words_of line)
words_of_says line = says (length line) 0 line (omega arith)

pub words_are : (line : List ℕ) (spans : List Span) → words_of line ≡ Ok spans → HasWords 0 line spans
words_are line spans is = subst (λ (r : Result (List Span) ℕ). Says 0 line r) is (words_of_says line)

pub quote_is_open : (line : List ℕ) (place : ℕ) → words_of line ≡ Err place → HasOpenQuote 0 line place
quote_is_open line place is = subst (λ (r : Result (List Span) ℕ). Says 0 line r) is (words_of_says line)

-- what lending the words of a line answers
abbrev pub Answer : Type 0
Answer = Result (Vec (Bor (List ℕ)) Global) TextFault

-- the texts at spans, if there are any
abbrev told : List ℕ → Result (List Span) ℕ → Option (List (List ℕ))
told line found = elim found [ Ok spans ↦ Some (map (text_at line) spans) | Err place ↦ None ]

texts_by : (answer : Answer) (line : List ℕ) (found : Result (List Span) ℕ) → words_of line ≡ found → SplitsInto answer (texts_at line found) → Lends answer (texts_of line)
texts_by (Ok words) line (Ok spans) is splits =
    let both : Ok (map (text_at line) spans) ≡ Ok (lent_texts words.items) = splits in
    let same : map (text_at line) spans ≡ lent_texts words.items = cc in
    ap (told line) is ∙ ap Some same
texts_by (Ok words) line (Err place) is splits = let both : Err place ≡ Ok (lent_texts words.items) = splits in absurd (cc)
texts_by (Err (Quote place)) line (Ok spans) is splits = let both : Ok (map (text_at line) spans) ≡ Err place = splits in absurd (cc)
texts_by (Err (Quote place)) line (Err there) is splits = ap (told line) is
texts_by (Err NoMemory) line found is splits = tt

pub splits_texts : (answer : Answer) (line : List ℕ) → SplitsInto answer (texts_at line (words_of line)) → Lends answer (texts_of line)
splits_texts answer line splits = texts_by answer line (words_of line) refl splits

spans_by : (line : List ℕ) (texts : List (List ℕ)) (found : Result (List Span) ℕ) → words_of line ≡ found → texts_at line found ≡ Ok texts → AreItsWords line texts
spans_by line texts (Ok spans) is same =
    let both : Ok (map (text_at line) spans) ≡ Ok texts = same in
    record { spans = spans; words = words_are line spans is; same = cc }
spans_by line texts (Err place) is same = let both : Err place ≡ Ok texts = same in absurd (cc)

pub splits_spans : (answer : Answer) (line : List ℕ) → SplitsInto answer (texts_at line (words_of line)) → IfOk answer (λ words. AreItsWords line (lent_texts words.items))
splits_spans (Ok words) line splits = spans_by line (lent_texts words.items) (words_of line) refl splits
splits_spans (Err fault) line splits = tt

quote_by : (line : List ℕ) (place : ℕ) (found : Result (List Span) ℕ) → words_of line ≡ found → texts_at line found ≡ Err place → HasOpenQuote 0 line place
quote_by line place (Ok spans) is same = let both : Ok (map (text_at line) spans) ≡ Err place = same in absurd (cc)
quote_by line place (Err there) is same =
    let both : Err there ≡ Err place = same in
    let here : there ≡ place = cc in
    quote_is_open line place (is ∙ ap (λ n. Err n) here)

pub splits_quote : (answer : Answer) (line : List ℕ) (place : ℕ) → SplitsInto answer (texts_at line (words_of line)) → answer ≡ Err (Quote place) → HasOpenQuote 0 line place
splits_quote answer line place splits quote =
    quote_by line place (words_of line) refl (subst (λ (r : Answer). SplitsInto r (texts_at line (words_of line))) quote splits)
