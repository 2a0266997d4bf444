-- The words of a line are found.
use Rattle.std.proofs.Common.{◌≡◌, ℕ, ◌+◌, ◌<◌, ◌≤◌, ◌==◌, Bool, true, false, cond, nat_lt, List, [], ◌∷◌, length, get_or, drop, refl, ap, sym, subst, ◌∙◌, arith, Option, Some, None, Result, Ok, Err, ◌⊎◌, inl, inr, unwrap_or, map}
use Rattle.std.specs.List.{position, position_or_len}
use Rattle.std.proofs.lemmas.Bool.{cond-true, cond-false, lt-ltb, le-ltb, ne_eqb, eq-eqb, cases_lt}
use Rattle.std.proofs.lemmas.List.Sums.{position_or_len_is}
use Rattle.ge_model_text.specs.declared.Span.{Span}
use Rattle.ge_model_text.specs.Words.{is_blank, is_quote, ends_word, before_blank, word_here, taken_here, joined, words_from, words_of, text_at}
use Rattle.ge_model_text.specs.Line.{Encloses, GoesOn, HasWords, NoMore, Blank, Plain, Quoted, HasOpenQuote, Here, BehindBlank, BehindPlain, BehindQuoted}
use Rattle.ge_text.specs.Lending.{texts_at, SplitsInto}
use Rattle.ge_text.proofs.WordsLemmas.{words_from-turn}
use Rattle.ge_text.proofs.LineLemmas.{Answer, at_drop, from_place, word_quoted, taken_quoted, encloses_at}

-- the first place that passes a test
first_place : (test : ℕ → Bool) (xs : List ℕ) (k : ℕ) → k < length xs → ((j : ℕ) → j < k → test (get_or xs j 0) ≡ false) → test (get_or xs k 0) ≡ true → position test xs ≡ Some k
first_place test xs k below before here =
    let place : position_or_len test xs ≡ k = position_or_len_is test xs k 0 (omega arith) before (λ _. here) in
    ap (λ n. cond (nat_lt n (length xs)) (Some n) None) place ∙ cond-true (nat_lt k (length xs)) (Some k) None (lt-ltb k (length xs) below)

blank_at : (bytes : List ℕ) (size : ℕ) → ends_word (drop size bytes) ≡ true → size < length bytes → is_blank (get_or bytes size 0) ≡ true
blank_at bytes size ends below = subst (λ (rest : List ℕ). ends_word rest ≡ true) (from_place bytes size (get_or bytes size 0) below refl) ends

before_by : (bytes : List ℕ) (size : ℕ) → size ≤ length bytes → position_or_len is_blank bytes ≡ size → (size < length bytes) ⊎ (length bytes ≤ size) → before_blank bytes ≡ size
before_by bytes size within place (inl below) =
    ap (λ n. unwrap_or (cond (nat_lt n (length bytes)) (Some n) None) (length bytes)) place
    ∙ ap (λ o. unwrap_or o (length bytes)) (cond-true (nat_lt size (length bytes)) (Some size) None (lt-ltb size (length bytes) below))
before_by bytes size within place (inr past) =
    let all : length bytes ≡ size = omega arith in
    ap (λ n. unwrap_or (cond (nat_lt n (length bytes)) (Some n) None) (length bytes)) place
    ∙ (ap (λ o. unwrap_or o (length bytes)) (cond-false (nat_lt size (length bytes)) (Some size) None (le-ltb size (length bytes) past)) ∙ all)

before_is : (bytes : List ℕ) (size : ℕ) → GoesOn bytes size → before_blank bytes ≡ size
before_is bytes size goes =
    before_by bytes size goes.within
    (position_or_len_is is_blank bytes size 0 goes.within goes.others (blank_at bytes size goes.ends))
    (cases_lt size (length bytes))

closed_at : (b : ℕ) (bytes : List ℕ) (size : ℕ) (rest : List ℕ) → Encloses b bytes size rest → position (λ c. c == b) bytes ≡ Some size
closed_at b bytes size rest encloses =
    let found = at_drop bytes size b rest encloses.closed in
    first_place (λ c. c == b) bytes size found.0 (λ j below. ne_eqb (get_or bytes j 0) b (encloses.others j below)) (eq-eqb (get_or bytes size 0) b found.1)

rest_is : (b : ℕ) (bytes : List ℕ) (size : ℕ) (rest : List ℕ) → Encloses b bytes size rest → rest ≡ drop (size + 1) bytes
rest_is b bytes size rest encloses =
    let found = at_drop bytes size b rest encloses.closed in
    let here : drop size bytes ≡ b ∷ drop (size + 1) bytes = from_place bytes size b found.0 found.1 in
    let there : drop size bytes ≡ b ∷ rest = encloses.closed in
    cc

-- behind each kind of word

behind_blank : (place b : ℕ) (bytes : List ℕ) → is_blank b ≡ true → words_from place 0 (b ∷ bytes) ≡ joined (Ok []) (words_from (place + 1) 0 bytes)
behind_blank place b bytes blank =
    let next : place + 1 + 0 ≡ place + 1 = omega arith in
    words_from-turn place b 0 bytes [] (cond-true (is_blank b) (Ok []) _ blank) (sym (cond-true (is_blank b) 0 _ blank))
    ∙ ap (λ n. joined (Ok []) (words_from n 0 bytes)) next

behind_plain : (place b : ℕ) (bytes : List ℕ) (size : ℕ) → is_blank b ≡ false → is_quote b ≡ false → GoesOn bytes size
    → words_from place 0 (b ∷ bytes) ≡ joined (Ok (record { from = place; to = place + 1 + size } ∷ [])) (words_from (place + 1 + size) 0 (drop size bytes))
behind_plain place b bytes size blank quote goes =
    let same : before_blank bytes ≡ size = before_is bytes size goes in
    let span : Span = record { from = place; to = place + 1 + size } in
    let word : word_here place b bytes ≡ Ok (span ∷ []) =
    cond-false (is_blank b) (Ok []) _ blank
    ∙ (cond-false (is_quote b) _ (Ok (record { from = place; to = place + 1 + before_blank bytes } ∷ [])) quote
    ∙ ap (λ n. Ok (record { from = place; to = place + 1 + n } ∷ [])) same) in
    let more : size ≡ taken_here b bytes = sym (cond-false (is_blank b) 0 _ blank ∙ (cond-false (is_quote b) _ (before_blank bytes) quote ∙ same)) in
    words_from-turn place b size bytes (span ∷ []) word more

behind_quoted : (place b : ℕ) (bytes : List ℕ) (size : ℕ) (rest : List ℕ) → is_quote b ≡ true → Encloses b bytes size rest
    → words_from place 0 (b ∷ bytes) ≡ joined (Ok (record { from = place + 1; to = place + 1 + size } ∷ [])) (words_from (place + 1 + (size + 1)) 0 rest)
behind_quoted place b bytes size rest quote encloses =
    let at : position (λ c. c == b) bytes ≡ Some size = closed_at b bytes size rest encloses in
    let rests : rest ≡ drop (size + 1) bytes = rest_is b bytes size rest encloses in
    let span : Span = record { from = place + 1; to = place + 1 + size } in
    let ends : ends_word (drop (size + 1) bytes) ≡ true = subst (λ (r : List ℕ). ends_word r ≡ true) rests encloses.ends in
    let word : word_here place b bytes ≡ Ok (span ∷ []) = word_quoted place b bytes (Some size) quote at ∙ cond-true (ends_word (drop (size + 1) bytes)) (Ok (span ∷ [])) (Err place) ends in
    words_from-turn place b (size + 1) bytes (span ∷ []) word (taken_quoted b bytes (Some size) quote at)
    ∙ ap (λ r. joined (Ok (span ∷ [])) (words_from (place + 1 + (size + 1)) 0 r)) (sym rests)

-- each list of words is found
found : (place : ℕ) (bytes : List ℕ) (spans : List Span) → HasWords place bytes spans → words_from place 0 bytes ≡ Ok spans
found place bytes spans (NoMore p) = refl
found place bytes spans (Blank p b rest others blank words) =
    behind_blank p b rest blank ∙ ap (λ r. joined (Ok []) r) (found (p + 1) rest others words)
found place bytes spans (Plain p b rest size others blank quote goes words) =
    behind_plain p b rest size blank quote goes
    ∙ ap (λ r. joined (Ok (record { from = p; to = p + 1 + size } ∷ [])) r) (found (p + 1 + size) (drop size rest) others words)
found place bytes spans (Quoted p b more size rest others quote encloses words) =
    behind_quoted p b more size rest quote encloses
    ∙ ap (λ r. joined (Ok (record { from = p + 1; to = p + 1 + size } ∷ [])) r) (found (p + 1 + (size + 1)) rest others words)

-- a quote that encloses nothing is found
quote_by : (place b : ℕ) (bytes : List ℕ) (k : ℕ) (ends : Bool) → is_quote b ≡ true → position (λ c. c == b) bytes ≡ Some k → ends_word (drop (k + 1) bytes) ≡ ends
    → ((size : ℕ) (rest : List ℕ) → Encloses b bytes size rest → ⊥) → word_here place b bytes ≡ Err place
quote_by place b bytes k true quote is ends none = absurd (none k (drop (k + 1) bytes) (encloses_at b bytes k is ends))
quote_by place b bytes k false quote is ends none =
    word_quoted place b bytes (Some k) quote is ∙ cond-false (ends_word (drop (k + 1) bytes)) _ (Err place) ends

quote_here : (place b : ℕ) (bytes : List ℕ) (o : Option ℕ) → is_quote b ≡ true → position (λ c. c == b) bytes ≡ o
    → ((size : ℕ) (rest : List ℕ) → Encloses b bytes size rest → ⊥) → word_here place b bytes ≡ Err place
quote_here place b bytes None quote is none = word_quoted place b bytes None quote is
quote_here place b bytes (Some k) quote is none = quote_by place b bytes k (ends_word (drop (k + 1) bytes)) quote is refl none

-- the first quote that is open is found
found_open : (place : ℕ) (bytes : List ℕ) (there : ℕ) → HasOpenQuote place bytes there → words_from place 0 bytes ≡ Err there
found_open place bytes there (Here p b rest quote none) =
    ap (λ w. joined w (words_from (p + 1) (taken_here b rest) rest)) (quote_here p b rest (position (λ c. c == b) rest) quote refl none)
found_open place bytes there (BehindBlank p b rest at blank opened) =
    behind_blank p b rest blank ∙ ap (λ r. joined (Ok []) r) (found_open (p + 1) rest at opened)
found_open place bytes there (BehindPlain p b rest size at blank quote goes opened) =
    behind_plain p b rest size blank quote goes
    ∙ ap (λ r. joined (Ok (record { from = p; to = p + 1 + size } ∷ [])) r) (found_open (p + 1 + size) (drop size rest) at opened)
found_open place bytes there (BehindQuoted p b more size rest at quote encloses opened) =
    behind_quoted p b more size rest quote encloses
    ∙ ap (λ r. joined (Ok (record { from = p + 1; to = p + 1 + size } ∷ [])) r) (found_open (p + 1 + (size + 1)) rest at opened)

pub splits_found : (answer : Answer) (line : List ℕ) (spans : List Span) → SplitsInto answer (texts_at line (words_of line)) → HasWords 0 line spans
    → SplitsInto answer (Ok (map (text_at line) spans))
splits_found answer line spans splits words = subst (λ (r : Result (List Span) ℕ). SplitsInto answer (texts_at line r)) (found 0 line spans words) splits

pub splits_open : (answer : Answer) (line : List ℕ) (place : ℕ) → SplitsInto answer (texts_at line (words_of line)) → HasOpenQuote 0 line place → SplitsInto answer (Err place)
splits_open answer line place splits opened = subst (λ (r : Result (List Span) ℕ). SplitsInto answer (texts_at line r)) (found_open 0 line place opened) splits
