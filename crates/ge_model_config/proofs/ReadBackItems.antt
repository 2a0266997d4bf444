-- No text of a list is read to the item NONE alone.
use Rattle.std.proofs.Common.{◌≡◌, ℕ, suc, ◌+◌, ◌-◌, ◌≤◌, ◌<◌, ◌&&◌, Bool, true, false, not, cond, if◌then◌else◌, List, [], ◌∷◌, ◌++◌, length, take, drop, get_or, filter, flat_map, refl, sym, ap, ◌∙◌, arith, length-append, take_at, codes}
use Rattle.std.specs.List.{list_all, slice_split, onto_first, join_with_byte, prefix_len, suffix_len}
use Rattle.std.proofs.lemmas.Bool.{not-true}
use Rattle.std.proofs.lemmas.List.{get_or-append_right, get_or_append_left}
use Rattle.std.proofs.lemmas.List.Splits.{join_with_byte-slice_split}
use Rattle.std.proofs.lemmas.List.Sums.{AllPass-from_list_all, suffix_len_is}
use Rattle.ge_collections.specs.Keyed.{text_eq}
use Rattle.ge_model_text.specs.Words.{is_blank}
use Rattle.ge_model_rows.specs.Pieces.{is_empty, without_last_blanks, trimmed, blank_pieces, items_between, list_items, pieces_at}
use Rattle.ge_model_config.proofs.ReadBackTexts.{first_stays}
use Rattle.ge_model_config.proofs.ReadBackLists.{is_only_none}

-- whether a piece has a byte
abbrev some : List ℕ → Bool
some piece = not (is_empty piece)

abbrev not_blank : ℕ → Bool
not_blank b = not (is_blank b)

some_cons : (b : ℕ) (piece : List ℕ) → some (b ∷ piece) ≡ true
some_cons b piece = grind arith

-- ---- the pieces between blanks

-- a first piece has no blanks, and where no other has a byte, blanks alone stand behind it
abbrev FirstOf : List ℕ → List (List ℕ) → Type 0
FirstOf text [] = ⊥
FirstOf text (piece ∷ pieces) =
    (list_all not_blank piece ≡ true) × (filter some pieces ≡ [] → (rest : List ℕ) × (text ≡ piece ++ rest) × (list_all is_blank rest ≡ true))

-- pieces without bytes are those of blanks
abbrev Blanks : List ℕ → List (List ℕ) → Type 0
Blanks text pieces = filter some pieces ≡ [] → list_all is_blank text ≡ true

cons_not_nil : {X : Type 0} (x : X) (xs : List X) → x ∷ xs ≡ [] → ⊥
cons_not_nil x xs h = cc

first_of : (text : List ℕ) → FirstOf text (slice_split is_blank text) × Blanks text (slice_split is_blank text)
first_of [] = ((refl, λ h. ([], refl, refl)), λ h. refl)
first_of (b ∷ text) = by (is_blank b) refl (slice_split is_blank text) (first_of text)
  where
    by : (blank : Bool) → is_blank b ≡ blank → (pieces : List (List ℕ)) → FirstOf text pieces × Blanks text pieces
        → FirstOf (b ∷ text) (cond blank ([] ∷ pieces) (onto_first b pieces)) × Blanks (b ∷ text) (cond blank ([] ∷ pieces) (onto_first b pieces))
    by true is pieces (first, blanks) = ((refl, λ h. (b ∷ text, refl, (λ i. is i && blanks h i))), λ h. (λ i. is i && blanks h i))
    by false is [] (first, blanks) = absurd first
    by false is (piece ∷ pieces) (first, blanks) = (
      (λ i. not (is i) && first.0 i, λ h. let r = first.1 h in (r.0, ap (λ z. b ∷ z) r.1, r.2)),
      λ h. absurd (cons_not_nil (b ∷ piece) (filter some pieces) (sym (ap (λ z. cond z ((b ∷ piece) ∷ filter some pieces) (filter some pieces)) (some_cons b piece)) ∙ h)),
    )

-- ---- a word among blanks

-- a word without its blanks behind it
word_alone : (b : ℕ) (word rest : List ℕ) → list_all not_blank (b ∷ word) ≡ true → list_all is_blank rest ≡ true → without_last_blanks ((b ∷ word) ++ rest) ≡ b ∷ word
word_alone b word rest all blanks =
    ap (λ z. take (length text - z) text) ends
    ∙ ap (λ z. take z text) taken
    ∙ take_at (b ∷ word) rest (length (b ∷ word)) refl
  where
    text : List ℕ
    text = (b ∷ word) ++ rest

    size : length text ≡ length (b ∷ word) + length rest
    size = length-append (b ∷ word) rest

    taken : length text - (length text - length (b ∷ word)) ≡ length (b ∷ word)
    taken = let e = size in omega arith

    behind : (k : ℕ) → length (b ∷ word) ≤ k → k < length text → is_blank (get_or text k 0) ≡ true
    behind k low high =
        ap is_blank (get_or-append_right (b ∷ word) rest (length (b ∷ word)) k 0 refl low)
        ∙ AllPass-from_list_all is_blank rest blanks (k - length (b ∷ word)) 0 (let e = size in omega arith)

    last : 0 < length (b ∷ word) → is_blank (get_or text (length (b ∷ word) - 1) 0) ≡ false
    last h =
        ap is_blank (get_or_append_left (b ∷ word) rest 0 (length (b ∷ word) - 1) (omega arith))
        ∙ not-true (is_blank (get_or (b ∷ word) (length (b ∷ word) - 1) 0)) (AllPass-from_list_all not_blank (b ∷ word) all (length (b ∷ word) - 1) 0 (omega arith))

    ends : suffix_len is_blank text ≡ length text - length (b ∷ word)
    ends = suffix_len_is is_blank text (length (b ∷ word)) 0 (let e = size in omega arith) behind last

-- where a text has one word, that is the text without its blanks
one_word : (text word : List ℕ) → blank_pieces text ≡ word ∷ [] → trimmed text ≡ word
one_word [] word h = absurd (cons_not_nil word [] (sym h))
one_word (b ∷ text) word h = by (is_blank b) refl (slice_split is_blank text) (first_of text).0 h (one_word text word)
  where
    by : (blank : Bool) → is_blank b ≡ blank → (pieces : List (List ℕ)) → FirstOf text pieces → filter some (cond blank ([] ∷ pieces) (onto_first b pieces)) ≡ word ∷ []
        → (filter some pieces ≡ word ∷ [] → trimmed text ≡ word) → trimmed (b ∷ text) ≡ word
    by true is pieces first has again =
        ap (λ z. without_last_blanks (drop (cond z (1 + prefix_len is_blank text) 0) (b ∷ text))) is
        ∙ ap (λ z. without_last_blanks (drop z (b ∷ text))) (let e : 1 + prefix_len is_blank text ≡ suc (prefix_len is_blank text) = omega arith in e)
        ∙ again has
    by false is [] first has again = absurd first
    by false is (piece ∷ pieces) first has again =
        let whole : (b ∷ piece) ∷ filter some pieces ≡ word ∷ [] = sym (ap (λ z. cond z ((b ∷ piece) ∷ filter some pieces) (filter some pieces)) (some_cons b piece)) ∙ has in
        let same : b ∷ piece ≡ word = cc in
        let none : filter some pieces ≡ [] = cc in
        let r = first.1 none in
        ap without_last_blanks (first_stays b text is)
        ∙ ap (λ z. without_last_blanks (b ∷ z)) r.1
        ∙ word_alone b piece r.0 (λ i. not (is i) && first.0 i) r.2
        ∙ same

-- ---- lists

-- what is read has not NONE alone
pub not_only_none : (text : List ℕ) → is_only_none (list_items text) ≡ false
not_only_none text = by (text_eq (trimmed text) (codes "NONE")) refl
  where
    one : (words : List (List ℕ)) → blank_pieces text ≡ words → text_eq (trimmed text) (codes "NONE") ≡ false
        → is_only_none (elim words as (λ x. List (List ℕ)) [ [] ↦ [] ∷ [] | word ∷ more ↦ word ∷ more ] ++ []) ≡ false
    one [] has other = refl
    one (word ∷ []) has other = ap (λ z. text_eq z (codes "NONE")) (sym (one_word text word has)) ∙ other
    one (word ∷ next ∷ more) has other = refl

    two : (words others : List (List ℕ)) (rest : List (List ℕ))
        → is_only_none (elim words as (λ x. List (List ℕ)) [ [] ↦ [] ∷ [] | word ∷ more ↦ word ∷ more ] ++ (elim others as (λ x. List (List ℕ)) [ [] ↦ [] ∷ [] | word ∷ more ↦ word ∷ more ] ++ rest)) ≡ false
    two [] [] rest = refl
    two [] (other ∷ others) rest = refl
    two (word ∷ []) [] rest = refl
    two (word ∷ []) (other ∷ others) rest = refl
    two (word ∷ next ∷ more) others rest = refl

    parts : (pieces : List (List ℕ)) → join_with_byte 44 pieces ≡ text → text_eq (trimmed text) (codes "NONE") ≡ false → is_only_none (flat_map items_between pieces) ≡ false
    parts [] joined other = refl
    parts (piece ∷ []) joined other = rw joined (one (blank_pieces text) refl other)
    parts (piece ∷ next ∷ pieces) joined other = two (blank_pieces piece) (blank_pieces next) (flat_map items_between pieces)

    by : (none : Bool) → text_eq (trimmed text) (codes "NONE") ≡ none → is_only_none (if none then [] else flat_map items_between (pieces_at 44 text)) ≡ false
    by true is = refl
    by false is = parts (pieces_at 44 text) (join_with_byte-slice_split 44 text) is
