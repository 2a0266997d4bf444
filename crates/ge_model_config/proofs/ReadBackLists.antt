-- A list that is printed is read to its items, and what is read is such a list: NONE stands for the empty list, so no list has NONE as its only item.
use Rattle.std.proofs.Common.{◌≡◌, ℕ, ◌==◌, ◌&&◌, ◌||◌, Bool, true, false, not, cond, if◌then◌else◌, List, [], ◌∷◌, ◌++◌, get_or, filter, flat_map, refl, sym, ap, ◌∙◌, arith, append-nil, codes}
use Rattle.std.specs.List.{All, list_all}
use Rattle.std.proofs.lemmas.Bool.{and_parts, and_from, not-true, true≢false}
use Rattle.std.proofs.lemmas.List.Folds.{list_all-append}
use Rattle.std.proofs.lemmas.List.Splits.{slice_split_none}
use Rattle.std.proofs.lemmas.List.Sums.{AllPass-from_list_all}
use Rattle.std.proofs.lemmas.Slice.Eq.{bytes_eq-Decides}
use Rattle.ge_collections.specs.Keyed.{text_eq}
use Rattle.ge_model_text.specs.Words.{is_blank}
use Rattle.ge_model_rows.specs.Pieces.{is_empty, has_byte, blank_pieces, items_between, list_items, list_text, joined_by, pieces_at}
use Rattle.ge_model_rows.proofs.Digits.{AreWithout, joined_cut, it_is_there}
use Rattle.ge_model_config.specs.Cited.{none_text}
use Rattle.ge_model_config.proofs.ReadBackTexts.{is_printing_byte, is_printing, is_shown_byte, is_shown, all_weaker, no_blank, trimmed_shown}

-- a byte of a list's item: one that prints, but a comma
abbrev pub is_piece_byte : ℕ → Bool
is_piece_byte b = is_printing_byte b && not (b == 44)

-- one such byte or more
abbrev pub is_piece : List ℕ → Bool
is_piece [] = false
is_piece (b ∷ text) = list_all is_piece_byte (b ∷ text)

-- one that isn't a backslash either
abbrev pub is_item_byte : ℕ → Bool
is_item_byte b = is_shown_byte b && not (b == 44)

abbrev pub is_item : List ℕ → Bool
is_item [] = false
is_item (b ∷ text) = list_all is_item_byte (b ∷ text)

-- whether a list has the item NONE alone
abbrev pub is_only_none : List (List ℕ) → Bool
is_only_none [] = false
is_only_none (item ∷ []) = text_eq item none_text
is_only_none (item ∷ other ∷ items) = false

-- a list that its text is read to
pub record ArePieces (items : List (List ℕ)) : Type 0 where
  pub pass : list_all is_piece items ≡ true
  pub others : is_only_none items ≡ false

-- one without backslashes
pub record IsList (items : List (List ℕ)) : Type 0 where
  pub pass : list_all is_item items ≡ true
  pub others : is_only_none items ≡ false

-- ---- what is printed

-- what holds of a comma and of each byte of each item holds of each byte of the items joined
joined_bytes : (p : ℕ → Bool) → p 44 ≡ true → (items : List (List ℕ)) → list_all (list_all p) items ≡ true → list_all p (flat_map (λ next. codes "," ++ next) items) ≡ true
joined_bytes p comma [] all = refl
joined_bytes p comma (item ∷ items) all =
    let parts = and_parts (list_all p item) (list_all (list_all p) items) all in
    and_from _ _ comma (list_all-append p item (flat_map (λ next. codes "," ++ next) items) ∙ and_from _ _ parts.0 (joined_bytes p comma items parts.1))

all_bytes : (p : ℕ → Bool) → p 44 ≡ true → (item : List ℕ) (items : List (List ℕ)) → list_all p item ≡ true → list_all (list_all p) items ≡ true → list_all p (joined_by (codes ",") (item ∷ items)) ≡ true
all_bytes p comma item items first all = list_all-append p item (flat_map (λ next. codes "," ++ next) items) ∙ and_from _ _ first (joined_bytes p comma items all)

-- the bytes of items
shown_byte : (b : ℕ) → is_item_byte b ≡ true → is_shown_byte b ≡ true
shown_byte b h = (and_parts (is_shown_byte b) (not (b == 44)) h).0

printing_byte : (b : ℕ) → is_piece_byte b ≡ true → is_printing_byte b ≡ true
printing_byte b h = (and_parts (is_printing_byte b) (not (b == 44)) h).0

piece_byte : (b : ℕ) → is_item_byte b ≡ true → is_piece_byte b ≡ true
piece_byte b h = grind arith

pub shown_item : (item : List ℕ) → is_item item ≡ true → list_all is_shown_byte item ≡ true
shown_item [] none = refl
shown_item (b ∷ item) all = all_weaker is_item_byte is_shown_byte shown_byte (b ∷ item) all

printing_piece : (item : List ℕ) → is_piece item ≡ true → list_all is_printing_byte item ≡ true
printing_piece [] none = refl
printing_piece (b ∷ item) all = all_weaker is_piece_byte is_printing_byte printing_byte (b ∷ item) all

pub item_piece : (item : List ℕ) → is_item item ≡ true → is_piece item ≡ true
item_piece [] none = none
item_piece (b ∷ item) all = all_weaker is_item_byte is_piece_byte piece_byte (b ∷ item) all

some_items : (item : List ℕ) (items : List (List ℕ)) → is_empty (item ∷ items) ≡ false
some_items item items = grind arith

pub text_joined : (item : List ℕ) (items : List (List ℕ)) → list_text (item ∷ items) ≡ joined_by (codes ",") (item ∷ items)
text_joined item items = ap (λ z. if z then codes "NONE" else joined_by (codes ",") (item ∷ items)) (some_items item items)

joined_printing : (item : List ℕ) (items : List (List ℕ)) → is_piece item ≡ true → list_all is_piece items ≡ true → is_printing (joined_by (codes ",") (item ∷ items)) ≡ true
joined_printing [] items none all = absurd (true≢false (sym none))
joined_printing (b ∷ item) items first all =
    all_bytes is_printing_byte refl (b ∷ item) items (printing_piece (b ∷ item) first) (all_weaker is_piece (list_all is_printing_byte) printing_piece items all)

joined_shown : (item : List ℕ) (items : List (List ℕ)) → is_item item ≡ true → list_all is_item items ≡ true → is_shown (joined_by (codes ",") (item ∷ items)) ≡ true
joined_shown [] items none all = absurd (true≢false (sym none))
joined_shown (b ∷ item) items first all =
    all_bytes is_shown_byte refl (b ∷ item) items (shown_item (b ∷ item) first) (all_weaker is_item (list_all is_shown_byte) shown_item items all)

-- the text of a list prints and has no blank
pub list_printing : (items : List (List ℕ)) → list_all is_piece items ≡ true → is_printing (list_text items) ≡ true
list_printing [] all = refl
list_printing (item ∷ items) all =
    let parts = and_parts (is_piece item) (list_all is_piece items) all in ap is_printing (text_joined item items) ∙ joined_printing item items parts.0 parts.1

-- and no backslash where its items have none
pub list_shown : (items : List (List ℕ)) → list_all is_item items ≡ true → is_shown (list_text items) ≡ true
list_shown [] all = refl
list_shown (item ∷ items) all =
    let parts = and_parts (is_item item) (list_all is_item items) all in ap is_shown (text_joined item items) ∙ joined_shown item items parts.0 parts.1

-- ---- what is printed is read

no_comma : (item : List ℕ) → list_all is_piece_byte item ≡ true → has_byte 44 item ≡ false
no_comma [] all = refl
no_comma (b ∷ item) all =
    let parts = and_parts (is_piece_byte b) (list_all is_piece_byte item) all in
    ap (λ z. z || has_byte 44 item) (not-true _ (and_parts (is_printing_byte b) (not (b == 44)) parts.0).1) ∙ no_comma item parts.1

item_bytes : (item : List ℕ) → is_piece item ≡ true → list_all is_piece_byte item ≡ true
item_bytes [] none = refl
item_bytes (b ∷ item) all = all

no_commas : (items : List (List ℕ)) → list_all is_piece items ≡ true → AreWithout 44 items
no_commas [] all = tt
no_commas (item ∷ items) all =
    let parts = and_parts (is_piece item) (list_all is_piece items) all in (no_comma item (item_bytes item parts.0), no_commas items parts.1)

-- an item is no more than one
one_item : (item : List ℕ) → is_piece item ≡ true → items_between item ≡ item ∷ []
one_item [] none = absurd (true≢false (sym none))
one_item (b ∷ item) all = λ i. elim (pieces i) as (λ x. List (List ℕ)) [ [] ↦ [] ∷ [] | piece ∷ more ↦ piece ∷ more ]
  where
    apart : All (λ c. is_blank c ≡ false) (b ∷ item)
    apart k d small = no_blank (get_or (b ∷ item) k d) (printing_byte (get_or (b ∷ item) k d) (AllPass-from_list_all is_piece_byte (b ∷ item) all k d small))

    some : not (is_empty (b ∷ item)) ≡ true
    some = grind arith

    pieces : blank_pieces (b ∷ item) ≡ (b ∷ item) ∷ []
    pieces = ap (filter (λ piece. not (is_empty piece))) (slice_split_none is_blank (b ∷ item) apart) ∙ ap (λ z. cond z ((b ∷ item) ∷ []) []) some

each_one : (items : List (List ℕ)) → list_all is_piece items ≡ true → flat_map items_between items ≡ items
each_one [] all = refl
each_one (item ∷ items) all =
    let parts = and_parts (is_piece item) (list_all is_piece items) all in λ i. one_item item parts.0 i ++ each_one items parts.1 i

not_none : (item : List ℕ) (items : List (List ℕ)) → is_only_none (item ∷ items) ≡ false → text_eq (joined_by (codes ",") (item ∷ items)) (codes "NONE") ≡ false
not_none item [] others = ap (λ z. text_eq z (codes "NONE")) (append-nil item) ∙ others
not_none item (other ∷ items) others = by (text_eq text (codes "NONE")) refl
  where
    text : List ℕ
    text = joined_by (codes ",") (item ∷ other ∷ items)

    by : (same : Bool) → text_eq text (codes "NONE") ≡ same → same ≡ false
    by true is = absurd (true≢false (sym (it_is_there 44 item (other ++ flat_map (λ next. codes "," ++ next) items)) ∙ ap (has_byte 44) ((bytes_eq-Decides text (codes "NONE")).0 is)))
    by false is = refl

-- the text of a list is read to it
pub pieces_back : (items : List (List ℕ)) → ArePieces items → list_items (list_text items) ≡ items
pieces_back [] is = refl
pieces_back (item ∷ items) is =
    let parts = and_parts (is_piece item) (list_all is_piece items) is.pass in
    ap list_items (text_joined item items)
    ∙ ap (λ z. if text_eq z (codes "NONE") then [] else flat_map items_between (pieces_at 44 text)) (trimmed_shown text (joined_printing item items parts.0 parts.1))
    ∙ ap (λ z. if z then [] else flat_map items_between (pieces_at 44 text)) (not_none item items is.others)
    ∙ ap (flat_map items_between) (joined_cut item items (no_comma item (item_bytes item parts.0)) (no_commas items parts.1))
    ∙ each_one (item ∷ items) is.pass
  where
    text : List ℕ
    text = joined_by (codes ",") (item ∷ items)

pub list_back : (items : List (List ℕ)) → IsList items → list_items (list_text items) ≡ items
list_back items is = pieces_back items (record { pass = all_weaker is_item is_piece item_piece items is.pass; others = is.others })
