-- Where nothing but blanks stands between two commas, an item is empty.
use Rattle.std.proofs.Common.{◌≡◌, ℕ, List, [], ◌∷◌, ◌++◌, length, length-append, append-nil, refl, ap, arith}
use Rattle.ge_model_rows.specs.Pieces.{items_between, blank_pieces}

-- words that make a list no longer are none
none_more : (items words : List (List ℕ)) → length (items ++ words) ≡ length items → words ≡ []
none_more items [] same = refl
none_more items (word ∷ words) same = absurd (omega (arith, length-append items (word ∷ words)))

empty_item : (items words : List (List ℕ)) → words ≡ [] → items ++ words ++ [] ∷ [] ≡ items ++ elim words [ [] ↦ [] ∷ [] | piece ∷ pieces ↦ piece ∷ pieces ]
empty_item items [] is = ap (λ before. before ++ [] ∷ []) (append-nil items)
empty_item items (word ∷ words) is = absurd (cc)

words_are_items : (items words : List (List ℕ)) → (length (items ++ words) ≡ length items → ⊥)
    → items ++ words ≡ items ++ elim words [ [] ↦ [] ∷ [] | piece ∷ pieces ↦ piece ∷ pieces ]
words_are_items items [] more = absurd (more (ap length (append-nil items)))
words_are_items items (word ∷ words) more = refl

pub nothing_between : (items : List (List ℕ)) (text : List ℕ) → length (items ++ blank_pieces text) ≡ length items
    → items ++ blank_pieces text ++ [] ∷ [] ≡ items ++ items_between text
nothing_between items text same = empty_item items (blank_pieces text) (none_more items (blank_pieces text) same)

pub some_between : (items : List (List ℕ)) (text : List ℕ) → (length (items ++ blank_pieces text) ≡ length items → ⊥)
    → items ++ blank_pieces text ≡ items ++ items_between text
some_between items text more = words_are_items items (blank_pieces text) more
