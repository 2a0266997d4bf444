-- What the loops over a set, a pattern and a name keep.
use Rattle.std.proofs.Common.{◌≡◌, ℕ, suc, zero, ◌<◌, Bool, true, false, cond, ◌||◌, ◌&&◌, ◌==◌, nat_le, List, [], ◌∷◌, length, get_or, drop, take, refl, ap, sym, subst, ◌∙◌, arith, add-one, drop-drop, Option, Some, None}
use Rattle.std.proofs.lemmas.Bool.{ne_eqb, and_parts}
use Rattle.ge_model_text.specs.Pattern.{in_set, set_end, Piece, Many, One, Exactly, Among, piece_here, rest_of_piece, pieces_from, pieces_of, takes, covers, some_end, front_and_rest}
use Rattle.ge_text.specs.Fronts.{begins_range, Reach, ToEnd, ToStar, Nowhere, front_of, goes_on}

-- sets

-- a choice by a test is the same, however it is written
choice : {A : Type 0} (t : Bool) (a b : A) → elim t [ true ↦ a | false ↦ b ] ≡ cond t a b
choice true a b = refl
choice false a b = refl

or_nothing : (t : Bool) → t ≡ t || false
or_nothing true = refl
or_nothing false = refl

-- the item at the front of a set has a byte, or what stands behind it has
pub item_split : (set : List ℕ) (b : ℕ) → 0 < length set →
    in_set set b ≡ cond (begins_range set) ((nat_le (get_or set 0 0) b && nat_le b (get_or set 2 0)) || in_set (drop 3 set) b) ((b == get_or set 0 0) || in_set (drop 1 set) b)
item_split [] b some = absurd (omega arith)
item_split (x ∷ []) b some = or_nothing (b == x)
item_split (x ∷ y ∷ []) b some = refl
item_split (x ∷ y ∷ z ∷ rest) b some = choice (y == 45) _ _

-- parts

-- what belongs to a part that is listed is passed over
pub pieces_from-taken : (taken : ℕ) (rest : List ℕ) → pieces_from taken rest ≡ pieces_of (drop taken rest)
pieces_from-taken zero [] = refl
pieces_from-taken (suc taken) [] = refl
pieces_from-taken zero (b ∷ rest) = refl
pieces_from-taken (suc taken) (b ∷ rest) = pieces_from-taken taken rest

abbrev is_many : Piece → Bool
is_many Many = true
is_many One = false
is_many (Exactly byte) = false
is_many (Among set) = false

set_piece : (b : ℕ) (rest : List ℕ) (o : Option ℕ) → is_many (elim o [ None ↦ Exactly b | Some size ↦ Among (take size rest) ]) ≡ false
set_piece b rest None = refl
set_piece b rest (Some size) = refl

not_many : (t u : Bool) (b : ℕ) (rest : List ℕ) (o : Option ℕ) →
    is_many (cond t One (cond u (elim o [ None ↦ Exactly b | Some size ↦ Among (take size rest) ]) (Exactly b))) ≡ false
not_many true u b rest o = refl
not_many false true b rest o = set_piece b rest o
not_many false false b rest o = refl

other_part : (first : ℕ) (rest : List ℕ) → (first == 42) ≡ false → is_many (piece_here first rest) ≡ false
other_part first rest other =
    ap (λ t. is_many (cond t Many (cond (first == 63) One (cond (first == 91) (elim (set_end rest) [ None ↦ Exactly first | Some size ↦ Among (take size rest) ]) (Exactly first))))) other
    ∙ not_many (first == 63) (first == 91) first rest (set_end rest)

-- the parts behind a `*`
pub reaches_star : (first : ℕ) (rest name : List ℕ) → first ≡ 42 → front_of (pieces_of (first ∷ rest)) name ≡ ToStar (pieces_of rest) name
reaches_star first rest name star = rw star refl

refused : (piece : Piece) (pieces : List Piece) (b : ℕ) (others : List ℕ) → is_many piece ≡ false → takes piece b ≡ false → front_of (piece ∷ pieces) (b ∷ others) ≡ Nowhere
refused Many pieces b others other refuses = cc
refused One pieces b others other refuses = ap (λ t. goes_on t (front_of pieces others)) refuses
refused (Exactly byte) pieces b others other refuses = ap (λ t. goes_on t (front_of pieces others)) refuses
refused (Among set) pieces b others other refuses = ap (λ t. goes_on t (front_of pieces others)) refuses

taken : (piece : Piece) (pieces : List Piece) (b : ℕ) (others : List ℕ) → takes piece b ≡ true → front_of (piece ∷ pieces) (b ∷ others) ≡ front_of pieces others
taken Many pieces b others accepts = cc
taken One pieces b others accepts = refl
taken (Exactly byte) pieces b others accepts = ap (λ t. goes_on t (front_of pieces others)) accepts
taken (Among set) pieces b others accepts = ap (λ t. goes_on t (front_of pieces others)) accepts

-- a part that doesn't take the next byte
pub reaches_nowhere : (first : ℕ) (rest : List ℕ) (b : ℕ) (others : List ℕ) → (first ≡ 42 → ⊥) → takes (piece_here first rest) b ≡ false
    → front_of (pieces_of (first ∷ rest)) (b ∷ others) ≡ Nowhere
reaches_nowhere first rest b others other refuses =
    refused (piece_here first rest) (pieces_from (rest_of_piece first rest) rest) b others (other_part first rest (ne_eqb first 42 other)) refuses

ended : (piece : Piece) (pieces : List Piece) → is_many piece ≡ false → front_of (piece ∷ pieces) [] ≡ Nowhere
ended Many pieces other = cc
ended One pieces other = refl
ended (Exactly byte) pieces other = refl
ended (Among set) pieces other = refl

-- a part behind the end of the name
pub reaches_end : (first : ℕ) (rest : List ℕ) → (first ≡ 42 → ⊥) → front_of (pieces_of (first ∷ rest)) [] ≡ Nowhere
reaches_end first rest other =
    ended (piece_here first rest) (pieces_from (rest_of_piece first rest) rest) (other_part first rest (ne_eqb first 42 other))

-- a part that takes the next byte
pub reaches_on : (first : ℕ) (rest : List ℕ) (b : ℕ) (others : List ℕ) (size : ℕ) → takes (piece_here first rest) b ≡ true
    → size ≡ rest_of_piece first rest
    → front_of (pieces_of (first ∷ rest)) (b ∷ others) ≡ front_of (pieces_of (drop size rest)) others
reaches_on first rest b others size accepts more =
    taken (piece_here first rest) (pieces_from (rest_of_piece first rest) rest) b others accepts
    ∙ ap (λ pieces. front_of pieces others) (pieces_from-taken (rest_of_piece first rest) rest ∙ ap (λ n. pieces_of (drop n rest)) (sym more))

-- ends of a name

-- what parts cover, by how far they reach
abbrev covers_by : Reach → Bool
covers_by ToEnd = true
covers_by (ToStar pieces rest) = some_end (covers pieces) rest
covers_by Nowhere = false

and_on : (t covered : Bool) (reach : Reach) → covered ≡ covers_by reach → (t && covered) ≡ covers_by (goes_on t reach)
and_on true covered reach same = same
and_on false covered reach same = refl

pub covers-reach : (pieces : List Piece) (name : List ℕ) → covers pieces name ≡ covers_by (front_of pieces name)
covers-reach [] [] = refl
covers-reach [] (b ∷ rest) = refl
covers-reach (Many ∷ pieces) name = refl
covers-reach (One ∷ pieces) [] = refl
covers-reach (One ∷ pieces) (b ∷ rest) = and_on true (covers pieces rest) (front_of pieces rest) (covers-reach pieces rest)
covers-reach (Exactly byte ∷ pieces) [] = refl
covers-reach (Exactly byte ∷ pieces) (b ∷ rest) = and_on (b == byte) (covers pieces rest) (front_of pieces rest) (covers-reach pieces rest)
covers-reach (Among set ∷ pieces) [] = refl
covers-reach (Among set ∷ pieces) (b ∷ rest) = and_on (in_set set b) (covers pieces rest) (front_of pieces rest) (covers-reach pieces rest)

pub covers_whole : (pieces : List Piece) (name : List ℕ) → front_of pieces name ≡ ToEnd → true ≡ covers pieces name
covers_whole pieces name h = sym (covers-reach pieces name ∙ ap covers_by h)

pub covers_nowhere : (pieces : List Piece) (name : List ℕ) → front_of pieces name ≡ Nowhere → false ≡ covers pieces name
covers_nowhere pieces name h = sym (covers-reach pieces name ∙ ap covers_by h)

pub covers_star : (pieces : List Piece) (name : List ℕ) (others : List Piece) (rest : List ℕ) → front_of pieces name ≡ ToStar others rest → some_end (covers others) rest ≡ covers pieces name
covers_star pieces name others rest h = sym (covers-reach pieces name ∙ ap covers_by h)

-- where some end of a list passes a test, one does that is left after so many
place_by : (test : List ℕ → Bool) (x : ℕ) (xs : List ℕ) (t : Bool) → test (x ∷ xs) ≡ t → elim t [ true ↦ true | false ↦ some_end test xs ] ≡ true
    → (some_end test xs ≡ true → (j : ℕ) × (test (drop j xs) ≡ true)) → (j : ℕ) × (test (drop j (x ∷ xs)) ≡ true)
place_by test x xs true here passes later = (0, here)
place_by test x xs false here passes later = let found = later passes in (suc found.0, found.1)

pub some_end-place : (test : List ℕ → Bool) (xs : List ℕ) → some_end test xs ≡ true → (j : ℕ) × (test (drop j xs) ≡ true)
some_end-place test [] passes = (0, passes)
some_end-place test (x ∷ xs) passes = place_by test x xs (test (x ∷ xs)) refl passes (some_end-place test xs)

at_least_later : (t later : Bool) → later ≡ true → elim t [ true ↦ true | false ↦ later ] ≡ true
at_least_later true later passes = refl
at_least_later false later passes = passes

pub some_end-later : (test : List ℕ → Bool) (x : ℕ) (xs : List ℕ) → some_end test xs ≡ true → some_end test (x ∷ xs) ≡ true
some_end-later test x xs passes = at_least_later (test (x ∷ xs)) (some_end test xs) passes

pub some_end-drop : (test : List ℕ → Bool) (xs : List ℕ) (j : ℕ) → some_end test (drop j xs) ≡ true → some_end test xs ≡ true
some_end-drop test [] zero passes = passes
some_end-drop test [] (suc j) passes = passes
some_end-drop test (x ∷ xs) zero passes = passes
some_end-drop test (x ∷ xs) (suc j) passes = some_end-later test x xs (some_end-drop test xs j passes)

pub some_end-here : (test : List ℕ → Bool) (xs : List ℕ) → test xs ≡ true → some_end test xs ≡ true
some_end-here test [] passes = passes
some_end-here test (x ∷ xs) passes = ap (λ t. elim t [ true ↦ true | false ↦ some_end test xs ]) passes

some_end-not : (test : List ℕ → Bool) (x : ℕ) (xs : List ℕ) → test (x ∷ xs) ≡ false → some_end test (x ∷ xs) ≡ some_end test xs
some_end-not test x xs fails = ap (λ t. elim t [ true ↦ true | false ↦ some_end test xs ]) fails

-- what is covered behind a byte
behind_front : (front : ℕ → Bool) (test : List ℕ → Bool) (name : List ℕ) → front_and_rest front test name ≡ true → test (drop 1 name) ≡ true
behind_front front test [] passes = absurd (cc)
behind_front front test (b ∷ rest) passes = (and_parts (front b) (test rest) passes).1

behind_part : (piece : Piece) (pieces : List Piece) (name : List ℕ) → is_many piece ≡ false → covers (piece ∷ pieces) name ≡ true → covers pieces (drop 1 name) ≡ true
behind_part Many pieces name other passes = absurd (cc)
behind_part One pieces name other passes = behind_front (takes One) (covers pieces) name passes
behind_part (Exactly byte) pieces name other passes = behind_front (takes (Exactly byte)) (covers pieces) name passes
behind_part (Among set) pieces name other passes = behind_front (takes (Among set)) (covers pieces) name passes

on_through : (t : Bool) (reach : Reach) (others : List Piece) (rest : List ℕ) → goes_on t reach ≡ ToStar others rest → reach ≡ ToStar others rest
on_through true reach others rest h = h
on_through false reach others rest h = absurd (cc)

drop_one_more : (j b : ℕ) (name : List ℕ) → drop 1 (drop j (b ∷ name)) ≡ drop j name
drop_one_more j b name = drop-drop 1 j (b ∷ name) ∙ rw add-one refl

through : (piece : Piece) (pieces : List Piece) (b : ℕ) (name : List ℕ) (j : ℕ) → is_many piece ≡ false → covers (piece ∷ pieces) (drop j (b ∷ name)) ≡ true → covers pieces (drop j name) ≡ true
through piece pieces b name j other passes =
    subst (λ (rest : List ℕ). covers pieces rest ≡ true) (drop_one_more j b name) (behind_part piece pieces (drop j (b ∷ name)) other passes)

same_star : (pieces others : List Piece) (name rest : List ℕ) (j : ℕ) → ToStar pieces name ≡ ToStar others rest → some_end (covers pieces) (drop j name) ≡ true → some_end (covers others) (drop j rest) ≡ true
same_star pieces others name rest j h passes =
    let parts : others ≡ pieces = cc in
    let bytes : rest ≡ name = cc in
    rw (parts, bytes) passes

-- parts that reach to a `*` cover no end of the name whose rest the parts behind the `*` don't
pub later_end : (pieces : List Piece) (name : List ℕ) (j : ℕ) (others : List Piece) (rest : List ℕ)
    → front_of pieces name ≡ ToStar others rest → covers pieces (drop j name) ≡ true → some_end (covers others) (drop j rest) ≡ true
later_end [] [] j others rest h passes = absurd (cc)
later_end [] (b ∷ name) j others rest h passes = absurd (cc)
later_end (Many ∷ pieces) name j others rest h passes = same_star pieces others name rest j h passes
later_end (One ∷ pieces) [] j others rest h passes = absurd (cc)
later_end (One ∷ pieces) (b ∷ name) j others rest h passes =
    later_end pieces name j others rest h (through One pieces b name j refl passes)
later_end (Exactly byte ∷ pieces) [] j others rest h passes = absurd (cc)
later_end (Exactly byte ∷ pieces) (b ∷ name) j others rest h passes =
    later_end pieces name j others rest (on_through (b == byte) (front_of pieces name) others rest h) (through (Exactly byte) pieces b name j refl passes)
later_end (Among set ∷ pieces) [] j others rest h passes = absurd (cc)
later_end (Among set ∷ pieces) (b ∷ name) j others rest h passes =
    later_end pieces name j others rest (on_through (in_set set b) (front_of pieces name) others rest h) (through (Among set) pieces b name j refl passes)

-- two tests that imply each other are one
same_tests : (s t : Bool) → (s ≡ true → t ≡ true) → (t ≡ true → s ≡ true) → s ≡ t
same_tests true true to back = refl
same_tests true false to back = sym (to refl)
same_tests false true to back = back refl
same_tests false false to back = refl

-- so where the parts before a `*` were met first, no earlier place has to be tried again
pub keeps_end : (pieces : List Piece) (name : List ℕ) (others : List Piece) (rest : List ℕ) → front_of pieces name ≡ ToStar others rest
    → some_end (covers others) rest ≡ some_end (covers pieces) name
keeps_end pieces name others rest h =
    same_tests (some_end (covers others) rest) (some_end (covers pieces) name)
    (λ passes. some_end-here (covers pieces) name (sym (covers_star pieces name others rest h) ∙ passes))
    (λ passes. let found = some_end-place (covers pieces) name passes in some_end-drop (covers others) rest found.0 (later_end pieces name found.0 others rest h found.1))

pub whole_end : (pieces : List Piece) (name : List ℕ) → front_of pieces name ≡ ToEnd → true ≡ some_end (covers pieces) name
whole_end pieces name h = sym (some_end-here (covers pieces) name (sym (covers_whole pieces name h)))

pub none_end : (pieces : List Piece) (name : List ℕ) → length name ≡ 0 → front_of pieces name ≡ Nowhere → false ≡ some_end (covers pieces) name
none_end pieces [] empty h = covers_nowhere pieces [] h
none_end pieces (x ∷ xs) empty h = absurd (omega arith)

pub next_end : (pieces : List Piece) (name : List ℕ) (x : ℕ) (xs : List ℕ) → name ≡ x ∷ xs → front_of pieces name ≡ Nowhere
    → some_end (covers pieces) xs ≡ some_end (covers pieces) name
next_end pieces name x xs longer h =
    rw longer (sym (some_end-not (covers pieces) x xs (sym (covers_nowhere pieces (x ∷ xs) (rw longer at h)))))
