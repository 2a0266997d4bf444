-- Turns of loops.
use Rattle.std.proofs.Common.{◌≡◌, ℕ, ◌+◌, ◌<◌, List, [], ◌∷◌, ◌++◌, refl, sym, ap, ◌∙◌, length, take, get_or, map, fold}
use Rattle.std.proofs.lemmas.List.{take_more}
use Rattle.std.proofs.lemmas.List.Sums.{fold-append}

-- one turn of a loop that folds a list, and of one that maps it
pub folded_more : {X B : Type 0} (f : B → X → B) (z : B) (xs : List X) (i : ℕ) (d : X) (old new : B) → i < length xs → old ≡ fold f z (take i xs) → new ≡ f old (get_or xs i d) → new ≡ fold f z (take (i + 1) xs)
folded_more {X} {B} f z xs i d old new lt so_far next =
    next ∙ ap (λ (b : B). f b (get_or xs i d)) so_far ∙ sym (fold-append f z (take i xs) (get_or xs i d ∷ [])) ∙ sym (ap (λ (ys : List X). fold f z ys) (take_more xs i d lt))

mapped_more : {X Y : Type 0} (f : X → Y) (xs ys : List X) → map f (xs ++ ys) ≡ map f xs ++ map f ys
mapped_more f [] ys = refl
mapped_more {X} {Y} f (x ∷ xs) ys = ap (λ (zs : List Y). f x ∷ zs) (mapped_more f xs ys)

pub listed_more : {X Y : Type 0} (f : X → Y) (xs : List X) (i : ℕ) (d : X) (old new : List Y) (item : Y) → i < length xs → old ≡ map f (take i xs) → item ≡ f (get_or xs i d) → new ≡ old ++ item ∷ []
    → new ≡ map f (take (i + 1) xs)
listed_more {X} {Y} f xs i d old new item lt so_far is next =
    next ∙ (λ j. so_far j ++ is j ∷ []) ∙ sym (mapped_more f (take i xs) (get_or xs i d ∷ [])) ∙ sym (ap (λ (ys : List X). map f ys) (take_more xs i d lt))
