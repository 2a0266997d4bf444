-- The end of a walk over two lists side by side.
use Rattle.std.proofs.Common.{◌≡◌, refl, sym, ap, ◌∙◌}
use Rattle.std.specs.Prelude.{List, [], ◌∷◌, ◌++◌, map, zip}
use mathlib.Core.Logic.{◌⊎◌, inl, inr}
use Rattle.std.proofs.lemmas.List.{append-nil, append_assoc}

none_beside : {A B : Type 0} (xs : List A) (ys : List B) → ys ≡ [] → zip xs ys ≡ []
none_beside [] ys e = refl
none_beside {B = B} (x ∷ xs) ys e = ap (λ (right : List B). zip (x ∷ xs) right) e

-- what is done is the whole, where one of the lists has ended
pub zipped_out : {A B C : Type 0} (f : A × B → C) (done whole : List C) (xs : List A) (ys : List B) → done ++ map f (zip xs ys) ≡ whole
    → (xs ≡ []) ⊎ (ys ≡ []) → done ≡ whole
zipped_out {A} {B} {C} f done whole xs ys is out = sym (append-nil done) ∙ ap (λ (rest : List C). done ++ rest) (sym (none out)) ∙ is
  where
    none : (xs ≡ []) ⊎ (ys ≡ []) → map f (zip xs ys) ≡ []
    none (inl e) = ap (λ (left : List A). map f (zip left ys)) e
    none (inr e) = ap (map f) (none_beside xs ys e)

-- what is done with one more, where each of the lists has one
pub zipped_more : {A B C : Type 0} (f : A × B → C) (done whole more : List C) (one : C) (x : A) (xs others : List A) (y : B) (ys rest : List B) → xs ≡ x ∷ others → ys ≡ y ∷ rest
    → done ++ map f (zip xs ys) ≡ whole → more ≡ done ++ one ∷ [] → one ≡ f (x, y) → more ++ map f (zip others rest) ≡ whole
zipped_more {A} {B} {C} f done whole more one x xs others y ys rest first second is put made =
    ap (λ (front : List C). front ++ map f (zip others rest)) put
    ∙ append_assoc done (one ∷ []) (map f (zip others rest))
    ∙ (λ i. done ++ made i ∷ map f (zip others rest))
    ∙ (λ i. done ++ map f (zip (sym first i) (sym second i)))
    ∙ is
