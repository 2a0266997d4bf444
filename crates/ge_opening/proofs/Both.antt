-- Two tests of each element of a list.
use Rattle.std.proofs.Common.{◌≡◌, Bool, true, false, ◌&&◌, List, [], ◌∷◌, refl, ap, ◌∙◌}
use Rattle.std.specs.List.{list_all}

turned : (a b c d : Bool) → (a && b && (c && d)) ≡ (a && c && (b && d))
turned false b c d = refl
turned true false true d = refl
turned true false false d = refl
turned true true c d = refl

pub all_both : {X : Type 0} (f g : X → Bool) (xs : List X) → list_all (λ x. f x && g x) xs ≡ (list_all f xs && list_all g xs)
all_both f g [] = refl
all_both f g (x ∷ xs) = ap (λ b. f x && g x && b) (all_both f g xs) ∙ turned (f x) (g x) (list_all f xs) (list_all g xs)
