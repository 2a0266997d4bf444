-- Texts that are lent, as the texts themselves.
use Rattle.std.proofs.Common.{◌≡◌, ℕ, Bool, true, false, ◌||◌, List, [], ◌∷◌, ◌++◌, map, nat_eq, refl, ap, ◌∙◌, if◌then◌else◌}
use Rattle.std.proofs.lemmas.List.{map-append}
use Rattle.std.specs.Borrow.{Bor}
use Rattle.std.specs.List.{list_any}
use Rattle.std.specs.Cmp.Lexicographic.{pointwise}
use Rattle.ge_model_rows.specs.Pieces.{is_one_of, with_text}

-- a text is among the texts that are lent where it is among what they are
pub among_lent : (text : List ℕ) (lent : List (Bor (List ℕ))) → list_any (λ k. pointwise nat_eq text k.now) lent ≡ is_one_of text (map (λ k. k.now) lent)
among_lent text [] = refl
among_lent text (k ∷ lent) = ap (λ t. pointwise nat_eq text k.now || t) (among_lent text lent)

-- one more that is lent is one more text
pub added_lent : (lent new : List (Bor (List ℕ))) (text : Bor (List ℕ)) (texts : List (List ℕ)) → map (λ k. k.now) lent ≡ texts
    → new ≡ (if list_any (λ k. pointwise nat_eq text.now k.now) lent then lent else lent ++ text ∷ []) → map (λ k. k.now) new ≡ with_text texts text.now
added_lent lent new text texts shown put =
    ap (map (λ k. k.now)) put ∙ by (list_any (λ k. pointwise nat_eq text.now k.now) lent)
    ∙ ap (λ t. if t then map (λ k. k.now) lent else map (λ k. k.now) lent ++ text.now ∷ []) (among_lent text.now lent) ∙ ap (λ texts. with_text texts text.now) shown
  where
    by : (there : Bool) → map (λ k. k.now) (if there then lent else lent ++ text ∷ []) ≡ (if there then map (λ k. k.now) lent else map (λ k. k.now) lent ++ text.now ∷ [])
    by true = refl
    by false = map-append (λ k. k.now) lent (text ∷ [])
