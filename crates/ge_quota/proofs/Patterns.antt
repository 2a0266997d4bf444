-- What the pattern `*` stands for.
use Rattle.std.proofs.Common.{◌≡◌, ℕ, Bool, true, List, [], ◌∷◌, refl, sym, ap, ◌∙◌}
use Rattle.std.proofs.lemmas.Slice.Eq.{bytes_eq-Decides}
use Rattle.ge_collections.specs.Keyed.{text_eq}
use Rattle.ge_model_text.specs.Pattern.{pattern_covers}

-- every name, since its end is an end of it
covers_all : (name : List ℕ) → pattern_covers (42 ∷ []) name ≡ true
covers_all [] = refl
covers_all (b ∷ name) = covers_all name

pub star_covers : (star : Bool) (pattern name : List ℕ) → star ≡ text_eq pattern (42 ∷ []) → star ≡ true → star ≡ pattern_covers pattern name
star_covers star pattern name tested is =
    let same : pattern ≡ 42 ∷ [] = (bytes_eq-Decides pattern (42 ∷ [])).0 (sym tested ∙ is) in is ∙ sym (ap (λ p. pattern_covers p name) same ∙ covers_all name)
