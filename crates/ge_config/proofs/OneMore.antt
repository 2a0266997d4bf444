-- One more override is read.
use Rattle.std.proofs.Common.{◌≡◌, ℕ, ◌==◌, false, List, [], ◌∷◌, ◌++◌, length, Option, Some, None, refl, sym, ap, ◌∙◌, append_assoc}
use Rattle.ge_model_config.specs.Overrides.{before_others, override_of, overrides_between}
use Rattle.ge_config.specs.Joined.{before_rest}

pub one_more : (so_far left : List (List ℕ × List ℕ)) (text : List ℕ) (others : List (List ℕ)) (pair : List ℕ × List ℕ) → (length others == 0) ≡ false
    → override_of text ≡ Some pair → left ≡ so_far ++ pair ∷ [] → before_rest left (overrides_between others) ≡ before_rest so_far (overrides_between (text ∷ others))
one_more so_far left text [] pair more is add = cc
one_more so_far left text (next ∷ others) pair more is add =
    ap (λ l. before_rest l (overrides_between (next ∷ others))) add ∙ by (overrides_between (next ∷ others))
    ∙ sym (ap (λ p. before_rest so_far (before_others p (overrides_between (next ∷ others)))) is)
  where
    by : (o : Option (List (List ℕ × List ℕ))) → before_rest (so_far ++ pair ∷ []) o ≡ before_rest so_far (before_others (Some pair) o)
    by None = refl
    by (Some rest) = ap Some (append_assoc so_far (pair ∷ []) rest)
