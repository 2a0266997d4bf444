-- The name in the line of a submission.
use Rattle.std.proofs.Common.{◌≡◌, ℕ, List, ◌++◌, ◌∙◌, ap}
use Rattle.std.proofs.lemmas.List.{append_assoc}
use Rattle.std.specs.Prelude.{codes}
use Rattle.ge_model_core.specs.Submitting.{quoted}

quoted_behind : (line name : List ℕ) → line ++ codes " (\"" ++ name ++ codes "\") has been submitted" ≡ line ++ quoted name
quoted_behind line name =
    ap (λ (front : List ℕ). front ++ codes "\") has been submitted") (append_assoc line (codes " (\"") name)
    ∙ append_assoc line (codes " (\"" ++ name) (codes "\") has been submitted")

-- the same by what each part was put behind
pub quoted_put : (line begun named all name : List ℕ) → begun ≡ line ++ codes " (\"" → named ≡ begun ++ name → all ≡ named ++ codes "\") has been submitted" → all ≡ line ++ quoted name
quoted_put line begun named all name first second third =
    third
    ∙ ap (λ (front : List ℕ). front ++ codes "\") has been submitted") (second ∙ ap (λ (front : List ℕ). front ++ name) first)
    ∙ quoted_behind line name
