-- A set without the number 0, which none has, is what it was.
use Rattle.std.proofs.Common.{◌≡◌, ℕ, zero, suc, true, false, nat_lt, List, [], ◌∷◌, ◌++◌, refl, ap, ◌∙◌, arith}
use Rattle.ge_model_rows.specs.TaskRows.{TaskSpan, is_form}
use Rattle.ge_model_rows.specs.Sets.{below, above, without_number}
use Rattle.ge_model_rows.proofs.Form.{Rises}
use Rattle.ge_model_rows.proofs.Sets.{form_rises, without_number_form}
use Rattle.ge_model_rows.proofs.Unique.{in_form_stays}
use Rattle.ge_model_rows.specs.Spans.{in_form}

none_below : (spans : List TaskSpan) → below 0 spans ≡ []
none_below [] = refl
none_below (s ∷ rest) = let h : nat_lt s.first 0 ≡ false = grind arith in rw h (none_below rest)

all_above : (low : ℕ) (spans : List TaskSpan) → Rises low spans → above 0 spans ≡ spans
all_above low [] rises = refl
all_above low (s ∷ rest) (higher, made, rises) =
    let here : nat_lt 0 s.first ≡ true = let p = made.positive in grind arith in
    rw here (ap (λ x. s ∷ x) (all_above s.last rest rises))

-- a set without a number, whichever, is in the form
pub without_form : (n : ℕ) (spans : List TaskSpan) → is_form spans ≡ true → is_form (without_number n spans) ≡ true
without_form zero spans form =
    ap (λ xs. is_form (in_form (xs ++ above 0 spans))) (none_below spans) ∙ ap (λ xs. is_form (in_form xs)) (all_above 0 spans (form_rises spans form))
    ∙ ap is_form (in_form_stays spans form) ∙ form
without_form (suc n) spans form = without_number_form (suc n) spans (omega arith) form
