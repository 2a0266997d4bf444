-- Without what two sets share, the first has the numbers that the second doesn't have.
use Rattle.std.proofs.Common.{◌≡◌, ◌&&◌, Bool, true, false, not, List, refl, sym, ap, ◌∙◌}
use Rattle.ge_model_rows.specs.TaskRows.{TaskSpan, is_form}
use Rattle.ge_model_rows.specs.Sets.{has_number, meet, difference}
use Rattle.ge_model_rows.proofs.Together.{meet_form, meet_has, difference_form, difference_has}
use Rattle.ge_model_rows.proofs.Unique.{one_form}

without_both : (u v : Bool) → (u && not (u && v)) ≡ (u && not v)
without_both true v = refl
without_both false v = refl

without_shared : (s t : List TaskSpan) → is_form s ≡ true → is_form t ≡ true → difference s (meet s t) ≡ difference s t
without_shared s t form other =
    one_form (difference s (meet s t)) (difference s t) (difference_form s (meet s t) form (meet_form s t form other)) (difference_form s t form other)
    (λ m. difference_has m s (meet s t) form (meet_form s t form other)
    ∙ ap (λ b. has_number m s && not b) (meet_has m s t form other)
    ∙ without_both (has_number m s) (has_number m t)
    ∙ sym (difference_has m s t form other))

pub shared_removed : (s t both made : List TaskSpan) → is_form s ≡ true → is_form t ≡ true → both ≡ meet s t → made ≡ difference s both → made ≡ difference s t
shared_removed s t both made form other shared is = is ∙ ap (λ (b : List TaskSpan). difference s b) shared ∙ without_shared s t form other
