-- Refusals of what is left of a list, one item further.
use Rattle.std.proofs.Common.{◌≡◌, ℕ, ◌+◌, ◌<◌, List, ◌∷◌, drop, get_or, length, drop-cons, add-one, sym, ap, ◌∙◌}
use Rattle.std.specs.Prelude.{Option, flat_map}
use Rattle.ge_base.specs.declared.refusal.Refusal.{Refusal}
use Rattle.ge_model_rows.specs.Faults.{after_faults}
use Rattle.ge_model_rows.proofs.FaultLaws.{after_faults-append}

pub noted_further : {A : Type 0} (f : A → List Refusal) (xs : List A) (i : ℕ) (d : A) (old new total : Option Refusal) → i < length xs
    → new ≡ after_faults old (f (get_or xs i d)) → after_faults old (flat_map f (drop i xs)) ≡ total
    → after_faults new (flat_map f (drop (i + 1) xs)) ≡ total
noted_further {A} f xs i d old new total lt is so_far =
    ap (λ (o : Option Refusal). after_faults o (flat_map f (drop (i + 1) xs))) is
    ∙ sym (after_faults-append old (f (get_or xs i d)) (flat_map f (drop (i + 1) xs)))
    ∙ ap (λ (ys : List A). after_faults old (flat_map f ys)) (sym (drop-cons xs i d lt ∙ ap (λ (n : ℕ). get_or xs i d ∷ drop n xs) (sym (add-one i))))
    ∙ so_far
