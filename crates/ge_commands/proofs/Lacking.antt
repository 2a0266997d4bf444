-- Words that are too few for their forms.
use Rattle.std.proofs.Common.{◌≡◌, ℕ, Bool, true, false, ◌&&◌, length, List, [], ◌∷◌, refl, arith, Bor}
use Rattle.std.specs.Prelude.{Option, Some, None, if◌then◌else◌}
use Rattle.ge_model_grammar.specs.declared.WordForm.{WordForm}
use Rattle.ge_model_grammar.specs.declared.Effect.TheVariants.{Idle}
use Rattle.ge_model_grammar.specs.Forms.{has_form}
use Rattle.ge_model_grammar.specs.Shapes.{shape, words_for}
use Rattle.ge_commands.specs.Lent.{texts}

never : (b : Bool) (words : List (List ℕ)) → (if b && false then Some words else None) ≡ None
never true words = refl
never false words = refl

pub one_lacking : (form other : WordForm) (words : List (Bor (List ℕ))) → length words ≡ 1 → words_for (texts words) (shape [] (form ∷ other ∷ []) Idle) ≡ None
one_lacking form other [] one = absurd (omega (arith, one))
one_lacking form other (w ∷ []) one = never (has_form form w.now) (w.now ∷ [])
one_lacking form other (w ∷ v ∷ words) one = absurd (omega (arith, one))
