-- A submission without a script.
use Rattle.std.proofs.Common.{◌≡◌, ℕ, List, [], ◌∷◌, length, refl, arith}
use Rattle.std.specs.Prelude.{Some}
use Rattle.ge_model_grammar.specs.Commands.{script_options}

pub alone : (script : List ℕ) → length script ≡ 0 → script_options script ≡ Some []
unfolding script_options
alone [] none = refl
alone (b ∷ script) none = absurd (omega (arith, none))
