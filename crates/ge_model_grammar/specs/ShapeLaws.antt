-- How options are read from the middle of words on.
use Rattle.std.specs.Prelude.{◌≡◌, refl, ℕ, zero, suc, List, [], ◌∷◌, drop}
use Rattle.ge_model_grammar.specs.Options.{Given}
use Rattle.ge_model_grammar.specs.Shapes.{Shape, options_from}

-- the words of the option that was read last are passed over
pub passed_over : (known : List Shape) (so_far : Given) (taken : ℕ) (words : List (List ℕ))
    → options_from known so_far taken words ≡ options_from known so_far 0 (drop taken words)
passed_over known so_far zero words = refl
passed_over known so_far (suc taken) [] = refl
passed_over known so_far (suc taken) (word ∷ words) = passed_over known so_far taken words
