-- The amount of a text, whatever the fault is where it has none.
use Rattle.std.proofs.Common.{◌≡◌, ℕ, List, [], ◌∷◌, refl, Option, Some, None}
use Rattle.std.specs.Result.{result_ok}
use Rattle.ge_model_text.specs.declared.Form.{Form}
use Rattle.ge_model_text.specs.Reading.{reading, answer}
use Rattle.ge_text.specs.Amounts.{from_start}

-- the length of a text changes no amount
pub same_amount : (length other : ℕ) (amount : Option ℕ) → result_ok (answer length amount) ≡ result_ok (answer other amount)
same_amount length other None = refl
same_amount length other (Some amount) = refl

-- an empty text has no amount either way
pub amount_from_start : (form : Form) (text : List ℕ) → result_ok (reading form text) ≡ result_ok (from_start form text)
amount_from_start form [] = refl
amount_from_start form (b ∷ rest) = refl
