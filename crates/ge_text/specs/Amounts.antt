-- The answer to a text, by where its reading ended.
use Rattle.std.specs.Prelude.{ℕ, List, Result, Ok, Err}
use Rattle.ge_model_text.specs.declared.Form.{Form}
use Rattle.ge_model_text.specs.declared.Progress.{Progress}
use Rattle.ge_model_text.specs.declared.Progress.TheVariants.{Start}
use Rattle.ge_model_text.specs.declared.ValueFault.{ValueFault}
use Rattle.ge_model_text.specs.declared.ValueFault.TheVariants.{Digit}
use Rattle.ge_model_text.specs.Reading.{reading_from, amount_done, answer}

-- what the machine answers to a text, also to an empty one
abbrev pub from_start : Form → List ℕ → Result ℕ ValueFault
from_start form text = reading_from form Start 0 text

-- a text of so many bytes that was read to its end, or to a byte that no text of the form has there
abbrev pub whole_answer : Form → ℕ → Result Progress ℕ → Result ℕ ValueFault
whole_answer form length (Ok progress) = answer length (amount_done form progress)
whole_answer form length (Err place) = Err (Digit place)
