use Rattle.std.proofs.Common.{◌≡◌, List, [], ◌∷◌, Ok, refl}
use Rattle.ge_model_rows.specs.TaskRows.{TaskSpan}
use Rattle.ge_model_rows.specs.Ranges.{parsed_set}
use Rattle.ge_model_rows.specs.SetText.{set_text}
use Rattle.ge_model_rows.proofs.Limits.{reads_back}
use Rattle.ge_laws.specs.TaskSets.{IsTaskSet}
use Rattle.ge_laws.proofs.sets.set_texts_read_back.Goals as goal

read_again : (set : List TaskSpan) → IsTaskSet set → parsed_set (set_text set) ≡ Ok set
read_again [] is = absurd (is.some refl)
read_again (s ∷ rest) is = reads_back s rest (record { form = is.form; few = is.few; low = is.low })

pub returns : goal.returns
returns c = read_again
