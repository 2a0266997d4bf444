-- The forms of an event.
use Rattle.std.specs.Prelude.{Bool, true, false}
use Rattle.ge_model_rows.specs.EventRows.{Form}

-- whether the form says that the request was too long
abbrev pub is_cut : Form → Bool
is_cut Form.TooLong = true
is_cut Form.Good = false
is_cut Form.BadHeader = false
