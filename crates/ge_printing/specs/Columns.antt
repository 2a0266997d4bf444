-- What a column of a line shows, in words.
use Rattle.std.specs.Prelude.{ℕ, List, decimal}
use Rattle.ge_model_rows.specs.Values.{fixed_text}
use Rattle.ge_printing.specs.declared.columns.Column.{Column}
use Rattle.ge_printing.specs.declared.columns.Column.TheVariants.{Word, Number, Fixed}

abbrev pub column_text : Column → List ℕ
column_text (Word word) = word.now
column_text (Number n) = decimal n
column_text (Fixed millionths) = fixed_text millionths
