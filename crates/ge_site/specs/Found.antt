-- A value where it lies, as the value that it stands for.
use Rattle.ge_model_rows.specs.ValueRows.{Value, Amount, Word}
use Rattle.ge_site.specs.declared.resolving.Found.{Found}
use Rattle.ge_site.specs.declared.resolving.Found.TheVariants.{Kept, Limit, Name}

abbrev pub value_found : Found → Value
value_found (Kept value) = value.now
value_found (Limit amount) = Amount amount
value_found (Name word) = Word word.now
